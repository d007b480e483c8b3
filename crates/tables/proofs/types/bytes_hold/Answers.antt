use Rattle.std.proofs.Common.{refl}
use Rattle.tables.specs.Bytes.{Bits, ChildRows, Counts, Elements, Fields, LongViews, Marks, Records, TypedMarks, ViewParts}
use Rattle.tables.proofs.types.bytes_hold.Goals as goal

fields : Fields
fields = refl

bits : Bits
bits = refl

records : Records
records = refl

counts : Counts
counts = refl

marks : Marks
marks = refl

typed_marks : TypedMarks
typed_marks = refl

elements : Elements
elements = refl

children : ChildRows
children = refl

views : ViewParts
views = refl

long : LongViews
long = refl

pub returns-clause-fields : goal.returns-clause-fields
returns-clause-fields c = fields

pub returns-clause-bits : goal.returns-clause-bits
returns-clause-bits c = bits

pub returns-clause-records : goal.returns-clause-records
returns-clause-records c = records

pub returns-clause-counts : goal.returns-clause-counts
returns-clause-counts c = counts

pub returns-clause-marks : goal.returns-clause-marks
returns-clause-marks c = marks

pub returns-clause-typed_marks : goal.returns-clause-typed_marks
returns-clause-typed_marks c = typed_marks

pub returns-clause-elements : goal.returns-clause-elements
returns-clause-elements c = elements

pub returns-clause-children : goal.returns-clause-children
returns-clause-children c = children

pub returns-clause-views : goal.returns-clause-views
returns-clause-views c = views

pub returns-clause-long : goal.returns-clause-long
returns-clause-long c = long
