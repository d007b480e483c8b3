use Rattle.std.proofs.Common.{refl}
use Rattle.tables.specs.Types.{BitmapBytes, ChildCounts, KeySigns, KindNumbers, Kinds, NullsRead, Signs, Sizes, Tables, WidthBytes}
use Rattle.tables.proofs.types.types_hold.Goals as goal

kinds : Kinds
kinds = refl

sizes : Sizes
sizes = refl

key_signs : KeySigns
key_signs = refl

numbers : KindNumbers
numbers = refl

tables : Tables
tables = refl

counts : ChildCounts
counts = refl

nulls : NullsRead
nulls = refl

widths : WidthBytes
widths = refl

signs : Signs
signs = refl

bitmaps : BitmapBytes
bitmaps = refl

pub returns-clause-kinds : goal.returns-clause-kinds
returns-clause-kinds c = kinds

pub returns-clause-sizes : goal.returns-clause-sizes
returns-clause-sizes c = sizes

pub returns-clause-key_signs : goal.returns-clause-key_signs
returns-clause-key_signs c = key_signs

pub returns-clause-numbers : goal.returns-clause-numbers
returns-clause-numbers c = numbers

pub returns-clause-tables : goal.returns-clause-tables
returns-clause-tables c = tables

pub returns-clause-counts : goal.returns-clause-counts
returns-clause-counts c = counts

pub returns-clause-nulls : goal.returns-clause-nulls
returns-clause-nulls c = nulls

pub returns-clause-widths : goal.returns-clause-widths
returns-clause-widths c = widths

pub returns-clause-signs : goal.returns-clause-signs
returns-clause-signs c = signs

pub returns-clause-bitmaps : goal.returns-clause-bitmaps
returns-clause-bitmaps c = bitmaps
