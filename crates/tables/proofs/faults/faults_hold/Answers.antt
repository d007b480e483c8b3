use Rattle.std.proofs.Common.{refl}
use Rattle.tables.specs.Faults.{Borders, ChildNumbers, Entries, FaultNumbers, FirstFaults, Heights, ImageSizes, Lengths}
use Rattle.tables.proofs.faults.faults_hold.Goals as goal

lengths : Lengths
lengths = refl

entries : Entries
entries = refl

borders : Borders
borders = refl

children : ChildNumbers
children = refl

heights : Heights
heights = refl

numbers : FaultNumbers
numbers = refl

first : FirstFaults
first = refl

sizes : ImageSizes
sizes = refl

pub returns-clause-lengths : goal.returns-clause-lengths
returns-clause-lengths c = lengths

pub returns-clause-entries : goal.returns-clause-entries
returns-clause-entries c = entries

pub returns-clause-borders : goal.returns-clause-borders
returns-clause-borders c = borders

pub returns-clause-children : goal.returns-clause-children
returns-clause-children c = children

pub returns-clause-heights : goal.returns-clause-heights
returns-clause-heights c = heights

pub returns-clause-numbers : goal.returns-clause-numbers
returns-clause-numbers c = numbers

pub returns-clause-first : goal.returns-clause-first
returns-clause-first c = first

pub returns-clause-sizes : goal.returns-clause-sizes
returns-clause-sizes c = sizes
