use Rattle.std.proofs.Common.{refl}
use Rattle.tables.specs.Slots.{Answers, KeysFirst, KindsAlone, Leaves, Nested, Parents, Passes}
use Rattle.tables.proofs.slots.slots_hold.Goals as goal

passes : Passes
passes = refl

answers : Answers
answers = refl

leaves : Leaves
leaves = refl

parents : Parents
parents = refl

keys : KeysFirst
keys = refl

nested : Nested
nested = refl

kinds : KindsAlone
kinds = refl

pub returns-clause-passes : goal.returns-clause-passes
returns-clause-passes c = passes

pub returns-clause-answers : goal.returns-clause-answers
returns-clause-answers c = answers

pub returns-clause-leaves : goal.returns-clause-leaves
returns-clause-leaves c = leaves

pub returns-clause-parents : goal.returns-clause-parents
returns-clause-parents c = parents

pub returns-clause-keys : goal.returns-clause-keys
returns-clause-keys c = keys

pub returns-clause-nested : goal.returns-clause-nested
returns-clause-nested c = nested

pub returns-clause-kinds : goal.returns-clause-kinds
returns-clause-kinds c = kinds
