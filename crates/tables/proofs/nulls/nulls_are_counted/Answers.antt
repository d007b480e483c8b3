use Rattle.std.proofs.Common.{refl}
use Rattle.tables.specs.Nulls.{ManyNulls, NoNulls}
use Rattle.tables.proofs.nulls.nulls_are_counted.Goals as goal

many : ManyNulls
many = refl

none : NoNulls
none = refl

pub returns-clause-many : goal.returns-clause-many
returns-clause-many c = many

pub returns-clause-none : goal.returns-clause-none
returns-clause-none c = none
