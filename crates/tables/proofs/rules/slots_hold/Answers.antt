use Rattle.std.proofs.Common.{refl}
use Rattle.tables.specs.Rules.{CombineFirst, CombineLater, NullForms, OwnNumbers, ViewWrites}
use Rattle.tables.proofs.rules.slots_hold.Goals as goal

first : CombineFirst
first = refl

later : CombineLater
later = refl

nulls : NullForms
nulls = refl

own : OwnNumbers
own = refl

views : ViewWrites
views = refl

pub returns-clause-first : goal.returns-clause-first
returns-clause-first c = first

pub returns-clause-later : goal.returns-clause-later
returns-clause-later c = later

pub returns-clause-nulls : goal.returns-clause-nulls
returns-clause-nulls c = nulls

pub returns-clause-own : goal.returns-clause-own
returns-clause-own c = own

pub returns-clause-views : goal.returns-clause-views
returns-clause-views c = views
