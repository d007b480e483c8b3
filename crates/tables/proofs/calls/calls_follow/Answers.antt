use Rattle.std.proofs.Common.{lit≤, refl}
use Rattle.tables.specs.Ledgers.{BegunAgrees, CallsLast, ReadFollows, RefusedKeepsWork, one_column}
use Rattle.tables.proofs.calls.calls_follow.Goals as goal

agrees : BegunAgrees
agrees ONE SEED = record { rows = refl; count = refl; holds = (refl, refl, (refl, refl, (refl, refl, tt))) }

follows : ReadFollows
follows ONE SEED reply end law = law one_column (agrees ONE SEED)

last : CallsLast
last ONE SEED replies end law = (law.answered 3 (lit≤ tt), law.agreed 2 (lit≤ tt), law.ended, law.reorders 3 (lit≤ tt), law.apart 3 (lit≤ tt))

work : RefusedKeepsWork
work new stay = (stay.1 0 refl, stay.1 2 refl, stay.1 4 refl)

pub returns-clause-agrees : goal.returns-clause-agrees
returns-clause-agrees c = agrees

pub returns-clause-follows : goal.returns-clause-follows
returns-clause-follows c = follows

pub returns-clause-last : goal.returns-clause-last
returns-clause-last c = last

pub returns-clause-work : goal.returns-clause-work
returns-clause-work c = work
