use Rattle.std.proofs.Common.{refl}
use Rattle.tables.specs.Calls.{BeginLimit, ColumnLimits, ColumnOrder, KeepLimit, KeepRefusals, ReadRefusals, RefusalNumbers, Unclaimed}
use Rattle.tables.proofs.calls.refusals_hold.Goals as goal

unclaimed : Unclaimed
unclaimed = refl

numbers : RefusalNumbers
numbers = refl

begin : BeginLimit
begin = refl

columns : ColumnLimits
columns = refl

order : ColumnOrder
order = refl

keeps : KeepRefusals
keeps = refl

reads : ReadRefusals
reads = refl

keep_limit : KeepLimit
keep_limit list below = (λ long. rw (long, below) refl, λ long. rw long refl)

pub returns-clause-unclaimed : goal.returns-clause-unclaimed
returns-clause-unclaimed c = unclaimed

pub returns-clause-numbers : goal.returns-clause-numbers
returns-clause-numbers c = numbers

pub returns-clause-begin : goal.returns-clause-begin
returns-clause-begin c = begin

pub returns-clause-columns : goal.returns-clause-columns
returns-clause-columns c = columns

pub returns-clause-order : goal.returns-clause-order
returns-clause-order c = order

pub returns-clause-keeps : goal.returns-clause-keeps
returns-clause-keeps c = keeps

pub returns-clause-reads : goal.returns-clause-reads
returns-clause-reads c = reads

pub returns-clause-keep_limit : goal.returns-clause-keep_limit
returns-clause-keep_limit c = keep_limit
