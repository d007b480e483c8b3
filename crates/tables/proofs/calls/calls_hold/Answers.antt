use Rattle.std.proofs.Common.{refl}
use Rattle.tables.specs.Calls.{AllCombine, CombiningFirst, CombiningLater, MadeCalls, Misuses, OpenedByCalls, OpenedWords, RowsMet, TableCombines, TableRows}
use Rattle.tables.proofs.calls.calls_hold.Goals as goal

first : CombiningFirst
first = refl

later : CombiningLater
later = refl

columns : TableCombines
columns = refl

all : AllCombine
all = refl

rows : TableRows
rows = (refl, refl)

met : RowsMet
met = (refl, refl)

misuses : Misuses
misuses = refl

made : MadeCalls
made = refl

open_words : OpenedWords
open_words = refl

opened : OpenedByCalls
opened = refl

pub returns-clause-first : goal.returns-clause-first
returns-clause-first c = first

pub returns-clause-later : goal.returns-clause-later
returns-clause-later c = later

pub returns-clause-columns : goal.returns-clause-columns
returns-clause-columns c = columns

pub returns-clause-all : goal.returns-clause-all
returns-clause-all c = all

pub returns-clause-rows : goal.returns-clause-rows
returns-clause-rows c = rows

pub returns-clause-met : goal.returns-clause-met
returns-clause-met c = met

pub returns-clause-misuses : goal.returns-clause-misuses
returns-clause-misuses c = misuses

pub returns-clause-made : goal.returns-clause-made
returns-clause-made c = made

pub returns-clause-open_words : goal.returns-clause-open_words
returns-clause-open_words c = open_words

pub returns-clause-opened : goal.returns-clause-opened
returns-clause-opened c = opened
