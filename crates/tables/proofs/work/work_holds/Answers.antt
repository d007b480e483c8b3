use Rattle.std.proofs.Common.{refl}
use Rattle.tables.specs.Work.{LeafTypes, Needs, OpenWords}
use Rattle.tables.proofs.work.work_holds.Goals as goal

leaves : LeafTypes
leaves = refl

open_words : OpenWords
open_words = refl

needs : Needs
needs = refl

pub returns-clause-leaves : goal.returns-clause-leaves
returns-clause-leaves c = leaves

pub returns-clause-open_words : goal.returns-clause-open_words
returns-clause-open_words c = open_words

pub returns-clause-needs : goal.returns-clause-needs
returns-clause-needs c = needs
