use Rattle.std.proofs.Common.{◌∷◌, ap₂, arith, lit<, lit≤, refl}
use Rattle.tables.specs.Ledgers.{KeptApart, KeptComesAgain, KeptRows, RoomIsEnough, kept, room}
use Rattle.runs.specs.Reordering.{Enough}
use Rattle.tables.proofs.calls.rows_come_again.Goals as goal

rows : KeptRows
rows = refl

enough : Enough room 3 kept
enough = record { before = lit≤ tt; after = lit≤ tt; keep = lit≤ tt; columns = (lit≤ tt, (lit≤ tt, tt)) }

room_is_enough : RoomIsEnough
room_is_enough = (refl, enough)

again : KeptComesAgain
again ONE SEED law =
    let come = law room enough in
    let words = ap₂ ◌∷◌ (come.same.words 0 (lit< tt)) (ap₂ ◌∷◌ (come.same.words 1 (lit< tt)) (ap₂ ◌∷◌ (come.same.words 2 (lit< tt)) refl)) in
    (come.answered, come.ledger, come.replied, come.same.rows, come.same.count, words)

apart : KeptApart
apart ONE SEED law = (λ e. omega (arith, (law refl 0 1 (lit< tt) (lit< tt) refl).0 e), (law refl 0 2 (lit< tt) (lit< tt) refl).1 refl)

pub returns-clause-rows : goal.returns-clause-rows
returns-clause-rows c = rows

pub returns-clause-enough : goal.returns-clause-enough
returns-clause-enough c = room_is_enough

pub returns-clause-again : goal.returns-clause-again
returns-clause-again c = again

pub returns-clause-apart : goal.returns-clause-apart
returns-clause-apart c = apart
