-- Which words of the work a call leaves open.
use Rattle.std.specs.Prelude.{ℕ, Bool, false, ◌||◌, List, ◌∷◌}
use Rattle.columns.specs.Open.{is_open}
use Rattle.runs.specs.Requests.{Request, Reply, column, keep, accepted}

-- whether a call opens a word of the work, by what it asked for and what it was answered: a column or a keep that is accepted opens those that it was lent and that are not claimed. No other call opens one: a call that is refused leaves all of the work, and so does a read
abbrev pub opens : Request → Reply → ℕ → Bool
opens (column c list lent) accepted k = is_open lent.claimed lent.work k
opens (keep list lent) accepted k = is_open lent.claimed lent.work k
opens request reply k = false

-- whether one of a list of calls opens it, each of them with its reply
abbrev pub opened : List Request → List Reply → ℕ → Bool
opened (request ∷ requests) (reply ∷ replies) k = opens request reply k || opened requests replies k
opened requests replies k = false
