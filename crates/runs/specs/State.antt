-- What calls make of a run and of the entries.
use Rattle.std.specs.Prelude.{ℕ, ◌+◌, Bool, List, [], ◌∷◌, ◌++◌, map, length, take, drop, ◌==◌, slice_index, Option}
use Rattle.hash_state.specs.Writes.{Write}
use Rattle.row_rule.specs.Number.{number_of}
use Rattle.leaves.specs.Rows.{by_place}
use Rattle.runs.specs.Columns.{Column, met_at, slot}
use Rattle.runs.specs.Requests.{Request, Reply, column, keep, read}
use Rattle.runs.specs.Refusals.{refusal, reply, unless}

-- the accepted columns, the rows, and the words of the entries, of which the first are the rows'
pub record State : Type 0 where
  pub count : ℕ
  pub rows : ℕ
  pub words : List ℕ

-- the words at listed places first, and behind them the words that were there
abbrev pub kept : List ℕ → List ℕ → List ℕ
kept list words = map (slice_index words) list ++ drop (length list) words

-- what is answered in a state
abbrev pub told : State → Request → Reply
told s request = reply s.rows s.count (slice_index s.words) request

module _ (ONE : List Write → ℕ) (SEED : ℕ → List Write → ℕ) where
  -- the words of so many rows, each led through the row rule by the slot that it meets, as the first column or later; those behind them stay
  abbrev pub led_words : Bool → ℕ → Column → Option (List ℕ) → List ℕ → List ℕ
  led_words first rows c list words =
      by_place (λ j e. number_of ONE SEED first e (slot c (met_at list j))) 0 (take rows words) ++ drop rows words

  -- what an accepted call makes of a state: a column leads the words on and counts one, a keep has the listed rows, a read changes nothing
  abbrev pub taken : State → Request → State
  taken s (column c list lent) =
      record {
        count = s.count + 1;
        rows = s.rows;
        words = led_words (s.count == 0) s.rows c list s.words;
      }
  taken s (keep list lent) = record { count = s.count; rows = length list; words = kept list s.words }
  taken s (read k entries) = s

  -- a refused call changes nothing
  abbrev pub step : State → Request → State
  step s request = unless (refusal s.rows s.count request) (λ _. s) (taken s request)

  -- one request after the other
  abbrev pub steps : State → List Request → State
  steps s [] = s
  steps s (request ∷ rest) = steps (step s request) rest

  -- what is answered to one request after the other
  abbrev pub replies : State → List Request → List Reply
  replies s [] = []
  replies s (request ∷ rest) = told s request ∷ replies (step s request) rest
