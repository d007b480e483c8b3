-- What holds over any list of calls.
use Rattle.std.specs.Prelude.{◌≡◌, ℕ, ◌≤◌, List, length, map, take}
use Rattle.hash_state.specs.Writes.{Write}
use Rattle.runs.specs.declared.call.Answer.{Answer}
use Rattle.runs.specs.declared.call.Replayed.{Replayed}
use Rattle.runs.specs.declared.call.Trace.{Trace}
use Rattle.runs.specs.Requests.{Request, Reply}
use Rattle.runs.specs.Ledger.{Ledger, answers, begun, run}
use Rattle.runs.specs.Reordering.{Reorders}
use Rattle.runs.specs.Apart.{StaysApart}
use Rattle.runs.specs.State.{State, steps}
use Rattle.runs.specs.Agreement.{Agrees}
use Rattle.runs.specs.Calls.{begin_rows, reply_of, requests_of, stage_run, taken_entries}

-- a new run with so many rows over these words
abbrev pub begun_state : ℕ → List ℕ → State
begun_state rows words = record { count = 0; rows = rows; words = words }

-- the ledger of the first n requests after begin took the entries
abbrev pub ledger_after : List ℕ → List Request → ℕ → Ledger
ledger_after entries requests n = run (begun entries) (take n requests)

-- after begin took the entries and gave the start, and after each of the calls, the first n of them: the answers so far are the ledger's; the run has as many rows as the ledger, and each row's word is its number; the rows come again by one keep and the columns; and they stay apart
pub record Lasting (ONE : List Write → ℕ) (SEED : ℕ → List Write → ℕ) (entries : List ℕ) (start : State) (requests : List Request) (replies : List Reply) (end : State) : Type 0 where
  pub answered : (n : ℕ) → n ≤ length requests → take n replies ≡ answers ONE SEED (begun entries) (take n requests)
  pub agreed : (n : ℕ) → n ≤ length requests → Agrees ONE SEED (ledger_after entries requests n) (steps ONE SEED start (take n requests))
  pub ended : end ≡ steps ONE SEED start requests
  pub reorders : (n : ℕ) → n ≤ length requests → Reorders ONE SEED entries start (ledger_after entries requests n) (steps ONE SEED start (take n requests))
  pub apart : (n : ℕ) → n ≤ length requests → StaysApart ONE SEED (ledger_after entries requests n)

-- the same of a trace that was replayed over these entries and this work, with these places for answers: of the calls that were made, with the answers and the entries at their end
abbrev pub Lasts : (List Write → ℕ) → (ℕ → List Write → ℕ) → Trace → List ℕ → List ℕ → List Answer → Replayed → List ℕ → List Answer → Type 0
Lasts ONE SEED trace entries work places r left answered =
    Lasting ONE SEED (taken_entries trace entries) (begun_state (begin_rows trace entries) entries)
    (take r.made (requests_of trace entries work places)) (map reply_of (take r.made answered)) (stage_run r.stage left)
