-- A column as a call meets it: all rows of a node, or the rows of a list.
use Rattle.std.specs.Prelude.{ℕ, ◌-◌, ◌^◌, ◌<◌, ◌≤◌, Bool, cond, List, ◌++◌, length, take, drop, Some, None, Option, nat_lt}
use Rattle.std.specs.Borrow.{Bor}
use Rattle.layout.specs.Records.{nodes, record_at}
use Rattle.hash_state.specs.Writes.{Write}
use Rattle.image.specs.Read.{slot_at}
use Rattle.row_rule.specs.Number.{number_of}
use Rattle.leaves.specs.Rows.{by_place, row_of}
use Rattle.columns.specs.Jobs.{need}
use Rattle.columns.specs.declared.selection.Selection.{Selection}

-- how many words meet a row, of a node of so many rows
abbrev pub met_rows : ℕ → Option (Bor (List ℕ)) → ℕ
met_rows rows None = rows
met_rows rows (Some list) = length list.now

-- each row that is met is one of so many
abbrev pub RowsThere : ℕ → Option (Bor (List ℕ)) → Type 0
RowsThere rows list = (j : ℕ) → j < met_rows rows list → row_of 0 list j < rows

-- the words of work that a node needs, where there is such a node
abbrev pub node_need : List ℕ → ℕ → Option ℕ
node_need bytes node = cond (nat_lt node (nodes bytes)) (Some (need bytes node)) None

-- the words after a column: each that meets a row becomes its number, from what it was, and those behind them stay
abbrev pub column_words : (List Write → ℕ) → (ℕ → List Write → ℕ) → List ℕ → ℕ → Option (Bor (List ℕ)) → Bool → List ℕ → List ℕ
column_words ONE SEED bytes node list first words =
    let n : ℕ = met_rows (record_at bytes node).rows list in
    by_place (λ j e. number_of ONE SEED first e (slot_at bytes node (row_of 0 list j))) 0 (take n words) ++ drop n words

-- what a call over a column asks, where there are so many entries, words of work, and claimed words at its front
pub record Hashable (s : Selection) (words work claimed : ℕ) : Type 0 where
  -- there is such a node
  pub there : s.node < nodes s.image.now.bytes.now
  -- each row that is met is one of its rows
  pub rows : RowsThere (record_at s.image.now.bytes.now s.node).rows s.list
  -- there is an entry for each
  pub entries : met_rows (record_at s.image.now.bytes.now s.node).rows s.list ≤ words
  -- their count fits 32 bits
  pub few : met_rows (record_at s.image.now.bytes.now s.node).rows s.list < 2 ^ 32
  -- what is not claimed of the work has room for the node's need
  pub room : need s.image.now.bytes.now s.node ≤ work - claimed
