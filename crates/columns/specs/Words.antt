-- What words become that each meet a row of a node.
use Rattle.std.specs.Prelude.{ℕ, List, Some}
use Rattle.hash_state.specs.Writes.{Write}
use Rattle.image.specs.Read.{slot_at}
use Rattle.layout.specs.Nodes.{child, child_count}
use Rattle.leaves.specs.Rows.{by_place, row_of}
use Rattle.row_rule.specs.Number.{number_of}
use Rattle.columns.specs.Fold.{entry, is_first, row_number, through}
use Rattle.columns.specs.Jobs.{row_by}
use Rattle.columns.specs.Region.{number_in}
use Rattle.columns.specs.declared.met.Fold.{Fold}
use Rattle.columns.specs.declared.met.Met.{Met}
use Rattle.columns.specs.declared.node.Node.{Node}

-- the row that word j meets
abbrev pub row_met : Met → ℕ → ℕ
row_met m j = row_of m.rows.lo m.rows.list j

-- a row's number from an entry, by the numbers of its child rows in the region
abbrev pub folded_number : Fold → ℕ → ℕ → ℕ
folded_number f e row = row_number f.met.node.t f.met.node.column.bytes.now f.met.node.column.record (number_in f.region) f.met.first e row

-- each word becomes that number of its row
abbrev pub folded_words : Fold → List ℕ → List ℕ
folded_words f words = by_place (λ j e. folded_number f e (row_met f.met j)) 0 words

module _ (ONE : List Write → ℕ) (SEED : ℕ → List Write → ℕ) where
  -- each word becomes the row rule's number of the slot of its row
  abbrev pub met_words : Met → List ℕ → List ℕ
  met_words m words = by_place (λ j e. number_of ONE SEED m.first e (slot_at m.node.column.bytes.now m.node.number (row_met m j))) 0 words

  -- each word becomes its row's number: at a leaf by the row itself, else by the numbers of child rows in the region
  abbrev pub hashed_words : Fold → List ℕ → List ℕ
  hashed_words f words =
      by_place (λ j e. row_by ONE SEED f.met.node.column.bytes.now f.met.node.t f.met.node.column.record (number_in f.region) f.met.first e (row_met f.met j)) 0 words

  -- what a word becomes by the first m children of a node at a row, one after the other
  abbrev pub through_some : Node → ℕ → ℕ → ℕ → ℕ
  through_some n m row x =
      through (λ s y. number_of ONE SEED (is_first s) (entry s y) (slot_at n.column.bytes.now (child n.column.bytes.now n.column.record s) row)) m 0 x

  -- what it becomes by all of them
  abbrev pub through_children : Node → ℕ → ℕ → ℕ
  through_children n row x = through_some n (child_count (Some n.t) n.column.record) row x
