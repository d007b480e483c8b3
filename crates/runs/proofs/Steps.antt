-- What a column and a keep make of a run and its words is a step of its state.
use Rattle.std.proofs.Common.{◌≡◌, ℕ, ◌+◌, ◌++◌, Bool, true, List, take, drop, [], ◌∷◌, sym, Some, None, Option, refl, ap, ap₂, ◌∙◌, arith, Bor}
use Rattle.hash_state.specs.Writes.{Write}
use Rattle.layout.specs.Records.{record_at}
use Rattle.image.specs.Read.{slot_at}
use Rattle.row_rule.specs.Number.{number_of}
use Rattle.leaves.specs.Rows.{by_place, row_of}
use Rattle.columns.specs.Column.{RowsThere, column_words, met_rows}
use Rattle.runs.specs.Columns.{list_below, meeting_of, met_at}
use Rattle.runs.specs.Runs.{list_of}
use Rattle.runs.specs.Refusals.{refusal, unless}
use Rattle.runs.specs.Requests.{Request}
use Rattle.runs.specs.State.{State, led_words, step, taken}
use Rattle.runs.proofs.Lists.{below_at}

pub row_met : (list : Option (Bor (List ℕ))) (j : ℕ) → row_of 0 list j ≡ met_at (list_of list) j
row_met None j = omega arith
row_met (Some list) j = refl

pub rows_meeting : (rows : ℕ) (list : Option (Bor (List ℕ))) → met_rows rows list ≡ meeting_of rows (list_of list)
rows_meeting rows None = refl
rows_meeting rows (Some list) = refl

pub rows_there : (rows : ℕ) (list : Option (Bor (List ℕ))) → list_below rows (list_of list) ≡ true → RowsThere rows list
rows_there rows None e j h = omega (arith, h)
rows_there rows (Some list) e j h = below_at rows list.now j e h

by_place_equal : (f g : ℕ → ℕ → ℕ) → ((j e : ℕ) → f j e ≡ g j e) → (words : List ℕ) (k : ℕ) → by_place f k words ≡ by_place g k words
by_place_equal f g same [] k = refl
by_place_equal f g same (w ∷ words) k = ap₂ ◌∷◌ (same k w) (by_place_equal f g same words (k + 1))

module _ (ONE : List Write → ℕ) (SEED : ℕ → List Write → ℕ) where
  pub words_led : (bytes : List ℕ) (node : ℕ) (list : Option (Bor (List ℕ))) (first : Bool) (rows : ℕ) (words : List ℕ) → meeting_of (record_at bytes node).rows (list_of list) ≡ rows
      → column_words ONE SEED bytes node list first words ≡ led_words ONE SEED first rows (record { bytes = bytes; node = node }) (list_of list) words
  words_led bytes node list first rows words e =
      ap (λ (n : ℕ). by_place (λ j x. number_of ONE SEED first x (slot_at bytes node (row_of 0 list j))) 0 (take n words) ++ drop n words) (rows_meeting (record_at bytes node).rows list ∙ e)
      ∙ ap (λ (xs : List ℕ). xs ++ drop rows words)
      (by_place_equal _ _ (λ j x. ap (λ (k : ℕ). number_of ONE SEED first x (slot_at bytes node k)) (row_met list j)) (take rows words) 0)

-- the words that are left, where the state is or another
pub words_unless : (o : Option ℕ) (s t : State) → unless o (λ _. s.words) t.words ≡ (unless o (λ _. s) t).words
words_unless (Some n) s t = refl
words_unless None s t = refl

-- a request that is refused leaves the state, and another takes it on
module _ (ONE : List Write → ℕ) (SEED : ℕ → List Write → ℕ) (s : State) (q : Request) where
  pub stays : (n : ℕ) → Some n ≡ refusal s.rows s.count q → step ONE SEED s q ≡ s
  stays n e = ap (λ (o : Option ℕ). unless o (λ _. s) (taken ONE SEED s q)) (sym e)

  pub goes_on : None ≡ refusal s.rows s.count q → step ONE SEED s q ≡ taken ONE SEED s q
  goes_on e = ap (λ (o : Option ℕ). unless o (λ _. s) (taken ONE SEED s q)) (sym e)

  -- a run whose words become those of the step is then the step
  module _ (words : List ℕ) (become : words ≡ (step ONE SEED s q).words) where
    pub step_refused : (n : ℕ) → Some n ≡ refusal s.rows s.count q → record { count = s.count; rows = s.rows; words = words } ≡ step ONE SEED s q
    step_refused n e =
        ap (λ (xs : List ℕ). record { count = s.count; rows = s.rows; words = xs }) (become ∙ ap (λ (t : State). t.words) (stays n e)) ∙ sym (stays n e)

    pub step_made : (count rows : ℕ) → None ≡ refusal s.rows s.count q → count ≡ (taken ONE SEED s q).count → rows ≡ (taken ONE SEED s q).rows
        → record { count = count; rows = rows; words = words } ≡ step ONE SEED s q
    step_made count rows e c r =
        (λ i. record { count = c i; rows = r i; words = (become ∙ ap (λ (t : State). t.words) (goes_on e)) i }) ∙ sym (goes_on e)
