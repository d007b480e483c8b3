-- Rows that met equal slots, in combining columns only, stay apart.
use Rattle.std.proofs.Common.{◌≡◌, ℕ, ◌+◌, ◌^◌, ◌<◌, Bool, true, false, not, ◌&&◌, List, [], ◌∷◌, map, length, slice_index, Some, None, Option, refl, sym, ap, ap₂, subst, ◌∙◌, true≢false}
use Rattle.std.proofs.lemmas.Bool.{and_parts, cond_both}
use Rattle.std.proofs.lemmas.List.Elements.{All-from_recursion}
use Rattle.hash_state.specs.Writes.{Write}
use Rattle.layout.specs.Nodes.{marked, reads_nulls}
use Rattle.layout.specs.Records.{record_at}
use Rattle.layout.specs.Types.{data_type}
use Rattle.layout.specs.declared.data_type.DataType.{DataType}
use Rattle.layout.specs.declared.data_type.DataType.TheVariants.{Dictionary, Struct, List as ListOf, ListView, Map, FixedSizeList, RunEnd}
use Rattle.layout.specs.declared.record.Record.{Record}
use Rattle.image.specs.Read.{slot_within, typed_slot, unmarked}
use Rattle.image.specs.Slot.{Slot, null, refer}
use Rattle.row_rule.specs.Laws.{combines as combines_slot}
use Rattle.row_rule.specs.Number.{number_of}
use Rattle.row_rule.proofs.Apart.{stays_apart as numbers_apart}
use Rattle.row_rule.proofs.Below.{stays_below}
use Rattle.columns.specs.Jobs.{or_null}
use Rattle.runs.specs.Columns.{Column, combines, combining, slot}
use Rattle.runs.specs.Requests.{Request}
use Rattle.runs.specs.Ledger.{Met, Row, Ledger, begun, is_first, led, no_row, row_at, run}
use Rattle.runs.specs.Apart.{StaysApart, all_combine}
use Rattle.runs.proofs.Ledgers.{Matches, Stands, sound_run}

-- the slots of a column that combines do

refer_combines : (first : Bool) (s : Slot) → not first ≡ true → combines_slot first (refer s) ≡ true
refer_combines true s e = absurd (true≢false (sym e))
refer_combines false s e = refl

unmarked_combines : (first : Bool) (t : DataType) (bytes : List ℕ) (r : Record) (down : ℕ → ℕ → Slot) (row at : ℕ) → combining first t ≡ true
    → combines_slot first (unmarked t bytes r down row at) ≡ true
unmarked_combines first (Dictionary w signed) bytes r down row at e = refer_combines first _ e
unmarked_combines first Struct bytes r down row at e = refl
unmarked_combines first (ListOf w) bytes r down row at e = refl
unmarked_combines first (ListView w) bytes r down row at e = refl
unmarked_combines first Map bytes r down row at e = refl
unmarked_combines first (FixedSizeList p) bytes r down row at e = refl
unmarked_combines first (RunEnd w) bytes r down row at e = refer_combines first _ e
unmarked_combines first rest bytes r down row at e = e

-- a column without a type has null slots only, which combine
read_combines : (first : Bool) (o : Option DataType) (bytes : List ℕ) (r : Record) (down : ℕ → ℕ → Slot) (row : ℕ) → combining first (or_null o) ≡ true
    → combines_slot first (elim o as (λ _. Slot) [ None ↦ null | Some t ↦ typed_slot t bytes r down row ]) ≡ true
read_combines first None bytes r down row e = refl
read_combines first (Some t) bytes r down row e =
    cond_both (reads_nulls t && marked bytes r row) null (unmarked t bytes r down row (r.start + row)) (λ s. combines_slot first s ≡ true) (λ _. refl)
    (λ _. unmarked_combines first t bytes r down row (r.start + row) e)

slot_combines : (first : Bool) (c : Column) (k : ℕ) → combines first c ≡ true → combines_slot first (slot c k) ≡ true
slot_combines first c k e = read_combines first (data_type (record_at c.bytes c.node)) c.bytes (record_at c.bytes c.node) (slot_within 15 c.bytes) k e

first_matches : (met : List Met) (columns : List Column) → Matches met columns → is_first met ≡ is_first columns
first_matches [] [] a = refl
first_matches [] (c ∷ columns) a = absurd a
first_matches (m ∷ met) [] a = absurd a
first_matches (m ∷ met) (c ∷ columns) a = refl

first_slots : (met : List Met) → is_first met ≡ is_first (map (λ m. m.slot) met)
first_slots [] = refl
first_slots (m ∷ met) = refl

module _ (ONE : List Write → ℕ) (SEED : ℕ → List Write → ℕ) where
  -- the slots alone lead an entry
  led_by : ℕ → List Slot → ℕ
  led_by e [] = e
  led_by e (s ∷ earlier) = number_of ONE SEED (is_first earlier) (led_by e earlier) s

  led_slots : (e : ℕ) (met : List Met) → led ONE SEED e met ≡ led_by e (map (λ m. m.slot) met)
  unfolding led_by
  led_slots e [] = refl
  led_slots e (m ∷ met) = ap₂ (λ (first : Bool) (x : ℕ). number_of ONE SEED first x m.slot) (first_slots met) (led_slots e met)

  led_same : (e : ℕ) (met met' : List Met) → map (λ m. m.slot) met ≡ map (λ m. m.slot) met' → led ONE SEED e met ≡ led ONE SEED e met'
  led_same e met met' s = led_slots e met ∙ ap (led_by e) s ∙ sym (led_slots e met')

  module _ (one : (ws : List Write) → ONE ws < 2 ^ 64) (seed : (s : ℕ) → s < 2 ^ 64 → (ws : List Write) → SEED s ws < 2 ^ 64) where
    led_below : (e : ℕ) (met : List Met) → e < 2 ^ 64 → led ONE SEED e met < 2 ^ 64
    led_below e [] h = h
    led_below e (m ∷ met) h = stays_below ONE SEED one seed (is_first met) (led ONE SEED e met) m.slot (led_below e met h)

    led_apart : (met : List Met) (columns : List Column) (a b : ℕ) → a < 2 ^ 64 → b < 2 ^ 64 → Matches met columns → all_combine columns ≡ true → led ONE SEED a met ≡ led ONE SEED b met → a ≡ b
    led_apart [] columns a b ha hb x c e = e
    led_apart (m ∷ met) [] a b ha hb x c e = absurd x
    led_apart (m ∷ met) (d ∷ columns) a b ha hb x c e =
        let p = and_parts _ _ c in
        let first : combines (is_first met) d ≡ true = ap (λ (f : Bool). combines f d) (first_matches met columns x.2) ∙ p.0 in
        let slots : combines_slot (is_first met) m.slot ≡ true = ap (combines_slot (is_first met)) x.0 ∙ slot_combines (is_first met) d m.at first in
        led_apart met columns a b ha hb x.2 p.1
        ((numbers_apart ONE SEED (is_first met) m.slot (led ONE SEED a met) (led ONE SEED b met) (led_below a met ha) (led_below b met hb) slots).0 e)

    pub stays_apart : (entries : List ℕ) (requests : List Request) → ((i : ℕ) → slice_index entries i < 2 ^ 64) → StaysApart ONE SEED (run (begun entries) requests)
    stays_apart entries requests words c i k hi hk e =
        let l : Ledger = run (begun entries) requests in
        let stands : (j : ℕ) → j < length l.rows → Stands entries l.columns (row_at l.rows j) = λ j h. All-from_recursion (Stands entries l.columns) l.rows (sound_run entries requests).rows j no_row h in
        let x : Row = row_at l.rows i in
        let y : Row = row_at l.rows k in
        let word : (j : ℕ) → j < length l.rows → (row_at l.rows j).entry < 2 ^ 64 = λ j h. subst (λ (n : ℕ). n < 2 ^ 64) (sym (stands j h).begins) (words (row_at l.rows j).origin) in (
          λ n. led_apart x.met l.columns x.entry y.entry (word i hi) (word k hk) (stands i hi).matches c (n ∙ sym (led_same y.entry x.met y.met e)),
          λ n. ap (λ (z : ℕ). led ONE SEED z x.met) n ∙ led_same y.entry x.met y.met e,
        )
