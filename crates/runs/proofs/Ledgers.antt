-- What holds of each ledger that a run comes to.
use Rattle.std.proofs.Common.{◌≡◌, ℕ, zero, suc, ◌+◌, ◌<◌, ◌≤◌, true, false, ◌==◌, List, [], ◌∷◌, map, length, slice_index, Some, None, Option, refl, sym, ap, subst, ◌∙◌, arith, ltb-true, false-eqb}
use Rattle.std.proofs.lemmas.Bool.{and_parts}
use Rattle.std.proofs.lemmas.List.{length-map}
use Rattle.std.proofs.lemmas.List.Elements.{All-from_recursion, All-from_get_or, recursion_from_All}
use Rattle.runs.specs.Columns.{Column, all_below, height, is_there, list_below, meeting_of, met_at, slot}
use Rattle.runs.specs.Requests.{Request, column, keep, read}
use Rattle.runs.specs.Refusals.{most_columns, most_rows, refusal, unless}
use Rattle.runs.specs.Ledger.{Met, Row, Ledger, added, all_meet, begun, entered, next, no_row, row_at, run}
use Rattle.runs.proofs.Going.{column_goes, keep_goes}
use Rattle.runs.proofs.Lists.{below_at}

-- P of each element
abbrev pub Each : {X : Type 0} → (X → Type 0) → List X → Type 0
Each P [] = Unit {0}
Each P (x ∷ xs) = P x × Each P xs

-- what a row met is what the columns hold at the rows that it met
abbrev pub Matches : List Met → List Column → Type 0
Matches [] [] = Unit {0}
Matches [] (c ∷ columns) = ⊥
Matches (m ∷ met) [] = ⊥
Matches (m ∷ met) (c ∷ columns) = (m.slot ≡ slot c m.at) × (m.at < height c) × Matches met columns

-- a row comes from a row of begin, with the entry there, and matches the columns
pub record Stands (entries : List ℕ) (columns : List Column) (r : Row) : Type 0 where
  pub known : r.origin < length entries
  pub begins : r.entry ≡ slice_index entries r.origin
  pub matches : Matches r.met columns

-- no more rows and columns than there may be, each column there, and each row standing
pub record Sound (entries : List ℕ) (l : Ledger) : Type 0 where
  pub few_rows : length entries ≤ most_rows → length l.rows ≤ most_rows
  pub few_columns : length l.columns ≤ most_columns
  pub there : Each (λ c. is_there c ≡ true) l.columns
  pub rows : Each (Stands entries l.columns) l.rows

pub length-all_meet : (c : Column) (at : ℕ → ℕ) (j : ℕ) (rows : List Row) → length (all_meet c at j rows) ≡ length rows
length-all_meet c at j [] = refl
length-all_meet c at j (r ∷ rows) = ap suc (length-all_meet c at (j + 1) rows)

pub length-entered : (j : ℕ) (entries : List ℕ) → length (entered j entries) ≡ length entries
length-entered j [] = refl
length-entered j (e ∷ entries) = ap suc (length-entered (j + 1) entries)

pub entered_at : (entries : List ℕ) (j k : ℕ) → k < length entries → row_at (entered j entries) k ≡ record { origin = j + k; entry = slice_index entries k; met = [] }
entered_at [] j k h = absurd (omega (arith, h))
entered_at (e ∷ entries) j zero h = ap (λ (n : ℕ). record { origin = n; entry = e; met = [] }) (omega arith)
entered_at (e ∷ entries) j (suc k) h =
    entered_at entries (j + 1) k (omega (arith, h))
    ∙ ap (λ (n : ℕ). record { origin = n; entry = slice_index entries k; met = [] }) (omega arith)

sound_begun : (entries : List ℕ) → Sound entries (begun entries)
sound_begun entries =
    record {
      few_rows = λ h. omega (arith, h, length-entered 0 entries);
      few_columns = omega arith;
      there = tt;
      rows = recursion_from_All _ (entered 0 entries) (All-from_get_or (Stands entries []) (entered 0 entries) no_row one);
    }
  where
    one : (k : ℕ) → k < length (entered 0 entries) → Stands entries [] (row_at (entered 0 entries) k)
    one k h =
        let b : k < length entries = omega (arith, h, length-entered 0 entries) in
        subst (Stands entries []) (sym (entered_at entries 0 k b)) (record { known = omega (arith, b); begins = ap (slice_index entries) (omega arith); matches = tt })

-- a column that is accepted has the rows that are met
met_there : (c : Column) (list : Option (List ℕ)) (j : ℕ) → list_below (height c) list ≡ true → j < meeting_of (height c) list → met_at list j < height c
met_there c None j e h = h
met_there c (Some list) j e h = below_at (height c) list j e h

stand_met : (entries : List ℕ) (columns : List Column) (c : Column) (at : ℕ → ℕ) (j : ℕ) (rows : List Row) → ((i : ℕ) → i < length rows → at (j + i) < height c)
    → Each (Stands entries columns) rows → Each (Stands entries (c ∷ columns)) (all_meet c at j rows)
stand_met entries columns c at j [] h a = tt
stand_met entries columns c at j (r ∷ rows) h a = (
  record { known = a.0.known; begins = a.0.begins; matches = (refl, subst (λ (n : ℕ). at n < height c) (omega arith) (h 0 (omega arith)), a.0.matches) },
  stand_met entries columns c at (j + 1) rows (λ i b. subst (λ (n : ℕ). at n < height c) (omega arith) (h (suc i) (omega (arith, b)))) a.1,
)

stand_kept : (P : Row → Type 0) (rows : List Row) (list : List ℕ) → Each P rows → all_below (length rows) list ≡ true → Each P (map (row_at rows) list)
stand_kept P rows [] a e = tt
stand_kept P rows (k ∷ list) a e =
    let p = and_parts _ _ e in (All-from_recursion P rows a k no_row (ltb-true _ _ p.0), stand_kept P rows list a p.1)

one_more : (n : ℕ) → n ≤ most_columns → (n == most_columns) ≡ false → n + 1 ≤ most_columns
one_more n h e = omega (arith, h, false-eqb n most_columns (sym e))

sound_added : (entries : List ℕ) (l : Ledger) (q : Request) → Sound entries l → refusal (length l.rows) (length l.columns) q ≡ None → Sound entries (added l q)
sound_added entries l (column c list lent) s o =
    let goes = column_goes (length l.rows) (length l.columns) c list lent o in
    record {
      few_rows = λ h. omega (arith, s.few_rows h, length-all_meet c (met_at list) 0 l.rows);
      few_columns = omega (arith, one_more (length l.columns) s.few_columns goes.one_more);
      there = (goes.there, s.there);
      rows =
          stand_met entries l.columns c (met_at list) 0 l.rows
          (λ i h. subst (λ (n : ℕ). met_at list n < height c) (omega arith) (met_there c list i goes.below (omega (arith, h, goes.as_many))))
          s.rows;
    }
sound_added entries l (keep list lent) s o =
    let goes = keep_goes (length l.rows) list lent o in
    record {
      few_rows = λ h. omega (arith, goes.few, length-map list (row_at l.rows));
      few_columns = s.few_columns;
      there = s.there;
      rows = stand_kept _ l.rows list s.rows goes.below;
    }
sound_added entries l (read k n) s o = s

sound_unless : (entries : List ℕ) (o : Option ℕ) (l l' : Ledger) → Sound entries l → (o ≡ None → Sound entries l') → Sound entries (unless o (λ _. l) l')
sound_unless entries (Some n) l l' s h = s
sound_unless entries None l l' s h = h refl

sound_requests : (entries : List ℕ) (l : Ledger) (requests : List Request) → Sound entries l → Sound entries (run l requests)
sound_requests entries l [] s = s
sound_requests entries l (q ∷ requests) s =
    sound_requests entries (next l q) requests
    (sound_unless entries (refusal (length l.rows) (length l.columns) q) l (added l q) s (sound_added entries l q s))

pub sound_run : (entries : List ℕ) (requests : List Request) → Sound entries (run (begun entries) requests)
sound_run entries requests = sound_requests entries (begun entries) requests (sound_begun entries)
