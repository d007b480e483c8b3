-- A ledger and a run that agree do so after each call, and the answers are the ledger's.
use Rattle.std.proofs.Common.{◌≡◌, ℕ, zero, suc, ◌+◌, ◌<◌, ◌≤◌, Bool, true, List, [], ◌∷◌, ◌++◌, map, length, take, drop, ◌==◌, slice_index, Some, None, Option, refl, sym, ap, ap₂, subst, ◌∙◌, arith, length-take-le, ltb-true, eq-eqb, ne_eqb}
use Rattle.std.proofs.lemmas.Bool.{and_parts}
use Rattle.std.proofs.lemmas.List.{length-map}
use Rattle.hash_state.specs.Writes.{Write}
use Rattle.row_rule.specs.Number.{number_of}
use Rattle.leaves.specs.Rows.{by_place}
use Rattle.runs.specs.Columns.{Column, all_below, met_at, slot}
use Rattle.runs.specs.Requests.{Request, Reply, column, keep, read, accepted, refused, row_read}
use Rattle.runs.specs.Refusals.{refusal, unless}
use Rattle.runs.specs.Ledger.{Row, Ledger, added, all_meet, answer, answers, begun, entered, is_first, next, number, row_at, run}
use Rattle.runs.specs.State.{State, led_words, replies, step, steps, taken, told}
use Rattle.runs.specs.Lasting.{begun_state}
use Rattle.runs.specs.Agreement.{Agrees, Follows, Holds}
use Rattle.runs.proofs.Going.{keep_goes, read_goes}
use Rattle.runs.proofs.Ledgers.{length-all_meet, length-entered}

first_when_none : {X : Type 0} → (xs : List X) (n : ℕ) → length xs ≡ n → (n == 0) ≡ is_first xs
first_when_none [] n e = eq-eqb n 0 (sym e)
first_when_none (x ∷ xs) n e = ne_eqb n 0 (λ z. omega (arith, e, z))

-- an answer counts only where a request is not refused
pub unless_same : (o : Option ℕ) (x y : Reply) → (o ≡ None → x ≡ y) → unless o refused x ≡ unless o refused y
unless_same (Some n) x y h = refl
unless_same None x y h = h refl

module _ (ONE : List Write → ℕ) (SEED : ℕ → List Write → ℕ) where
  pub holds_at : (n : ℕ) (rows : List Row) (words : List ℕ) (k : ℕ) → Holds ONE SEED n rows words → k < length rows
      → (slice_index words k ≡ number ONE SEED (row_at rows k)) × (length (row_at rows k).met ≡ n)
  holds_at n [] words k h b = absurd (omega (arith, b))
  holds_at n (r ∷ rows) [] k h b = absurd h
  holds_at n (r ∷ rows) (w ∷ words) zero h b = (h.0, h.1)
  holds_at n (r ∷ rows) (w ∷ words) (suc k) h b = holds_at n rows words k h.2 (omega (arith, b))

  holds_column : (c : Column) (at : ℕ → ℕ) (n j : ℕ) (rows : List Row) (words : List ℕ) → Holds ONE SEED n rows words
      → Holds ONE SEED (n + 1) (all_meet c at j rows) (by_place (λ i e. number_of ONE SEED (n == 0) e (slot c (at i))) j (take (length rows) words) ++ drop (length rows) words)
  holds_column c at n j [] words h = tt
  holds_column c at n j (r ∷ rows) [] h = absurd h
  holds_column c at n j (r ∷ rows) (w ∷ words) h = (
    ap₂ (λ (first : Bool) (e : ℕ). number_of ONE SEED first e (slot c (at j))) (first_when_none r.met n h.1) h.0,
    omega (arith, h.1),
    holds_column c at n (j + 1) rows words h.2,
  )

  holds_kept : (n : ℕ) (rows : List Row) (words : List ℕ) (list rest : List ℕ) → Holds ONE SEED n rows words → all_below (length rows) list ≡ true
      → Holds ONE SEED n (map (row_at rows) list) (map (slice_index words) list ++ rest)
  holds_kept n rows words [] rest h e = tt
  holds_kept n rows words (k ∷ list) rest h e =
      let p = and_parts _ _ e in
      let a = holds_at n rows words k h (ltb-true _ _ p.0) in
      (a.0, a.1, holds_kept n rows words list rest h p.1)

  holds_entered : (j : ℕ) (entries : List ℕ) → Holds ONE SEED 0 (entered j entries) entries
  holds_entered j [] = tt
  holds_entered j (e ∷ entries) = (refl, refl, holds_entered (j + 1) entries)

  -- begin's ledger agrees with the run that begin gives
  pub agrees_begun : (entries : List ℕ) → Agrees ONE SEED (begun entries) (begun_state (length entries) entries)
  agrees_begun entries = record { rows = sym (length-entered 0 entries); count = refl; holds = holds_entered 0 entries }

  -- a new run over more words than begin took
  holds_taken : (j n : ℕ) (words : List ℕ) → Holds ONE SEED 0 (entered j (take n words)) words
  holds_taken j zero words = tt
  holds_taken j (suc n) [] = tt
  holds_taken j (suc n) (w ∷ words) = (refl, refl, holds_taken (j + 1) n words)

  -- begin's ledger agrees also where more words stand behind those that begin took
  pub agrees_taken_words : (rows : ℕ) (words : List ℕ) → rows ≤ length words → Agrees ONE SEED (begun (take rows words)) (begun_state rows words)
  agrees_taken_words rows words h =
      record { rows = sym (length-entered 0 (take rows words) ∙ length-take-le rows words h); count = refl; holds = holds_taken 0 rows words }

  agrees_taken : (l : Ledger) (s : State) (q : Request) → Agrees ONE SEED l s → refusal s.rows s.count q ≡ None → Agrees ONE SEED (added l q) (taken ONE SEED s q)
  agrees_taken l s (column c list lent) a o =
      record {
        rows = a.rows ∙ sym (length-all_meet c (met_at list) 0 l.rows);
        count = omega (arith, a.count);
        holds =
            subst (λ (n : ℕ). Holds ONE SEED (s.count + 1) (all_meet c (met_at list) 0 l.rows) (led_words ONE SEED (s.count == 0) n c list s.words)) (sym a.rows)
            (holds_column c (met_at list) s.count 0 l.rows s.words a.holds);
      }
  agrees_taken l s (keep list lent) a o =
      let goes = keep_goes s.rows list lent o in
      record {
        rows = sym (length-map list _);
        count = a.count;
        holds = holds_kept s.count l.rows s.words list _ a.holds (ap (λ (n : ℕ). all_below n list) (sym a.rows) ∙ goes.below);
      }
  agrees_taken l s (read k entries) a o = a

  agrees_unless : (o : Option ℕ) (l l' : Ledger) (s s' : State) → Agrees ONE SEED l s → (o ≡ None → Agrees ONE SEED l' s') → Agrees ONE SEED (unless o (λ _. l) l') (unless o (λ _. s) s')
  agrees_unless (Some n) l l' s s' a h = a
  agrees_unless None l l' s s' a h = h refl

  same_refusal : (l : Ledger) (s : State) (q : Request) → Agrees ONE SEED l s → refusal s.rows s.count q ≡ refusal (length l.rows) (length l.columns) q
  same_refusal l s q a = ap₂ (λ (m n : ℕ). refusal m n q) a.rows a.count

  agrees_next : (l : Ledger) (s : State) (q : Request) → Agrees ONE SEED l s → Agrees ONE SEED (next l q) (step ONE SEED s q)
  agrees_next l s q a =
      subst (λ (o : Option ℕ). Agrees ONE SEED (unless o (λ _. l) (added l q)) (step ONE SEED s q)) (same_refusal l s q a)
      (agrees_unless (refusal s.rows s.count q) l (added l q) s (taken ONE SEED s q) a (agrees_taken l s q a))

  told_answer : (l : Ledger) (s : State) (q : Request) → Agrees ONE SEED l s → told s q ≡ answer ONE SEED l q
  told_answer l s (column c list lent) a = ap (λ (o : Option ℕ). unless o refused accepted) (same_refusal l s (column c list lent) a)
  told_answer l s (keep list lent) a = ap (λ (o : Option ℕ). unless o refused accepted) (same_refusal l s (keep list lent) a)
  told_answer l s (read k entries) a =
      unless_same (refusal s.rows s.count (read k entries)) _ (row_read (number ONE SEED (row_at l.rows k)) (length l.columns))
      (λ o. let goes = read_goes s.rows k entries o in
      ap₂ row_read (holds_at s.count l.rows s.words k a.holds (omega (arith, goes.1, a.rows))).0 a.count)
      ∙ ap (λ (o : Option ℕ). unless o refused (row_read (number ONE SEED (row_at l.rows k)) (length l.columns))) (same_refusal l s (read k entries) a)

  -- a call that answers and leaves what the state's step says follows every ledger
  pub follows : (s : State) (q : Request) (r : Reply) (s' : State) → r ≡ told s q → s' ≡ step ONE SEED s q → Follows ONE SEED s q r s'
  follows s q r s' p e l a = (p ∙ told_answer l s q a, subst (Agrees ONE SEED (next l q)) (sym e) (agrees_next l s q a))

  -- over a list of requests
  pub agrees_run : (l : Ledger) (s : State) (requests : List Request) → Agrees ONE SEED l s
      → Agrees ONE SEED (run l requests) (steps ONE SEED s requests) × (replies ONE SEED s requests ≡ answers ONE SEED l requests)
  agrees_run l s [] a = (a, refl)
  agrees_run l s (q ∷ requests) a =
      let r = agrees_run (next l q) (step ONE SEED s q) requests (agrees_next l s q a) in
      (r.0, ap₂ ◌∷◌ (told_answer l s q a) r.1)
