-- The same rows come by one keep and then the columns.
use Rattle.std.proofs.Common.{◌≡◌, ℕ, suc, ◌+◌, ◌<◌, ◌≤◌, true, not, List, [], ◌∷◌, ◌++◌, map, length, replicate, slice_index, Some, None, Option, refl, sym, ap, ap₂, subst, ◌∙◌, arith, le-ltb, lt-ltb, eq-eqb, ne_eqb}
use Rattle.std.specs.Cmp.Derive.{both_true}
use Rattle.std.proofs.lemmas.Bool.{cond-false, or_from}
use Rattle.std.proofs.lemmas.List.{length-map, replicate_more}
use Rattle.hash_state.specs.Writes.{Write}
use Rattle.runs.specs.declared.call.Lent.{Lent}
use Rattle.runs.specs.Columns.{Column, all_below, height, met_at, slot}
use Rattle.runs.specs.Requests.{Request, Reply, column, keep, accepted, refused}
use Rattle.runs.specs.Refusals.{column_refusal, keep_refusal, granted, most_columns, most_rows, refusal, unless}
use Rattle.runs.specs.Ledger.{Met, Row, Ledger, added, all_meet, answer, answers, begun, entered, next, number, row_at, run}
use Rattle.runs.specs.Agreement.{Agrees}
use Rattle.runs.specs.Reordering.{Enough, Reorders, SameRows, earlier, earlier_met, latest_at, reordered}
use Rattle.runs.specs.State.{State, steps}
use Rattle.runs.proofs.Agreeing.{agrees_run, holds_at}
use Rattle.runs.proofs.Going.{ColumnGoes, KeepGoes}
use Rattle.runs.proofs.Ledgers.{Each, Matches, Sound, Stands, entered_at, length-entered, sound_run}

-- calls that are not refused

column_granted : (rows count : ℕ) (c : Column) (list : Option (List ℕ)) (lent : Lent) → ColumnGoes rows count c list lent → column_refusal rows count c list lent ≡ None
column_granted rows count c list lent g =
    ap₂ (λ (o p : Option ℕ). unless o (λ number. Some number) p)
    (cond-false _ _ _ (le-ltb _ _ g.room) ∙ cond-false _ _ _ g.one_more ∙ cond-false _ _ _ (ap not g.there))
    (cond-false _ _ _ (ap not (eq-eqb _ _ g.as_many)) ∙ cond-false _ _ _ (ap not g.below) ∙ cond-false _ _ _ (le-ltb _ _ g.work))

keep_granted : (rows : ℕ) (list : List ℕ) (lent : Lent) → KeepGoes rows list lent → keep_refusal rows list lent ≡ None
keep_granted rows list lent g =
    cond-false _ _ _ (le-ltb _ _ g.room)
    ∙ cond-false _ _ _ (or_from _ _ (le-ltb _ _ g.fits) (le-ltb _ _ g.few))
    ∙ cond-false _ _ _ (ap not g.below)
    ∙ cond-false _ _ _ (le-ltb _ _ g.work)

-- the rows of one keep

same_row : (r : Row) (origin entry : ℕ) (met : List Met) → origin ≡ r.origin → entry ≡ r.entry → met ≡ r.met → ◌≡◌ {A = Row} (record { origin = origin; entry = entry; met = met }) r
same_row r origin entry met p q t = λ i. record { origin = p i; entry = q i; met = t i }

none_met : (met : List Met) → Matches met [] → [] ≡ met
none_met [] a = refl
none_met (m ∷ met) a = absurd a

module _ (entries : List ℕ) where
  origins_below : (rows : List Row) → Each (Stands entries []) rows → all_below (length (entered 0 entries)) (map (λ r. r.origin) rows) ≡ true
  origins_below [] a = refl
  origins_below (r ∷ rows) a = both_true (lt-ltb _ _ (omega (arith, a.0.known, length-entered 0 entries))) (origins_below rows a.1)

  rows_kept : (rows : List Row) → Each (Stands entries []) rows → map (row_at (entered 0 entries)) (map (λ r. r.origin) rows) ≡ rows
  rows_kept [] a = refl
  rows_kept (r ∷ rows) a = ap₂ ◌∷◌ (entered_at entries 0 r.origin a.0.known ∙ same_row r _ _ _ (omega arith) (sym a.0.begins) (none_met r.met a.0.matches)) (rows_kept rows a.1)

-- the rows of one column more

module _ (c : Column) (columns : List Column) where
  met_again : (met : List Met) → Matches met (c ∷ columns) → record { slot = slot c (latest_at met); at = latest_at met } ∷ earlier_met met ≡ met
  met_again [] a = absurd a
  met_again (m ∷ met) a = ap (λ (x : Met). x ∷ met) (λ i. record { slot = sym a.0 i; at = m.at })

  latest_below : (met : List Met) → Matches met (c ∷ columns) → latest_at met < height c
  latest_below [] a = absurd a
  latest_below (m ∷ met) a = a.1

  earlier_matches : (met : List Met) → Matches met (c ∷ columns) → Matches (earlier_met met) columns
  earlier_matches [] a = absurd a
  earlier_matches (m ∷ met) a = a.2

  module _ (entries : List ℕ) where
    earlier_stand : (rows : List Row) → Each (Stands entries (c ∷ columns)) rows → Each (Stands entries columns) (map earlier rows)
    earlier_stand [] a = tt
    earlier_stand (r ∷ rows) a = (record { known = a.0.known; begins = a.0.begins; matches = earlier_matches r.met a.0.matches }, earlier_stand rows a.1)

    all_latest_below : (rows : List Row) → Each (Stands entries (c ∷ columns)) rows → all_below (height c) (map (λ r. latest_at r.met) rows) ≡ true
    all_latest_below [] a = refl
    all_latest_below (r ∷ rows) a = both_true (lt-ltb _ _ (latest_below r.met a.0.matches)) (all_latest_below rows a.1)

    all_met_again : (at : ℕ → ℕ) (j : ℕ) (rows : List Row) → ((i : ℕ) → at (j + i) ≡ slice_index (map (λ r. latest_at r.met) rows) i) → Each (Stands entries (c ∷ columns)) rows
        → all_meet c at j (map earlier rows) ≡ rows
    all_met_again at j [] h a = refl
    all_met_again at j (r ∷ rows) h a =
        let here : at j ≡ latest_at r.met = ap at (omega arith) ∙ h 0 in
        ap₂ ◌∷◌
        (ap (λ (k : ℕ). record { origin = r.origin; entry = r.entry; met = record { slot = slot c k; at = k } ∷ earlier_met r.met }) here
        ∙ same_row r _ _ _ refl refl (met_again r.met a.0.matches))
        (all_met_again at (j + 1) rows (λ i. ap at (omega arith) ∙ h (suc i)) a.1)

    earlier_sound : (rows : List Row) → Sound entries (record { rows = rows; columns = c ∷ columns }) → Sound entries (record { rows = map earlier rows; columns = columns })
    earlier_sound rows s =
        record {
          few_rows = λ h. omega (arith, s.few_rows h, length-map rows earlier);
          few_columns = omega (arith, s.few_columns);
          there = s.there.1;
          rows = earlier_stand rows s.rows;
        }

    earlier_enough : (lent : Lent) (rows : List Row) → Enough lent (length entries) (record { rows = rows; columns = c ∷ columns }) → Enough lent (length entries) (record { rows = map earlier rows; columns = columns })
    earlier_enough lent rows e =
        record {
          before = e.before;
          after = omega (arith, e.after, length-map rows earlier);
          keep = omega (arith, e.keep, length-map rows earlier);
          columns = e.columns.1;
        }

-- the calls, one after the other

module _ (ONE : List Write → ℕ) (SEED : ℕ → List Write → ℕ) where
  run_append : (l : Ledger) (xs ys : List Request) → run l (xs ++ ys) ≡ run (run l xs) ys
  run_append l [] ys = refl
  run_append l (q ∷ xs) ys = run_append (next l q) xs ys

  answers_append : (l : Ledger) (xs ys : List Request) → answers ONE SEED l (xs ++ ys) ≡ answers ONE SEED l xs ++ answers ONE SEED (run l xs) ys
  answers_append l [] ys = refl
  answers_append l (q ∷ xs) ys = ap (λ (rest : List Reply). answer ONE SEED l q ∷ rest) (answers_append (next l q) xs ys)

  abbrev Comes : Ledger → List Request → ℕ → Ledger → Type 0
  Comes l requests count l' = (answers ONE SEED l requests ≡ replicate count accepted) × (run l requests ≡ l')

  comes_more : (l l' l'' : Ledger) (requests : List Request) (q : Request) (count : ℕ) → Comes l requests count l' → Comes l' (q ∷ []) 1 l'' → Comes l (requests ++ q ∷ []) (count + 1) l''
  comes_more l l' l'' requests q count a b = (
    answers_append l requests (q ∷ [])
        ∙ ap₂ ◌++◌ a.0 (ap (λ (x : Ledger). answers ONE SEED x (q ∷ [])) a.1 ∙ b.0)
        ∙ replicate_more count accepted,
    run_append l requests (q ∷ []) ∙ ap (λ (x : Ledger). run x (q ∷ [])) a.1 ∙ b.1,
  )

  comes_granted : (l l' : Ledger) (q : Request) → granted (length l.columns) (λ k. number ONE SEED (row_at l.rows k)) q ≡ accepted → refusal (length l.rows) (length l.columns) q ≡ None → added l q ≡ l' → Comes l (q ∷ []) 1 l'
  comes_granted l l' q g o e = (
    ap (λ (r : Reply). r ∷ []) (ap (λ (n : Option ℕ). unless n refused (granted (length l.columns) (λ k. number ONE SEED (row_at l.rows k)) q)) o ∙ g),
    ap (λ (n : Option ℕ). unless n (λ _. l) (added l q)) o ∙ e,
  )

  module _ (entries : List ℕ) (few : length entries ≤ most_rows) (lent : Lent) where
    comes_reordered : (columns : List Column) (rows : List Row) → Sound entries (record { rows = rows; columns = columns }) → Enough lent (length entries) (record { rows = rows; columns = columns })
        → Comes (begun entries) (reordered lent rows columns) (1 + length columns) (record { rows = rows; columns = columns })
    comes_reordered [] rows s e =
        comes_granted (begun entries) _ (keep (map (λ r. r.origin) rows) lent) refl
        (keep_granted _ (map (λ r. r.origin) rows) lent
        (let n = length-map rows (λ (r : Row). r.origin) in
        record {
          room = omega (arith, e.before, length-entered 0 entries);
          fits = omega (arith, n, e.after);
          few = omega (arith, n, s.few_rows few);
          below = origins_below entries rows s.rows;
          work = omega (arith, n, e.keep);
        }))
        (ap (λ (x : List Row). record { rows = x; columns = [] }) (rows_kept entries rows s.rows))
    comes_reordered (c ∷ columns) rows s e =
        let list : List ℕ = map (λ r. latest_at r.met) rows in
        let n : length list ≡ length rows = length-map rows (λ (r : Row). latest_at r.met) in
        let m : length (map earlier rows) ≡ length rows = length-map rows earlier in
        let l : Ledger = record { rows = map earlier rows; columns = columns } in
        let before = comes_reordered columns (map earlier rows) (earlier_sound c columns entries rows s) (earlier_enough c columns entries lent rows e) in
        let goes : ColumnGoes (length (map earlier rows)) (length columns) c (Some list) lent =
        record {
          room = omega (arith, m, e.after);
          there = s.there.0;
          as_many = n ∙ sym m;
          below = all_latest_below c columns entries rows s.rows;
          work = e.columns.0;
          one_more = ne_eqb (length columns) most_columns (λ z. omega (arith, z, s.few_columns));
        } in
        let more = comes_more (begun entries) l _ (reordered lent (map earlier rows) columns) (column c (Some list) lent) (1 + length columns) before
        (comes_granted l (record { rows = rows; columns = c ∷ columns }) (column c (Some list) lent) refl (column_granted _ _ c (Some list) lent goes)
        (ap (λ (x : List Row). record { rows = x; columns = c ∷ columns }) (all_met_again c columns entries (met_at (Some list)) 0 rows (λ i. ap (slice_index list) (omega arith)) s.rows))) in
        (more.0 ∙ ap (λ (k : ℕ). replicate k accepted) (omega arith), more.1)

  -- two states that agree with one ledger have the same rows
  same_rows : (l : Ledger) (s s' : State) → Agrees ONE SEED l s → Agrees ONE SEED l s' → SameRows s s'
  same_rows l s s' a b =
      record {
        rows = a.rows ∙ sym b.rows;
        count = a.count ∙ sym b.count;
        words = λ k h.
            let there : k < length l.rows = omega (arith, h, b.rows) in
            (holds_at ONE SEED s.count l.rows s.words k a.holds there).0 ∙ sym (holds_at ONE SEED s'.count l.rows s'.words k b.holds there).0;
      }

  -- the rows of any run come again by one keep and its columns: in the ledger, and so in the state, which agrees with it
  pub reorders : (entries : List ℕ) (start : State) → Agrees ONE SEED (begun entries) start → (requests : List Request) → length entries ≤ most_rows
      → Reorders ONE SEED entries start (run (begun entries) requests) (steps ONE SEED start requests)
  reorders entries start agrees requests few lent e =
      let l : Ledger = run (begun entries) requests in
      let calls : List Request = reordered lent l.rows l.columns in
      let comes = comes_reordered entries few lent l.columns l.rows (sound_run entries requests) e in
      let again = agrees_run ONE SEED (begun entries) start calls agrees in
      record {
        answered = comes.0;
        ledger = comes.1;
        replied = again.1 ∙ comes.0;
        same = same_rows l _ _ (subst (λ (x : Ledger). Agrees ONE SEED x (steps ONE SEED start calls)) comes.1 again.0) (agrees_run ONE SEED (begun entries) start requests agrees).0;
      }
