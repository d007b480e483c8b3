-- A call on the first words alone is the call on all of them.
use Rattle.std.proofs.Common.{◌≡◌, ℕ, ◌+◌, ◌<◌, ◌≤◌, true, List, [], ◌∷◌, ◌++◌, map, length, take, drop, ◌==◌, slice_index, Some, None, Option, refl, sym, ap, ap₂, ◌∙◌, arith, ltb-true, append_assoc, min, length-take-le}
use Rattle.std.proofs.lemmas.Bool.{and_parts}
use Rattle.std.proofs.lemmas.List.{take-append-le, drop-append-le, get_or_append_left}
use Rattle.hash_state.specs.Writes.{Write}
use Rattle.row_rule.specs.Number.{number_of}
use Rattle.leaves.specs.Rows.{by_place}
use Rattle.runs.specs.declared.call.Lent.{Lent}
use Rattle.runs.specs.declared.call.Stage.{Stage}
use Rattle.runs.specs.declared.call.Stage.TheVariants.{New, Begun}
use Rattle.runs.specs.Columns.{all_below, met_at, slot}
use Rattle.runs.specs.Requests.{Request, column, keep, read, row_read}
use Rattle.runs.specs.Refusals.{refusal, unless}
use Rattle.runs.specs.State.{State, kept, step, taken, told}
use Rattle.runs.specs.Calls.{lent_of, stage_run}
use Rattle.runs.proofs.Agreeing.{unless_same}
use Rattle.runs.proofs.Going.{column_goes, keep_goes, read_goes}

-- how many words of the entries a request is lent
abbrev pub room_of : Request → ℕ
room_of (column c list lent) = lent.entries
room_of (keep list lent) = lent.entries
room_of (read k entries) = entries

abbrev widened : State → List ℕ → State
widened s rest = record { count = s.count; rows = s.rows; words = s.words ++ rest }

unless_widened : (o : Option ℕ) (s t t' : State) (rest : List ℕ) → (o ≡ None → widened t rest ≡ t') → widened (unless o (λ _. s) t) rest ≡ unless o (λ _. widened s rest) t'
unless_widened (Some n) s t t' rest h = refl
unless_widened None s t t' rest h = h refl

gathered_part : (n : ℕ) (list words rest : List ℕ) → all_below n list ≡ true → n ≤ length words → map (slice_index words) list ≡ map (slice_index (words ++ rest)) list
gathered_part n [] words rest e h = refl
gathered_part n (k ∷ list) words rest e h =
    let p = and_parts _ _ e in
    let b : k < n = ltb-true _ _ p.0 in
    ap₂ ◌∷◌ (sym (get_or_append_left words rest 0 k (omega arith))) (gathered_part n list words rest p.1 h)

kept_part : (n : ℕ) (list words rest : List ℕ) → all_below n list ≡ true → n ≤ length words → length list ≤ length words → kept list words ++ rest ≡ kept list (words ++ rest)
kept_part n list words rest e h l =
    append_assoc (map (slice_index words) list) (drop (length list) words) rest
    ∙ ap (λ (r : List ℕ). map (slice_index words) list ++ r) (sym (drop-append-le (length list) words rest l))
    ∙ ap (λ (r : List ℕ). r ++ drop (length list) (words ++ rest)) (gathered_part n list words rest e h)

led_part : (f : ℕ → ℕ → ℕ) (n : ℕ) (words rest : List ℕ) → n ≤ length words
    → (by_place f 0 (take n words) ++ drop n words) ++ rest ≡ by_place f 0 (take n (words ++ rest)) ++ drop n (words ++ rest)
led_part f n words rest h =
    append_assoc (by_place f 0 (take n words)) (drop n words) rest
    ∙ ap₂ (λ (a b : List ℕ). by_place f 0 a ++ b) (sym (take-append-le n words rest h)) (sym (drop-append-le n words rest h))

module _ (ONE : List Write → ℕ) (SEED : ℕ → List Write → ℕ) (s : State) (rest : List ℕ) where
  step_widened : (q : Request) → room_of q ≡ length s.words → widened (step ONE SEED s q) rest ≡ step ONE SEED (widened s rest) q
  step_widened (column c list lent) e =
      unless_widened (refusal s.rows s.count (column c list lent)) s (taken ONE SEED s (column c list lent)) (taken ONE SEED (widened s rest) (column c list lent)) rest
      (λ o. let goes = column_goes s.rows s.count c list lent o in
      ap (λ (words : List ℕ). record { count = s.count + 1; rows = s.rows; words = words })
      (led_part (λ j x. number_of ONE SEED (s.count == 0) x (slot c (met_at list j))) s.rows s.words rest (omega (arith, goes.room, e))))
  step_widened (keep list lent) e =
      unless_widened (refusal s.rows s.count (keep list lent)) s (taken ONE SEED s (keep list lent)) (taken ONE SEED (widened s rest) (keep list lent)) rest
      (λ o. let goes = keep_goes s.rows list lent o in
      ap (λ (words : List ℕ). record { count = s.count; rows = length list; words = words })
      (kept_part s.rows list s.words rest goes.below (omega (arith, goes.room, e)) (omega (arith, goes.fits, e))))
  step_widened (read k entries) e =
      unless_widened (refusal s.rows s.count (read k entries)) s (taken ONE SEED s (read k entries)) (taken ONE SEED (widened s rest) (read k entries)) rest (λ o. refl)

told_widened : (s : State) (rest : List ℕ) (q : Request) → room_of q ≡ length s.words → told s q ≡ told (widened s rest) q
told_widened s rest (column c list lent) e = refl
told_widened s rest (keep list lent) e = refl
told_widened s rest (read k entries) e =
    unless_same (refusal s.rows s.count (read k entries)) (row_read (slice_index s.words k) s.count) (row_read (slice_index (s.words ++ rest) k) s.count)
    (λ o. let goes = read_goes s.rows k entries o in
    ap (λ (n : ℕ). row_read n s.count) (sym (get_or_append_left s.words rest 0 k (omega (arith, goes.0, goes.1, e)))))

stage_widened : (st : Stage) (words rest : List ℕ) → stage_run st (words ++ rest) ≡ widened (stage_run st words) rest
stage_widened (New r) words rest = refl
stage_widened (Begun r) words rest = refl

stage_words : (st : Stage) (words : List ℕ) → (stage_run st words).words ≡ words
stage_words (New r) words = refl
stage_words (Begun r) words = refl

-- of a run's words the first are lent, and the rest are not
module _ (st : Stage) (lent rest words : List ℕ) (whole : lent ++ rest ≡ words) (q : Request) (room : room_of q ≡ length lent) where
  fit : room_of q ≡ length (stage_run st lent).words
  fit = room ∙ ap length (sym (stage_words st lent))

  -- a call that is lent the first is answered as one that is lent all
  pub part_told : told (stage_run st lent) q ≡ told (stage_run st words) q
  part_told =
      told_widened (stage_run st lent) rest q fit
      ∙ ap (λ (s : State). told s q) (sym (stage_widened st lent rest))
      ∙ ap (λ (v : List ℕ). told (stage_run st v) q) whole

  -- and it leaves the same, with the rest as it was
  pub part_step : (ONE : List Write → ℕ) (SEED : ℕ → List Write → ℕ) (st' : Stage) (words' : List ℕ) → stage_run st' words' ≡ step ONE SEED (stage_run st lent) q
      → stage_run st' (words' ++ rest) ≡ step ONE SEED (stage_run st words) q
  part_step ONE SEED st' words' e =
      stage_widened st' words' rest
      ∙ ap (λ (s : State). widened s rest) e
      ∙ step_widened ONE SEED (stage_run st lent) rest q fit
      ∙ ap (λ (s : State). step ONE SEED s q) (sym (stage_widened st lent rest))
      ∙ ap (λ (v : List ℕ). step ONE SEED (stage_run st v) q) whole

-- what is lent of both, as the call finds it
pub lent_part : (entries work : List ℕ) (lent : Lent) (room words : ℕ) → room ≡ min lent.entries (length entries) → words ≡ min lent.work (length work)
    → record { entries = length (take room entries); work = length (take words work); claimed = lent.claimed } ≡ lent_of (length entries) (length work) lent
lent_part entries work lent room words r w =
    ap₂ (λ (a b : ℕ). record { entries = a; work = b; claimed = lent.claimed })
    (length-take-le room entries (omega (arith, r)) ∙ r) (length-take-le words work (omega (arith, w)) ∙ w)
