-- Calls made one after the other.
use Rattle.std.proofs.Common.{◌≡◌, ℕ, zero, suc, ◌+◌, ◌^◌, ◌<◌, ◌≤◌, true, false, cond, min, List, [], ◌∷◌, ◌++◌, map, length, take, drop, set, get_or, slice_index, refl, sym, ap, ap₂, subst, subst₂, ◌∙◌, arith, add-one, take-suc, take-suc-set, drop-set-lt, length-take-le, Some, None, Option, MatchOption}
use Rattle.std.proofs.lemmas.Bool.{cond-true, cond-false}
use Rattle.std.proofs.lemmas.List.{at_drop_more, at_drop_all, drop-drop, map_push, length-map, get_or-map, get_or-take}
use Rattle.hash_state.specs.Writes.{Write}
use Rattle.columns.specs.Open.{OthersStay}
use Rattle.runs.specs.declared.call.Answer.{Answer}
use Rattle.runs.specs.declared.call.Call.{Call}
use Rattle.runs.specs.declared.call.Trace.{Trace}
use Rattle.runs.specs.Requests.{Request, Reply, read}
use Rattle.runs.specs.Refusals.{most_rows}
use Rattle.runs.specs.Ledger.{Ledger, begun, next, run}
use Rattle.runs.specs.State.{State, replies, step, steps, told}
use Rattle.runs.specs.Agreement.{Agrees}
use Rattle.runs.specs.Calls.{Made, begin_rows, is_misuse, made, reply_of, request_of, requests_of, taken_entries}
use Rattle.runs.specs.Open.{opened, opens}
use Rattle.runs.specs.Lasting.{Lasting, begun_state}
use Rattle.runs.proofs.Agreeing.{agrees_run, agrees_taken_words}
use Rattle.runs.proofs.Opening.{opened_parts, stays_after}
use Rattle.runs.proofs.Reordering.{reorders}
use Rattle.runs.proofs.Staying.{stays_apart}

abbrev pub no_request : Request
no_request = read 0 0

-- the answers with one more
told_more : (answers : List Answer) (i : ℕ) (a : Answer) → i < length answers → map reply_of (take (i + 1) (set answers i a)) ≡ map reply_of (take i answers) ++ reply_of a ∷ []
told_more answers i a h =
    ap (λ (n : ℕ). map reply_of (take n (set answers i a))) (add-one i)
    ∙ ap (map reply_of) (take-suc-set answers i a h)
    ∙ map_push reply_of (take i answers) a

run_more : (l : Ledger) (requests : List Request) (q : Request) → run l (requests ++ q ∷ []) ≡ next (run l requests) q
run_more l [] q = refl
run_more l (x ∷ requests) q = run_more (next l x) requests q

module _ (ONE : List Write → ℕ) (SEED : ℕ → List Write → ℕ) where
  steps_more : (s : State) (requests : List Request) (q : Request) → steps ONE SEED s (requests ++ q ∷ []) ≡ step ONE SEED (steps ONE SEED s requests) q
  steps_more s [] q = refl
  steps_more s (x ∷ requests) q = steps_more (step ONE SEED s x) requests q

  replies_more : (s : State) (requests : List Request) (q : Request) → replies ONE SEED s (requests ++ q ∷ []) ≡ replies ONE SEED s requests ++ told (steps ONE SEED s requests) q ∷ []
  replies_more s [] q = refl
  replies_more s (x ∷ requests) q = ap (λ (r : List Reply). told s x ∷ r) (replies_more (step ONE SEED s x) requests q)

  take_replies : (s : State) (n : ℕ) (requests : List Request) → take n (replies ONE SEED s requests) ≡ replies ONE SEED s (take n requests)
  take_replies s zero requests = refl
  take_replies s (suc n) [] = refl
  take_replies s (suc n) (q ∷ requests) = ap (λ (r : List Reply). told s q ∷ r) (take_replies (step ONE SEED s q) n requests)

  -- begin took `entries`, and then the requests come to `start` and on; `old` were the answers
  module _ (start : State) (entries : List ℕ) (requests : List Request) (old : List Answer) (agrees : Agrees ONE SEED (begun entries) start) where
    -- the first i are made
    pub record Reached (i : ℕ) (s : State) (answers : List Answer) : Type 0 where
      pub seen : s ≡ steps ONE SEED start (take i requests)
      pub told_so : map reply_of (take i answers) ≡ replies ONE SEED start (take i requests)
      pub others : drop i answers ≡ drop i old
      pub count : made (begun entries) requests ≡ i + made (run (begun entries) (take i requests)) (drop i requests)

    pub reached_none : Reached 0 start old
    reached_none = record { seen = refl; told_so = refl; others = refl; count = omega arith }

    module _ (i : ℕ) (s : State) (answers : List Answer) (r : Reached i s answers) (q : Request) (h : i < length requests) (is : get_or requests i no_request ≡ q) where
      taken_more : take (i + 1) requests ≡ take i requests ++ q ∷ []
      taken_more =
          ap (λ (n : ℕ). take n requests) (add-one i)
          ∙ take-suc requests i no_request h
          ∙ ap (λ (x : Request). take i requests ++ x ∷ []) is

      next_state : step ONE SEED s q ≡ steps ONE SEED start (take (i + 1) requests)
      next_state =
          ap (λ (t : State). step ONE SEED t q) r.seen
          ∙ sym (ap (steps ONE SEED start) taken_more ∙ steps_more start (take i requests) q)

      split : made (run (begun entries) (take i requests)) (drop i requests)
          ≡ cond (is_misuse (length (run (begun entries) (take i requests)).columns) q) 0 (suc (made (next (run (begun entries) (take i requests)) q) (drop (i + 1) requests)))
      split =
          at_drop_more (made (run (begun entries) (take i requests))) requests i no_request h
          ∙ ap (λ (x : Request). made (run (begun entries) (take i requests)) (x ∷ drop (i + 1) requests)) is

      same_test : is_misuse s.count q ≡ is_misuse (length (run (begun entries) (take i requests)).columns) q
      same_test =
          ap (λ (n : ℕ). is_misuse n q)
          (ap (λ (t : State). t.count) r.seen ∙ (agrees_run ONE SEED (begun entries) start (take i requests) agrees).0.count)

      pub reached_misuse : is_misuse s.count q ≡ true → i ≡ made (begun entries) requests
      reached_misuse e =
          let z : made (run (begun entries) (take i requests)) (drop i requests) ≡ 0 = split ∙ cond-true _ _ _ (sym same_test ∙ e) in
          omega (arith, r.count, z)

      pub reached_more : i < length answers → (a : Answer) (s' : State) → is_misuse s.count q ≡ false → reply_of a ≡ told s q → s' ≡ step ONE SEED s q
          → Reached (i + 1) s' (set answers i a)
      reached_more l a s' e p t =
          record {
            seen = t ∙ next_state;
            told_so =
                told_more answers i a l
                ∙ ap₂ (λ (xs : List Reply) (x : Reply). xs ++ x ∷ []) r.told_so (p ∙ ap (λ (u : State). told u q) r.seen)
                ∙ sym (ap (replies ONE SEED start) taken_more ∙ replies_more start (take i requests) q);
            others = drop-set-lt (i + 1) answers i a (omega arith) ∙ sym (drop-drop 1 i answers) ∙ ap (drop 1) r.others ∙ drop-drop 1 i old;
            count =
                let z = split ∙ cond-false _ _ _ (sym same_test ∙ e) ∙ ap (λ (l : Ledger). suc (made l (drop (i + 1) requests))) (sym (ap (run (begun entries)) taken_more ∙ run_more (begun entries) (take i requests) q)) in
                omega (arith, r.count, z);
          }

    pub reached_end : (i : ℕ) (s : State) (answers : List Answer) → Reached i s answers → length requests ≤ i → i ≡ made (begun entries) requests
    reached_end i s answers r h =
        let z : made (run (begun entries) (take i requests)) (drop i requests) ≡ 0 = at_drop_all (made (run (begun entries) (take i requests))) requests i h in
        omega (arith, r.count, z)

    -- what lasts over the calls that are made
    pub lasting : ((ws : List Write) → ONE ws < 2 ^ 64) → ((x : ℕ) → x < 2 ^ 64 → (ws : List Write) → SEED x ws < 2 ^ 64)
        → length entries ≤ most_rows → ((k : ℕ) → slice_index entries k < 2 ^ 64)
        → (i : ℕ) (s : State) (answers : List Answer) → Reached i s answers
        → Lasting ONE SEED entries start (take i requests) (map reply_of (take i answers)) s
    lasting one seed few words i s answers r =
        let made_so : List Request = take i requests in
        record {
          answered = λ n h. ap (take n) r.told_so ∙ take_replies start n made_so ∙ (agrees_run ONE SEED (begun entries) start (take n made_so) agrees).1;
          agreed = λ n h. (agrees_run ONE SEED (begun entries) start (take n made_so) agrees).0;
          ended = r.seen;
          reorders = λ n h. reorders ONE SEED entries start agrees (take n made_so) few;
          apart = λ n h. stays_apart ONE SEED one seed entries (take n made_so) words;
        }

-- begin takes no more rows than there are entries, and its ledger agrees with the state that it leaves
begin_within : (trace : Trace) (entries : List ℕ) → begin_rows trace entries ≤ length entries
begin_within trace entries = omega arith

pub begin_agrees : (ONE : List Write → ℕ) (SEED : ℕ → List Write → ℕ) (trace : Trace) (entries : List ℕ)
    → Agrees ONE SEED (begun (taken_entries trace entries)) (begun_state (begin_rows trace entries) entries)
begin_agrees ONE SEED trace entries = agrees_taken_words ONE SEED (begin_rows trace entries) entries (begin_within trace entries)

pub begin_few : (trace : Trace) (entries : List ℕ) → begin_rows trace entries ≤ most_rows → length (taken_entries trace entries) ≤ most_rows
begin_few trace entries h = omega (arith, h, length-take-le (begin_rows trace entries) entries (begin_within trace entries))

-- the requests of a trace
module _ (trace : Trace) (entries work : List ℕ) (places : List Answer) where
  abbrev asked : Call → Request
  asked = request_of trace.images.now (length entries) (length work)

  pub length-requests_of : length (requests_of trace entries work places) ≡ min (length trace.calls.now) (length places)
  length-requests_of =
      length-map (take (min (length trace.calls.now) (length places)) trace.calls.now) asked
      ∙ length-take-le (min (length trace.calls.now) (length places)) trace.calls.now (omega arith)

  request_at : (i : ℕ) (d : Call) → i < min (length trace.calls.now) (length places) → get_or (requests_of trace entries work places) i no_request ≡ asked (get_or trace.calls.now i d)
  request_at i d h =
      let n : ℕ = min (length trace.calls.now) (length places) in
      get_or-map asked (take n trace.calls.now) i d no_request (omega (arith, h, length-take-le n trace.calls.now (omega arith)))
      ∙ ap asked (get_or-take n trace.calls.now i d h)

  -- a call that is made, and one that is a misuse
  module _ (ONE : List Write → ℕ) (SEED : ℕ → List Write → ℕ) (start : State) (took : List ℕ) (agrees : Agrees ONE SEED (begun took) start)
      (i : ℕ) (s s' : State) (answers : List Answer) (r : Reached ONE SEED start took (requests_of trace entries work places) places agrees i s answers)
      (below : i < min (length trace.calls.now) (length places)) (call d : Call) (is : get_or trace.calls.now i d ≡ call)
      (E W : ℕ) (same_entries : E ≡ length entries) (same_work : W ≡ length work)
      (o : Option Answer) (made_so : Made ONE SEED s (request_of trace.images.now E W call) o s') where
    long : i < length (requests_of trace entries work places)
    long = omega (arith, below, length-requests_of)

    this : get_or (requests_of trace entries work places) i no_request ≡ request_of trace.images.now E W call
    this =
        request_at i d below
        ∙ ap asked is
        ∙ ap₂ (λ (e w : ℕ). request_of trace.images.now e w call) (sym same_entries) (sym same_work)

    pub turn_made : length answers ≡ length places → (a : Answer) → o ≡ Some a
        → Reached ONE SEED start took (requests_of trace entries work places) places agrees (i + 1) s' (set answers i a)
    turn_made l a e =
        let m = subst (λ (p : Option Answer). Made ONE SEED s (request_of trace.images.now E W call) p s') e made_so in
        reached_more ONE SEED start took (requests_of trace entries work places) places agrees i s answers r (request_of trace.images.now E W call) long this
        (omega (arith, l, below)) a s' m.0.0 m.0.1 (m.1 ∙ cond-false _ _ _ m.0.0)

    -- the words that stay over one call more
    pub turn_stays : length answers ≡ length places → (a : Answer) → o ≡ Some a → (old between new : List ℕ)
        → OthersStay (opened (take i (requests_of trace entries work places)) (map reply_of (take i answers))) old between
        → MatchOption o (new ≡ between) (λ answer. OthersStay (opens (request_of trace.images.now E W call) (reply_of answer)) between new)
        → OthersStay (opened (take (i + 1) (requests_of trace entries work places)) (map reply_of (take (i + 1) (set answers i a)))) old new
    turn_stays l a e old between new before after =
        let this_one : OthersStay (opens (request_of trace.images.now E W call) (reply_of a)) between new =
        subst (λ (p : Option Answer). MatchOption p (new ≡ between) (λ answer. OthersStay (opens (request_of trace.images.now E W call) (reply_of answer)) between new)) e after in
        let requests : List Request = requests_of trace entries work places in
        let first : length (take i requests) ≡ length (map reply_of (take i answers)) =
        length-take-le i requests (omega (arith, long)) ∙ sym (length-map (take i answers) reply_of ∙ length-take-le i answers (omega (arith, l, below))) in
        subst₂ (λ (qs : List Request) (rs : List Reply). OthersStay (opened qs rs) old new)
        (sym (taken_more ONE SEED start took requests places agrees i s answers r (request_of trace.images.now E W call) long this))
        (sym (told_more answers i a (omega (arith, l, below))))
        (stays_after _ _ _ old between new (opened_parts (take i requests) (map reply_of (take i answers)) (request_of trace.images.now E W call) (reply_of a) first) before this_one)

    pub turn_misuse : o ≡ None
        → (i ≡ made (begun took) (requests_of trace entries work places)) × Reached ONE SEED start took (requests_of trace entries work places) places agrees i s' answers
    turn_misuse e =
        let m = subst (λ (p : Option Answer). Made ONE SEED s (request_of trace.images.now E W call) p s') e made_so in (
          reached_misuse ONE SEED start took (requests_of trace entries work places) places agrees i s answers r (request_of trace.images.now E W call) long this m.0,
          subst (λ (t : State). Reached ONE SEED start took (requests_of trace entries work places) places agrees i t answers) (sym (m.1 ∙ cond-true _ _ _ m.0)) r,
        )

pub taken_below : (n : ℕ) (words : List ℕ) → ((k : ℕ) → slice_index words k < 2 ^ 64) → (k : ℕ) → slice_index (take n words) k < 2 ^ 64
taken_below zero words h k = omega arith
taken_below (suc n) [] h k = omega arith
taken_below (suc n) (w ∷ words) h zero = h 0
taken_below (suc n) (w ∷ words) h (suc k) = taken_below n words (λ j. h (suc j)) k
