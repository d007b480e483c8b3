-- What the rows of a range reach: within the range's region, and within the children.
use Rattle.std.proofs.Common.{◌≡◌, ℕ, zero, suc, ◌+◌, ◌-◌, ◌*◌, ◌<◌, ◌≤◌, Bool, true, false, cond, not, ◌&&◌, ◌||◌, eqb, ltb, leb, List, length, sym, refl, ap, ◌∙◌, subst, mul-le-mul_left, mul-add, arith, Some}
use Rattle.std.proofs.lemmas.Bool.{cond-false, cond-true, eq-eqb, le-ltb, leb-false, lt-ltb, ltb-false, ltb-true, ne_eqb, or_parts, true≢false}
use Rattle.layout.specs.declared.bytes.Width.{Width}
use Rattle.layout.specs.declared.bytes.Width.TheVariants.{Four}
use Rattle.layout.specs.declared.record.Record.{Record}
use Rattle.layout.specs.declared.data_type.DataType.{DataType}
use Rattle.layout.specs.declared.data_type.DataType.TheVariants.{Dictionary, Struct, List as ListOf, ListView, Map, FixedSizeList, RunEnd}
use Rattle.layout.specs.Bytes.{negative}
use Rattle.layout.specs.Nodes.{child_count, child_rows, element, marked, reads_nulls}
use Rattle.layout.specs.Records.{elements}
use Rattle.admission.specs.Rejections.{bad_key, bad_list_view, bad_offsets, bad_run_ends, end_before, last_offset}
use Rattle.admission.proofs.Below.{none_at}
use Rattle.admission.proofs.Sound.{Passed}
use Rattle.image.specs.Read.{first_below, offset, run_of, span}
use Rattle.image.proofs.Readable.{rises, step_up}
use Rattle.columns.specs.Jobs.{reach_from, reach_till, region}
use Rattle.columns.proofs.Meaning.{Uses}
use Rattle.columns.proofs.Typed.{exactly}

-- the region of a node with children
pub region_is : (t : DataType) (bytes : List ℕ) (r : Record) (lo n : ℕ) → 0 < child_count (Some t) r → region t bytes r lo n ≡ reach_till t bytes r lo n - reach_from t bytes r lo
region_is t bytes r lo n h = cond-false (eqb (child_count (Some t) r) 0) 0 _ (ne_eqb (child_count (Some t) r) 0 (λ e. omega arith))

cond_le : (b : Bool) (x y m : ℕ) → x ≤ m → y ≤ m → cond b x y ≤ m
cond_le true x y m h k = h
cond_le false x y m h k = k

first_most : (n : ℕ) (test : ℕ → Bool) → first_below n test ≤ n
first_most zero test = omega arith
first_most (suc n) test = let later = first_most n (λ k. test (suc k)) in cond_le (test 0) 0 (suc (first_below n (λ k. test (suc k)))) (suc n) (omega arith) (omega arith)

-- the first is at or before any that passes
first_at : (n : ℕ) (test : ℕ → Bool) (k : ℕ) → k < n → test k ≡ true → first_below n test ≤ k
first_at zero test k h e = absurd (omega arith)
first_at (suc n) test zero h e = let c = cond-true (test 0) 0 (suc (first_below n (λ k. test (suc k)))) e in omega arith
first_at (suc n) test (suc k) h e =
    let later = first_at n (λ i. test (suc i)) k (omega arith) e in
    cond_le (test 0) 0 (suc (first_below n (λ i. test (suc i)))) (suc k) (omega arith) (omega arith)

-- a harder test is passed later
later_step : (a b : Bool) (x y : ℕ) → (b ≡ true → a ≡ true) → x ≤ y → cond a 0 (suc x) ≤ cond b 0 (suc y)
later_step true b x y h l = omega arith
later_step false true x y h l = absurd (true≢false (sym (h refl)))
later_step false false x y h l = omega arith

first_later : (n : ℕ) (easy hard : ℕ → Bool) → ((k : ℕ) → hard k ≡ true → easy k ≡ true) → first_below n easy ≤ first_below n hard
first_later zero easy hard h = omega arith
first_later (suc n) easy hard h =
    later_step (easy 0) (hard 0) _ _ (h 0) (first_later n (λ k. easy (suc k)) (λ k. hard (suc k)) (λ k. h (suc k)))

-- the run of a later element is not an earlier one
pub run_rises : (w : Width) (bytes : List ℕ) (r : Record) (a b : ℕ) → a ≤ b → run_of w bytes r a ≤ run_of w bytes r b
run_rises w bytes r a b h =
    first_later (child_rows bytes r 0) _ _ (λ k e. lt-ltb a (element w bytes r.a k) (omega (arith, ltb-true b (element w bytes r.a k) e)))

-- an element below S is covered by a run
pub run_there : (w : Width) (bytes : List ℕ) (r : Record) (at : ℕ) → (ltb 0 (elements r) && ltb (end_before w bytes r (child_rows bytes r 0)) (elements r)) ≡ false → at < elements r
    → run_of w bytes r at < child_rows bytes r 0
run_there w bytes r at covered h = by_runs (child_rows bytes r 0) refl
  where
    some : ltb 0 (elements r) ≡ true
    some = lt-ltb 0 (elements r) (omega arith)

    last : elements r ≤ end_before w bytes r (child_rows bytes r 0)
    last = ltb-false (end_before w bytes r (child_rows bytes r 0)) (elements r) (ap (λ (b : Bool). b && ltb (end_before w bytes r (child_rows bytes r 0)) (elements r)) (sym some) ∙ covered)

    by_runs : (n : ℕ) → child_rows bytes r 0 ≡ n → run_of w bytes r at < child_rows bytes r 0
    by_runs zero e = let z : elements r ≤ 0 = subst (λ (n : ℕ). elements r ≤ end_before w bytes r n) e last in absurd (omega arith)
    by_runs (suc n) e =
        let l : elements r ≤ element w bytes r.a n = subst (λ (m : ℕ). elements r ≤ end_before w bytes r m) e last in
        let f : run_of w bytes r at ≤ n = first_at (child_rows bytes r 0) (λ k. ltb at (element w bytes r.a k)) n (omega arith) (lt-ltb at (element w bytes r.a n) (omega arith)) in
        omega arith

-- offsets of a node from one row to another
pub offset_rises : (w : Width) (bytes : List ℕ) (r : Record) → bad_offsets w bytes r ≡ false → (j k : ℕ) → j ≤ k → k ≤ r.rows → offset w bytes r (r.start + j) ≤ offset w bytes r (r.start + k)
offset_rises w bytes r ordered j k h l =
    rises (λ i. offset w bytes r (r.start + i)) k
    (λ i m. subst (λ (x : ℕ). offset w bytes r (r.start + i) ≤ offset w bytes r x) (omega arith) (step_up bytes w r ordered i (omega arith))) j h

key_there : (mark signed neg : Bool) (rows key : ℕ) → (not mark && ((signed && neg) || leb rows key)) ≡ false → mark ≡ false → key < rows
key_there true signed neg rows key e m = absurd (true≢false m)
key_there false signed neg rows key e m = leb-false rows key (or_parts (signed && neg) (leb rows key) e).1

-- an unmarked list view ends within the child's rows
pub list_view_there : (mark a b : Bool) (rows from size : ℕ) → (not mark && (a || (b || ltb rows (from + size)))) ≡ false → mark ≡ false → from + size ≤ rows
list_view_there true a b rows from size e m = absurd (true≢false m)
list_view_there false a b rows from size e m = ltb-false rows (from + size) (or_parts b (ltb rows (from + size)) (or_parts a (b || ltb rows (from + size)) e).1).1

two_children : (s : ℕ) (P : ℕ → Type 0) → s < 2 → P 0 → P 1 → P s
two_children zero P h a b = a
two_children (suc zero) P h a b = b
two_children (suc (suc s)) P h a b = absurd (omega arith)

module _ (bytes : List ℕ) (node : ℕ) (r : Record) (lo n : ℕ) (rows : lo + n ≤ r.rows) where
  -- the offsets around a range do not fall, and are within what the last offset is within
  pub offsets_inside : (w : Width) (limit : ℕ) → bad_offsets w bytes r ≡ false → last_offset w bytes r ≤ limit
      → (offset w bytes r (r.start + lo) ≤ offset w bytes r (r.start + lo + n)) × (offset w bytes r (r.start + lo + n) ≤ limit)
  offsets_inside w limit ordered l =
      let one = offset_rises w bytes r ordered lo (lo + n) (omega arith) rows in
      let two = offset_rises w bytes r ordered (lo + n) r.rows rows (omega arith) in
      let e : r.start + (lo + n) ≡ r.start + lo + n = omega arith in (
        subst (λ (x : ℕ). offset w bytes r (r.start + lo) ≤ offset w bytes r x) e one,
        let two' = subst (λ (x : ℕ). offset w bytes r x ≤ offset w bytes r (r.start + r.rows)) e two in omega arith,
      )

  span_inside : (t : DataType) (limit : ℕ) → 0 < child_count (Some t) r → reach_from t bytes r lo ≤ reach_till t bytes r lo n → reach_till t bytes r lo n ≤ limit → reach_from t bytes r lo + region t bytes r lo n ≤ limit
  span_inside t limit some low high = omega (arith, region_is t bytes r lo n some)

  -- the rows of a range reach no further than a child's rows
  pub reach_inside : (t : DataType) → Passed bytes node t r → (s : ℕ) → s < child_count (Some t) r → reach_from t bytes r lo + region t bytes r lo n ≤ child_rows bytes r s
  reach_inside (Dictionary w signed) p s h =
      let one = exactly (length bytes) 1 r p.tabled in
      let z : s ≡ 0 = omega arith in
      rw z (span_inside (Dictionary w signed) (child_rows bytes r 0) (omega arith) (omega arith) (omega arith))
  reach_inside Struct p s h =
      let fields = ltb-false (child_rows bytes r s) (elements r) (none_at r.cnt (λ k. ltb (child_rows bytes r k) (elements r)) s p.reached h) in
      span_inside Struct (child_rows bytes r s) (omega arith) (omega arith) (omega arith)
  reach_inside (ListOf w) p s h =
      let one = exactly (length bytes) 1 r p.tabled in
      let z : s ≡ 0 = omega arith in
      let inside = offsets_inside w (child_rows bytes r 0) p.ordered (ltb-false (child_rows bytes r 0) (last_offset w bytes r) p.reached) in
      rw z (span_inside (ListOf w) (child_rows bytes r 0) (omega arith) inside.0 inside.1)
  reach_inside (ListView w) p s h =
      let one = exactly (length bytes) 1 r p.tabled in
      let z : s ≡ 0 = omega arith in
      rw z (span_inside (ListView w) (child_rows bytes r 0) (omega arith) (omega arith) (omega arith))
  reach_inside Map p s h =
      let two = exactly (length bytes) 2 r p.tabled in
      let both = or_parts (ltb (child_rows bytes r 0) (last_offset Four bytes r)) (ltb (child_rows bytes r 1) (last_offset Four bytes r)) p.reached in
      let keys = ltb-false (child_rows bytes r 0) (last_offset Four bytes r) both.0 in
      let items = ltb-false (child_rows bytes r 1) (last_offset Four bytes r) both.1 in
      let inside = offsets_inside Four (last_offset Four bytes r) p.ordered (omega arith) in
      let all = span_inside Map (last_offset Four bytes r) (omega arith) inside.0 inside.1 in
      two_children s (λ k. reach_from Map bytes r lo + region Map bytes r lo n ≤ child_rows bytes r k) (omega arith) (omega arith) (omega arith)
  reach_inside (FixedSizeList z) p s h =
      let one = exactly (length bytes) 1 r p.tabled in
      let none : s ≡ 0 = omega arith in
      let all = ltb-false (child_rows bytes r 0) (z * elements r) p.reached in
      let first : z * (r.start + lo) ≤ z * (r.start + lo + n) = mul-le-mul_left z (omega arith) in
      let last : z * (r.start + lo + n) ≤ z * elements r = mul-le-mul_left z (omega arith) in
      rw none (span_inside (FixedSizeList z) (child_rows bytes r 0) (omega arith) first (omega arith))
  reach_inside (RunEnd w) p s h =
      let one = exactly (length bytes) 1 r p.tabled in
      let none : s ≡ 0 = omega arith in
      rw none (by_rows n refl one)
    where
      by_rows : (m : ℕ) → n ≡ m → r.cnt ≡ 1 → reach_from (RunEnd w) bytes r lo + region (RunEnd w) bytes r lo n ≤ child_rows bytes r 0
      by_rows zero e one =
          let t = cond-true (eqb n 0) (run_of w bytes r (r.start + lo)) (run_of w bytes r (r.start + lo + n - 1) + 1) (eq-eqb n 0 e) in
          span_inside (RunEnd w) (child_rows bytes r 0) (omega arith) (omega arith) (omega (arith, first_most (child_rows bytes r 0) (λ k. ltb (r.start + lo) (element w bytes r.a k))))
      by_rows (suc m) e one =
          let t = cond-false (eqb n 0) (run_of w bytes r (r.start + lo)) (run_of w bytes r (r.start + lo + n - 1) + 1) (ne_eqb n 0 (λ z. omega arith)) in
          let up = run_rises w bytes r (r.start + lo) (r.start + lo + n - 1) (omega arith) in
          let end = run_there w bytes r (r.start + lo + n - 1) p.reached (omega arith) in
          span_inside (RunEnd w) (child_rows bytes r 0) (omega arith) (omega arith) (omega arith)
  reach_inside t p s h = absurd (omega arith)

module _ (bytes : List ℕ) (node : ℕ) (r : Record) (lo n row : ℕ) (rows : lo + n ≤ r.rows) (low : lo ≤ row) (high : row < lo + n) where
  -- a child row is in the region of the range
  abbrev In : DataType → ℕ → Type 0
  In t q = (reach_from t bytes r lo ≤ q) × (q < reach_from t bytes r lo + region t bytes r lo n)

  between : (t : DataType) (q : ℕ) → 0 < child_count (Some t) r → reach_from t bytes r lo ≤ q → q < reach_till t bytes r lo n → In t q
  between t q some a b = (a, omega (arith, region_is t bytes r lo n some))

  -- the rows between a row's offset and the next
  offset_between : (t : DataType) (w : Width) → 0 < child_count (Some t) r → bad_offsets w bytes r ≡ false
      → reach_from t bytes r lo ≡ offset w bytes r (r.start + lo) → reach_till t bytes r lo n ≡ offset w bytes r (r.start + lo + n)
      → (k : ℕ) → k < span w bytes r (r.start + row) → In t (offset w bytes r (r.start + row) + k)
  offset_between t w some ordered f g k l =
      let a = offset_rises w bytes r ordered lo row low (omega arith) in
      let b = offset_rises w bytes r ordered (row + 1) (lo + n) (omega arith) rows in
      let c : offset w bytes r (r.start + row + 1) ≤ offset w bytes r (r.start + lo + n) =
      subst (λ (x : ℕ). offset w bytes r (r.start + row + 1) ≤ offset w bytes r x) (omega arith) (subst (λ (x : ℕ). offset w bytes r x ≤ offset w bytes r (r.start + (lo + n))) (omega arith) b) in
      between t (offset w bytes r (r.start + row) + k) some (omega arith) (omega arith)

  -- the child rows that an unmarked row of a range uses are in the range's region
  pub uses_reached : (t : DataType) → Passed bytes node t r → (reads_nulls t && marked bytes r row) ≡ false → Uses t bytes r (r.start + row) (In t)
  uses_reached (Dictionary w signed) p m =
      let one = exactly (length bytes) 1 r p.tabled in
      let key : ℕ = element w bytes r.a (r.start + row) in
      let there = key_there (marked bytes r row) signed (negative w key) (child_rows bytes r 0) key (none_at r.rows (bad_key bytes w signed r) row p.reached (omega arith)) m in
      between (Dictionary w signed) key (omega arith) (omega arith) there
  uses_reached Struct p m = λ e. between Struct (r.start + row) (positive r.cnt e) (omega arith) (omega arith)
    where
      positive : (c : ℕ) → eqb c 0 ≡ false → 0 < c
      positive zero e = absurd (true≢false e)
      positive (suc c) e = omega arith
  uses_reached (ListOf w) p m =
      let one = exactly (length bytes) 1 r p.tabled in
      offset_between (ListOf w) w (omega arith) p.ordered refl refl
  uses_reached (ListView w) p m = λ k l.
      let one = exactly (length bytes) 1 r p.tabled in
      let there =
      list_view_there (marked bytes r row) (negative w (element w bytes r.a (r.start + row))) (negative w (element w bytes r.b (r.start + row))) (child_rows bytes r 0)
      (element w bytes r.a (r.start + row)) (element w bytes r.b (r.start + row)) (none_at r.rows (bad_list_view bytes w r) row p.reached (omega arith)) m in
      between (ListView w) (element w bytes r.a (r.start + row) + k) (omega arith) (omega arith) (omega arith)
  uses_reached Map p m =
      let two = exactly (length bytes) 2 r p.tabled in
      offset_between Map Four (omega arith) p.ordered refl refl
  uses_reached (FixedSizeList z) p m = λ k l.
      let one = exactly (length bytes) 1 r p.tabled in
      let a : z * (r.start + lo) ≤ z * (r.start + row) = mul-le-mul_left z (omega arith) in
      let b : z * (r.start + row + 1) ≤ z * (r.start + lo + n) = mul-le-mul_left z (omega arith) in
      let c : z * (r.start + row + 1) ≡ z * (r.start + row) + z * 1 = mul-add z (r.start + row) 1 in
      between (FixedSizeList z) (z * (r.start + row) + k) (omega arith) (omega arith) (omega arith)
  uses_reached (RunEnd w) p m =
      let one = exactly (length bytes) 1 r p.tabled in
      let t = cond-false (eqb n 0) (run_of w bytes r (r.start + lo)) (run_of w bytes r (r.start + lo + n - 1) + 1) (ne_eqb n 0 (λ z. omega arith)) in
      let a = run_rises w bytes r (r.start + lo) (r.start + row) (omega arith) in
      let b = run_rises w bytes r (r.start + row) (r.start + lo + n - 1) (omega arith) in
      between (RunEnd w) (run_of w bytes r (r.start + row)) (omega arith) (omega arith) (omega arith)
  uses_reached t p m = tt

-- the first that passes, where none before it does
pub first_is : (n : ℕ) (test : ℕ → Bool) (k : ℕ) → k ≤ n → ((i : ℕ) → i < k → test i ≡ false) → (k < n → test k ≡ true) → first_below n test ≡ k
first_is zero test k h before here = omega arith
first_is (suc n) test zero h before here = cond-true (test 0) 0 _ (here (omega arith))
first_is (suc n) test (suc k) h before here =
    cond-false (test 0) 0 _ (before 0 (omega arith))
    ∙ ap suc (first_is n (λ i. test (suc i)) k (omega arith) (λ i l. before (suc i) (omega arith)) (λ l. here (omega arith)))

-- run ends do not fall
pub ends_rise : (w : Width) (bytes : List ℕ) (r : Record) → bad_run_ends w bytes r ≡ false → (i j : ℕ) → i ≤ j → j < child_rows bytes r 0 → element w bytes r.a i ≤ element w bytes r.a j
ends_rise w bytes r ordered i j h l = rises (element w bytes r.a) j step i h
  where
    bad : ℕ → Bool
    bad k = negative w (element w bytes r.a k) || leb (element w bytes r.a k) (end_before w bytes r k)

    step : (k : ℕ) → k < j → element w bytes r.a k ≤ element w bytes r.a (suc k)
    step k m =
        let above = leb-false (element w bytes r.a (suc k)) (element w bytes r.a k)
        (or_parts (negative w (element w bytes r.a (suc k))) (leb (element w bytes r.a (suc k)) (element w bytes r.a k)) (none_at (child_rows bytes r 0) bad (suc k) ordered (omega arith))).1 in
        omega arith

-- the first that passes passes, where there is one
first_passes : (n : ℕ) (test : ℕ → Bool) (k : ℕ) → first_below n test ≡ k → k < n → test k ≡ true
first_passes zero test k e h = absurd (omega arith)
first_passes (suc n) test k e h = by_first (test 0) refl k e h (first_passes n (λ i. test (suc i)))
  where
    later : ℕ
    later = first_below n (λ i. test (suc i))

    by_first : (b : Bool) → test 0 ≡ b → (k : ℕ) → cond b 0 (suc later) ≡ k → k < suc n → ((i : ℕ) → later ≡ i → i < n → test (suc i) ≡ true) → test k ≡ true
    by_first true t zero e h again = t
    by_first true t (suc k) e h again = absurd (omega arith)
    by_first false t zero e h again = absurd (omega arith)
    by_first false t (suc k) e h again = again k (omega arith) (omega arith)

module _ (w : Width) (bytes : List ℕ) (r : Record) (at : ℕ) where
  -- a run that ends at or before an element is not its run
  pub ends_before : (k : ℕ) → k < child_rows bytes r 0 → element w bytes r.a k ≤ at → eqb (run_of w bytes r at) k ≡ false
  ends_before k h l =
      ne_eqb (run_of w bytes r at) k (λ e.
      let above = ltb-true at (element w bytes r.a k) (first_passes (child_rows bytes r 0) (λ i. ltb at (element w bytes r.a i)) k e h) in
      omega arith)

  -- nor is one behind a run that ends after it
  pub ends_behind : (k p : ℕ) → k < child_rows bytes r 0 → p < k → at < element w bytes r.a p → eqb (run_of w bytes r at) k ≡ false
  ends_behind k p h l u =
      ne_eqb (run_of w bytes r at) k (λ e.
      let up = first_at (child_rows bytes r 0) (λ i. ltb at (element w bytes r.a i)) p (omega arith) (lt-ltb at (element w bytes r.a p) u) in
      omega arith)

  -- the run of an element: it ends after it, and the one before does not
  pub ends_here : bad_run_ends w bytes r ≡ false → (k : ℕ) → k < child_rows bytes r 0 → at < element w bytes r.a k → ((p : ℕ) → p + 1 ≡ k → element w bytes r.a p ≤ at)
      → run_of w bytes r at ≡ k
  ends_here ordered k h u before =
      first_is (child_rows bytes r 0) (λ i. ltb at (element w bytes r.a i)) k (omega arith)
      (λ i l. le-ltb at (element w bytes r.a i) (omega (arith, ends_rise w bytes r ordered i (k - 1) (omega arith) (omega arith), before (k - 1) (omega arith))))
      (λ _. lt-ltb at (element w bytes r.a k) u)
