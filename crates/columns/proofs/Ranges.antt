-- What the walk may count on of a range of a node's rows.
use Rattle.std.proofs.Common.{◌≡◌, ℕ, zero, suc, ◌+◌, ◌-◌, ◌*◌, ◌<◌, ◌≤◌, false, ◌&&◌, eqb, ltb, List, length, refl, subst, mul-le-mul_left, mul-add, arith, Some}
use Rattle.std.proofs.lemmas.Bool.{eqb-false, ltb-false, ne_eqb, or_parts}
use Rattle.layout.specs.declared.bytes.Width.{Width}
use Rattle.layout.specs.declared.bytes.Width.TheVariants.{Four}
use Rattle.layout.specs.declared.record.Record.{Record}
use Rattle.layout.specs.declared.data_type.DataType.{DataType}
use Rattle.layout.specs.declared.data_type.DataType.TheVariants.{Dictionary, Struct, List as ListOf, ListView, Map, FixedSizeList, RunEnd}
use Rattle.layout.specs.Bytes.{negative, wide}
use Rattle.layout.specs.Nodes.{child_count, child_rows, element, marked, reads_nulls}
use Rattle.layout.specs.Records.{elements}
use Rattle.admission.specs.Rejections.{bad_list_view, bad_offsets, last_offset, outside, too_long}
use Rattle.admission.specs.Seams.{ElementThere, Linked}
use Rattle.admission.proofs.Below.{none_at}
use Rattle.admission.proofs.Reached.{values_passed}
use Rattle.admission.proofs.Sound.{Passed}
use Rattle.image.specs.Read.{offset, span}
use Rattle.image.proofs.Readable.{one_inside}
use Rattle.columns.specs.Jobs.{reach_from, reach_till, region}
use Rattle.columns.specs.Seams.{FoldThere, OffsetsThere, ReachThere, Within}
use Rattle.columns.proofs.Reaching.{list_view_there, offset_rises, offsets_inside, region_is, run_rises, run_there, uses_reached}
use Rattle.columns.proofs.Typed.{exactly}

-- START and ROWS are small
pub short : (r : Record) → too_long r ≡ false → (r.rows ≤ 1048576) × (r.start ≤ 1048576)
short r e =
    let parts = or_parts (ltb 1048576 r.rows) (ltb 1048576 r.start) e in
    (ltb-false 1048576 r.rows parts.0, ltb-false 1048576 r.start parts.1)

nonzero : (m : ℕ) → (m ≡ 0 → ⊥) → 0 < m
nonzero zero h = absurd (h refl)
nonzero (suc m) h = omega arith

module _ (bytes : List ℕ) (node : ℕ) (r : Record) (lo n : ℕ) (rows : lo + n ≤ r.rows) where
  offsets_there : (w : Width) (limit : ℕ) → r.a + wide w * (elements r + 1) ≤ length bytes → bad_offsets w bytes r ≡ false → last_offset w bytes r ≤ limit → limit ≤ 1048576
      → OffsetsThere w bytes r (r.start + lo) n
  offsets_there w limit inside ordered last small =
      let between = offsets_inside bytes node r lo n rows w limit ordered last in (
        one_inside (wide w) r.a (r.start + lo) (elements r + 1) (length bytes) (omega arith) inside,
        one_inside (wide w) r.a (r.start + lo + n) (elements r + 1) (length bytes) (omega arith) inside,
        between.0,
        omega (arith, between.1),
      )

  counted : (k : ℕ) → 0 < k → r.cnt ≡ k → eqb r.cnt 0 ≡ false
  counted k h e = ne_eqb r.cnt 0 (λ z. omega arith)

  pub reach_there : (t : DataType) → Passed bytes node t r → Linked bytes t r → (0 < child_count (Some t) r → child_rows bytes r 0 ≤ 1048576) → ReachThere t bytes r lo n
  reach_there (Dictionary w signed) p l small = (counted 1 (omega arith) (exactly (length bytes) 1 r p.tabled), l)
  reach_there Struct p l small = let few = short r p.short in omega (arith, few.0, few.1)
  reach_there (ListOf w) p l small =
      let one = exactly (length bytes) 1 r p.tabled in (
        counted 1 (omega arith) (exactly (length bytes) 1 r p.tabled),
        offsets_there w (child_rows bytes r 0) (ltb-false (length bytes) (r.a + wide w * (elements r + 1)) (values_passed bytes (ListOf w) r p.inside)) p.ordered (ltb-false (child_rows bytes r 0) (last_offset w bytes r) p.reached) (small (omega arith)),
      )
  reach_there (ListView w) p l small = (counted 1 (omega arith) (exactly (length bytes) 1 r p.tabled), l)
  reach_there Map p l small =
      let both = or_parts (ltb (child_rows bytes r 0) (last_offset Four bytes r)) (ltb (child_rows bytes r 1) (last_offset Four bytes r)) p.reached in
      let two = exactly (length bytes) 2 r p.tabled in (
        counted 2 (omega arith) two,
        offsets_there Four (child_rows bytes r 0) (ltb-false (length bytes) (r.a + 4 * (elements r + 1)) (values_passed bytes Map r p.inside)) p.ordered (ltb-false (child_rows bytes r 0) (last_offset Four bytes r) both.0) (small (omega arith)),
      )
  reach_there (FixedSizeList z) p l small =
      let few = short r p.short in
      let all = ltb-false (child_rows bytes r 0) (z * elements r) p.reached in
      let last : z * (r.start + lo + n) ≤ z * elements r = mul-le-mul_left z (omega arith) in
      let one = exactly (length bytes) 1 r p.tabled in
      let some = small (omega arith) in
      let sum : z * (r.start + lo + n) ≡ z * (r.start + lo) + z * n = mul-add z (r.start + lo) n in
      (counted 1 (omega arith) (exactly (length bytes) 1 r p.tabled), omega (arith, few.0, few.1), omega arith, sum)
  reach_there (RunEnd w) p l small =
      let few = short r p.short in (
        counted 1 (omega arith) (exactly (length bytes) 1 r p.tabled),
        (
          l,
          ltb-false (length bytes) (r.a + wide w * child_rows bytes r 0) (values_passed bytes (RunEnd w) r p.inside),
          p.ordered,
          omega (arith, few.0, few.1),
          (λ e. let some = nonzero n (eqb-false n 0 e) in run_there w bytes r (r.start + lo + n - 1) p.reached (omega arith)),
          (λ e. let some = nonzero n (eqb-false n 0 e) in run_rises w bytes r (r.start + lo) (r.start + lo + n - 1) (omega arith)),
        ),
      )
  reach_there t p l small = tt

module _ (bytes : List ℕ) (node : ℕ) (r : Record) (lo n row : ℕ) (rows : lo + n ≤ r.rows) (low : lo ≤ row) (high : row < lo + n) where
  -- an element of the rows can be read
  element_there : (w : Width) (place : ℕ) → place + wide w * elements r ≤ length bytes → ElementThere w bytes place (r.start + row)
  element_there w place inside = one_inside (wide w) place (r.start + row) (elements r) (length bytes) (omega arith) inside

  row_offsets : (t : DataType) (w : Width) (limit : ℕ) → 0 < child_count (Some t) r → r.a + wide w * (elements r + 1) ≤ length bytes → bad_offsets w bytes r ≡ false → last_offset w bytes r ≤ limit → limit ≤ 1048576
      → reach_from t bytes r lo ≡ offset w bytes r (r.start + lo) → reach_till t bytes r lo n ≡ offset w bytes r (r.start + lo + n)
      → OffsetsThere w bytes r (r.start + row) 1 × Within (reach_from t bytes r lo) (region t bytes r lo n) (offset w bytes r (r.start + row)) (span w bytes r (r.start + row))
  row_offsets t w limit some inside ordered last small f g =
      let whole = offsets_there bytes node r row 1 (omega arith) w limit inside ordered last small in
      let a = offset_rises w bytes r ordered lo row low (omega arith) in
      let b = offset_rises w bytes r ordered (row + 1) (lo + n) (omega arith) rows in
      let c : offset w bytes r (r.start + row + 1) ≤ offset w bytes r (r.start + lo + n) =
      subst (λ (x : ℕ). offset w bytes r (r.start + row + 1) ≤ offset w bytes r x) (omega arith) (subst (λ (x : ℕ). offset w bytes r x ≤ offset w bytes r (r.start + (lo + n))) (omega arith) b) in
      let all = offsets_inside bytes node r lo n rows w limit ordered last in
      (whole, (omega arith, omega (arith, region_is t bytes r lo n some, all.0, whole.2)))

  pub fold_there : (t : DataType) → Passed bytes node t r → Linked bytes t r → (0 < child_count (Some t) r → child_rows bytes r 0 ≤ 1048576) → (reads_nulls t && marked bytes r row) ≡ false
      → FoldThere t bytes r (r.start + row) (reach_from t bytes r lo) (region t bytes r lo n)
  fold_there (Dictionary w signed) p l small m =
      let one = exactly (length bytes) 1 r p.tabled in
      let used = uses_reached bytes node r lo n row rows low high (Dictionary w signed) p m in
      let few = small (omega arith) in (
        element_there w r.a (ltb-false (length bytes) (r.a + wide w * elements r) (values_passed bytes (Dictionary w signed) r p.inside)),
        omega (arith, used.1, region_is (Dictionary w signed) bytes r lo n (omega arith)),
        omega arith,
        (used.0, omega (arith, used.1)),
      )
  fold_there Struct p l small m = λ e. let used = uses_reached bytes node r lo n row rows low high Struct p m e in (used.0, omega (arith, used.1))
  fold_there (ListOf w) p l small m =
      let one = exactly (length bytes) 1 r p.tabled in
      row_offsets (ListOf w) w (child_rows bytes r 0) (omega arith) (ltb-false (length bytes) (r.a + wide w * (elements r + 1)) (values_passed bytes (ListOf w) r p.inside)) p.ordered
      (ltb-false (child_rows bytes r 0) (last_offset w bytes r) p.reached) (small (omega arith)) refl refl
  fold_there (ListView w) p l small m =
      let one = exactly (length bytes) 1 r p.tabled in
      let both = or_parts (outside (length bytes) r.a (wide w * elements r)) (outside (length bytes) r.b (wide w * elements r)) (values_passed bytes (ListView w) r p.inside) in
      let there =
      list_view_there (marked bytes r row) (negative w (element w bytes r.a (r.start + row))) (negative w (element w bytes r.b (r.start + row))) (child_rows bytes r 0)
      (element w bytes r.a (r.start + row)) (element w bytes r.b (r.start + row)) (none_at r.rows (bad_list_view bytes w r) row p.reached (omega arith)) m in (
        element_there w r.a (ltb-false (length bytes) (r.a + wide w * elements r) both.0),
        element_there w r.b (ltb-false (length bytes) (r.b + wide w * elements r) both.1),
        (omega arith, omega (arith, region_is (ListView w) bytes r lo n (omega arith))),
      )
  fold_there Map p l small m =
      let two = exactly (length bytes) 2 r p.tabled in
      let both = or_parts (ltb (child_rows bytes r 0) (last_offset Four bytes r)) (ltb (child_rows bytes r 1) (last_offset Four bytes r)) p.reached in
      row_offsets Map Four (child_rows bytes r 0) (omega arith) (ltb-false (length bytes) (r.a + 4 * (elements r + 1)) (values_passed bytes Map r p.inside)) p.ordered
      (ltb-false (child_rows bytes r 0) (last_offset Four bytes r) both.0) (small (omega arith)) refl refl
  fold_there (FixedSizeList z) p l small m =
      let one = exactly (length bytes) 1 r p.tabled in
      let all = ltb-false (child_rows bytes r 0) (z * elements r) p.reached in
      let few = small (omega arith) in
      let a : z * (r.start + lo) ≤ z * (r.start + row) = mul-le-mul_left z (omega arith) in
      let b : z * (r.start + row + 1) ≤ z * (r.start + lo + n) = mul-le-mul_left z (omega arith) in
      let c : z * (r.start + row + 1) ≡ z * (r.start + row) + z * 1 = mul-add z (r.start + row) 1 in
      let d : z * (r.start + lo + n) ≤ z * elements r = mul-le-mul_left z (omega arith) in
      let e : z * (r.start + lo) ≤ z * (r.start + lo + n) = mul-le-mul_left z (omega arith) in
      ((a, omega (arith, region_is (FixedSizeList z) bytes r lo n (omega arith))), omega arith)
  fold_there (RunEnd w) p l small m =
      let one = exactly (length bytes) 1 r p.tabled in
      let used = uses_reached bytes node r lo n row rows low high (RunEnd w) p m in
      let here = reach_there bytes node r row 1 (omega arith) (RunEnd w) p l small in
      (here.1, run_there w bytes r (r.start + row) p.reached (omega arith), (used.0, omega (arith, used.1)))
  fold_there t p l small m = tt
