-- An unmarked row of a node that has passed can be read.
use Rattle.std.proofs.Common.{◌≡◌, ℕ, zero, suc, ◌+◌, ◌*◌, ◌<◌, ◌≤◌, Bool, true, false, ◌||◌, ltb, List, length, Some, subst, inl, inr, mul-le-mul_left, mul-suc, arith}
use Rattle.std.proofs.lemmas.Bool.{cases_eq, ltb-false, or_parts}
use Rattle.layout.specs.declared.bytes.Width.{Width}
use Rattle.layout.specs.declared.record.Record.{Record}
use Rattle.layout.specs.declared.data_type.DataType.{DataType}
use Rattle.layout.specs.declared.data_type.DataType.TheVariants.{Boolean, Number, Float, Utf8, Binary, FixedSizeBinary, View}
use Rattle.layout.specs.Bytes.{negative, wide}
use Rattle.layout.specs.Nodes.{HoldsBit, bitmap_bytes, element, reads_nulls}
use Rattle.layout.specs.Records.{elements, nodes, record_at}
use Rattle.layout.specs.Types.{data_type}
use Rattle.admission.specs.FirstFault.{sound}
use Rattle.admission.specs.Rejections.{bad_offsets, bad_values, last_offset, outside}
use Rattle.admission.specs.Seams.{ElementThere, Headed}
use Rattle.admission.proofs.Below.{none_at}
use Rattle.admission.proofs.Links.{linked}
use Rattle.admission.proofs.Reached.{bit_held, bitmap_passed, values_passed, view_there}
use Rattle.admission.proofs.Sound.{Passed, sound_headed, sound_read}
use Rattle.image.specs.Read.{offset}
use Rattle.image.specs.Seams.{Readable, SpanThere}

-- one of n elements of w bytes, where all of them end within a length
pub one_inside : (w place k n len : ℕ) → k < n → place + w * n ≤ len → place + w * k + w ≤ len
one_inside w place k n len h e =
    let m : suc k ≤ n = omega arith in
    let p : w * suc k ≤ w * n = mul-le-mul_left w m in
    let q : w * suc k ≡ w * k + w = mul-suc w k in
    omega arith

-- what never falls from step to step is greatest at the end
pub rises : (f : ℕ → ℕ) (n : ℕ) → ((k : ℕ) → k < n → f k ≤ f (suc k)) → (j : ℕ) → j ≤ n → f j ≤ f n
rises f zero step j h = let q : j ≡ 0 = omega arith in rw q (omega arith)
rises f (suc n) step j h =
    elim (cases_eq j (suc n)) [
      | inl q ↦ rw q (omega arith)
      | inr q ↦ let before : f j ≤ f n = rises f n (λ k l. step k (omega arith)) j (omega arith) in omega (arith, step n (omega arith))
    ]

module _ (bytes : List ℕ) (w : Width) (r : Record) (ordered : bad_offsets w bytes r ≡ false) where
  -- a row's offset is not above the next
  pub step_up : (k : ℕ) → k < r.rows → offset w bytes r (r.start + k) ≤ offset w bytes r (r.start + k + 1)
  step_up k h =
      let bad : ℕ → Bool = λ k. negative w (element w bytes r.a (r.start + k + 1)) || ltb (element w bytes r.a (r.start + k + 1)) (element w bytes r.a (r.start + k)) in
      let parts = or_parts (negative w (element w bytes r.a r.start)) _ ordered in
      let here = or_parts (negative w (element w bytes r.a (r.start + k + 1))) (ltb (element w bytes r.a (r.start + k + 1)) (element w bytes r.a (r.start + k))) (none_at r.rows bad k parts.1 h) in
      ltb-false (element w bytes r.a (r.start + k + 1)) (element w bytes r.a (r.start + k)) here.1

  -- no offset is above the last
  below_last : (j : ℕ) → j ≤ r.rows → offset w bytes r (r.start + j) ≤ last_offset w bytes r
  below_last =
      rises (λ k. offset w bytes r (r.start + k)) r.rows
      (λ k h. subst (λ (m : ℕ). offset w bytes r (r.start + k) ≤ offset w bytes r m) (omega arith) (step_up k h))

  -- the offsets of a row and the bytes between them
  span_there : r.a + wide w * (elements r + 1) ≤ length bytes → r.b + last_offset w bytes r ≤ length bytes → (row : ℕ) → row < r.rows → SpanThere w bytes r (r.start + row)
  span_there inside reached row h =
      let last : offset w bytes r (r.start + row + 1) ≤ last_offset w bytes r =
      subst (λ (m : ℕ). offset w bytes r m ≤ last_offset w bytes r) (omega arith) (below_last (row + 1) (omega arith)) in (
        one_inside (wide w) r.a (r.start + row) (elements r + 1) (length bytes) (omega arith) inside,
        one_inside (wide w) r.a (r.start + row + 1) (elements r + 1) (length bytes) (omega arith) inside,
        step_up row h,
        omega (arith, last),
      )

module _ (bytes : List ℕ) (node row : ℕ) (r : Record) (headed : Headed bytes) (there : row < r.rows) where
  values : (t : DataType) → Passed bytes node t r → bad_values bytes t r ≡ false
  values t p = values_passed bytes t r p.inside

  element_there : (w : Width) → outside (length bytes) r.a (wide w * elements r) ≡ false → ElementThere w bytes r.a (r.start + row)
  element_there w e = one_inside (wide w) r.a (r.start + row) (elements r) (length bytes) (omega arith) (ltb-false (length bytes) (r.a + wide w * elements r) e)

  bytes_there : (w : Width) → bad_offsets w bytes r ≡ false → outside (length bytes) r.a (wide w * (elements r + 1)) ≡ false → outside (length bytes) r.b (last_offset w bytes r) ≡ false
      → SpanThere w bytes r (r.start + row)
  bytes_there w ordered inside reached =
      span_there bytes w r ordered (ltb-false (length bytes) (r.a + wide w * (elements r + 1)) inside) (ltb-false (length bytes) (r.b + last_offset w bytes r) reached) row there

  -- the value or the bytes of a row can be read
  pub readable : (t : DataType) → Passed bytes node t r → Readable t bytes r row
  readable Boolean p = let e = ltb-false (length bytes) (r.a + bitmap_bytes (elements r)) (values Boolean p) in omega arith
  readable (Number w) p = element_there w (values (Number w) p)
  readable (Float w) p = element_there w (values (Float w) p)
  readable (Utf8 w) p = bytes_there w p.ordered (values (Utf8 w) p) p.reached
  readable (Binary w) p = bytes_there w p.ordered (values (Binary w) p) p.reached
  readable (FixedSizeBinary s) p = one_inside s r.a (r.start + row) (elements r) (length bytes) (omega arith) (ltb-false (length bytes) (r.a + s * elements r) (values (FixedSizeBinary s) p))
  readable View p = view_there bytes r (linked bytes node r headed View p.tabled p.lined) p.inside p.reached row there
  readable t p = tt

  -- the bitmap, where NULLS is read, holds the bit of a row
  pub bit_there : (t : DataType) → Passed bytes node t r → reads_nulls t ≡ true → HoldsBit bytes r row
  bit_there t p reads = bit_held bytes r row there (rw reads at (bitmap_passed bytes t r p.inside))

-- a row of a sound image can be read, and so can its mark
pub row_readable : (bytes : List ℕ) → sound bytes ≡ true → (node row : ℕ) (r : Record) (t : DataType) → r ≡ record_at bytes node → Some t ≡ data_type r
    → node < nodes bytes → row < r.rows → (reads_nulls t ≡ true → HoldsBit bytes r row) × Readable t bytes r row
row_readable bytes is-sound node row r t read typed h there =
    let headed = sound_headed bytes is-sound (omega arith) in
    let passed = sound_read bytes is-sound node r t h read typed in
    (bit_there bytes node row r headed there t passed, readable bytes node row r headed there t passed)
