-- What the checks that have passed let a later one read.
use Rattle.std.proofs.Common.{◌≡◌, ℕ, ◌+◌, ◌*◌, ◌<◌, ◌≤◌, Bool, true, false, not, ◌&&◌, ◌||◌, eqb, ltb, leb, List, length, arith}
use Rattle.std.proofs.lemmas.Bool.{ltb-false, or_parts}
use Rattle.std.proofs.lemmas.Bool.Decides.{nat_tests}
use Rattle.layout.specs.declared.record.Record.{Record}
use Rattle.layout.specs.declared.data_type.DataType.{DataType}
use Rattle.layout.specs.declared.data_type.DataType.TheVariants.{View}
use Rattle.layout.specs.Nodes.{HoldsBit, bitmap_bytes, marked, reads_nulls, some_below}
use Rattle.layout.specs.Records.{elements}
use Rattle.layout.specs.Views.{view_place, view_length, is_long, view_buffer, view_offset, buffer_place, buffer_length}
use Rattle.admission.specs.Rejections.{outside, bad_buffer, bad_values, bad_reference, out_of_reach}
use Rattle.admission.specs.Seams.{Linked, ViewThere}
use Rattle.admission.proofs.Below.{none_at}

-- a bitmap that lies inside holds the bit of each row
pub bit_held : (bytes : List ℕ) (r : Record) (row : ℕ) → row < r.rows
    → (not (eqb r.nulls 0) && outside (length bytes) r.nulls (bitmap_bytes (elements r))) ≡ false → HoldsBit bytes r row
bit_held bytes r row h e no_zero =
    let inside : outside (length bytes) r.nulls (bitmap_bytes (elements r)) ≡ false = rw no_zero at e in
    omega (arith, ltb-false (length bytes) (r.nulls + bitmap_bytes (elements r)) inside)

-- what it says of an unmarked long view that it is in reach
reference_parts : (mark long : Bool) (count buffer size offset len : ℕ) → (not mark && (long && (leb count buffer || ltb size (offset + len)))) ≡ false
    → mark ≡ false → long ≡ true → (buffer < count) × (offset + len ≤ size)
reference_parts mark long count buffer size offset len e p q = (grind (arith, nat_tests), grind (arith, nat_tests))

-- the bitmap of a node, if it has one, lies inside
pub bitmap_passed : (bytes : List ℕ) (t : DataType) (r : Record) → bad_buffer bytes t r ≡ false
    → (reads_nulls t && (not (eqb r.nulls 0) && outside (length bytes) r.nulls (bitmap_bytes (elements r)))) ≡ false
bitmap_passed bytes t r e =
    (or_parts (reads_nulls t && (not (eqb r.nulls 0) && outside (length bytes) r.nulls (bitmap_bytes (elements r)))) (bad_values bytes t r) e).0

-- a node's own buffers lie inside
pub values_passed : (bytes : List ℕ) (t : DataType) (r : Record) → bad_buffer bytes t r ≡ false → bad_values bytes t r ≡ false
values_passed bytes t r e =
    (or_parts (reads_nulls t && (not (eqb r.nulls 0) && outside (length bytes) r.nulls (bitmap_bytes (elements r)))) (bad_values bytes t r) e).1

module _ (bytes : List ℕ) (r : Record) (linked : Linked bytes View r) (inside : bad_buffer bytes View r ≡ false) where
  pairs_bad : ℕ → Bool
  pairs_bad k = outside (length bytes) (buffer_place bytes r k) (buffer_length bytes r k)

  view_parts : (outside (length bytes) r.a (16 * elements r) ≡ false) × (some_below r.cnt pairs_bad ≡ false)
  unfolding pairs_bad
  view_parts = or_parts (outside (length bytes) r.a (16 * elements r)) (some_below r.cnt pairs_bad) (values_passed bytes View r inside)

  -- the 16 bytes of a row's view lie inside
  pub view_inside : (row : ℕ) → row < r.rows → view_place r row + 16 ≤ length bytes
  view_inside row h = omega (arith, ltb-false (length bytes) (r.a + 16 * elements r) view_parts.0)

  buffer_inside : (k : ℕ) → k < r.cnt → buffer_place bytes r k + buffer_length bytes r k ≤ length bytes
  unfolding pairs_bad
  buffer_inside k h = ltb-false (length bytes) (buffer_place bytes r k + buffer_length bytes r k) (none_at r.cnt pairs_bad k view_parts.1 h)

  long_inside : (row view : ℕ) → bad_reference bytes r row view ≡ false → marked bytes r row ≡ false → is_long bytes view ≡ true
      → (r.tab + 8 * view_buffer bytes view + 8 ≤ length bytes) × (buffer_place bytes r (view_buffer bytes view) + view_offset bytes view + view_length bytes view ≤ length bytes)
  long_inside row view e p q =
      let parts = reference_parts (marked bytes r row) (is_long bytes view) r.cnt (view_buffer bytes view) (buffer_length bytes r (view_buffer bytes view)) (view_offset bytes view) (view_length bytes view) e p q in
      (linked (view_buffer bytes view) parts.0, omega (arith, parts.1, buffer_inside (view_buffer bytes view) parts.0))

  -- a row's view can be read, and where it is long and unmarked its pair and its bytes too
  pub view_there : out_of_reach bytes View r ≡ false → (row : ℕ) → row < r.rows → ViewThere bytes r row
  view_there reached row h = (
    bit_held bytes r row h (bitmap_passed bytes View r inside),
    view_inside row h,
    long_inside row (view_place r row) (none_at r.rows (λ row. bad_reference bytes r row (view_place r row)) row reached h),
  )
