-- When each rejection applies to a node: r is its record, t its type.
use Rattle.std.specs.Prelude.{ℕ, zero, suc, ◌+◌, ◌-◌, ◌*◌, Bool, true, false, cond, not, ◌&&◌, ◌||◌, List, length, ◌==◌, nat_le, nat_lt, slice_index}
use Rattle.layout.specs.declared.bytes.Width.{Width}
use Rattle.layout.specs.declared.bytes.Width.TheVariants.{Four}
use Rattle.layout.specs.declared.record.Record.{Record}
use Rattle.layout.specs.declared.data_type.DataType.{DataType}
use Rattle.layout.specs.declared.data_type.DataType.TheVariants.{Boolean, Number, Float, Utf8, Binary, FixedSizeBinary, View, Dictionary, Struct, List as ListOf, ListView, Map, FixedSizeList, RunEnd}
use Rattle.layout.specs.declared.data_type.Table.{Table}
use Rattle.layout.specs.declared.data_type.Table.TheVariants.{Unread, Children, Pairs}
use Rattle.layout.specs.Bytes.{field, negative, wide}
use Rattle.layout.specs.Records.{nodes, record_at, elements}
use Rattle.layout.specs.Types.{data_type}
use Rattle.layout.specs.Nodes.{some_below, listed, child_count, child, child_rows, reads_nulls, marked, bitmap_bytes, element}
use Rattle.layout.specs.Views.{view_place, view_length, is_long, view_prefix, view_buffer, view_offset, buffer_place, buffer_length}

-- so many bytes from a place on do not end within an image of this length
abbrev pub outside : ℕ → ℕ → ℕ → Bool
outside len place size = nat_lt len (place + size)

-- 3: ROWS or START is above 1,048,576
abbrev pub too_long : Record → Bool
too_long r = nat_lt 1048576 r.rows || nat_lt 1048576 r.start

-- 4: CNT is not allowed, or the list at TAB is not wholly inside
abbrev pub bad_table : ℕ → Table → Record → Bool
bad_table len Unread r = false
bad_table len (Children least most) r = nat_lt r.cnt least || (nat_lt most r.cnt || outside len r.tab (4 * r.cnt))
bad_table len (Pairs most) r = nat_lt most r.cnt || outside len r.tab (8 * r.cnt)

-- 5: a child number is not above the node's own, or not below the node count
abbrev pub bad_child : List ℕ → ℕ → Table → Record → Bool
bad_child bytes node t r = some_below (listed t r.cnt) (λ k. nat_le (child bytes r k) node || nat_le (nodes bytes) (child bytes r k))

-- whether a node's height is above h: each node's is above 0, and above h + 1 where a child's is above h
abbrev pub higher : List ℕ → ℕ → ℕ → Bool
higher bytes zero node = true
higher bytes (suc h) node =
    let r : Record = record_at bytes node in
    some_below (child_count (data_type r) r) (λ k. higher bytes h (child bytes r k))

-- 6: the height is above 16
abbrev pub too_high : List ℕ → ℕ → Bool
too_high bytes node = higher bytes 16 node

-- 7: a buffer of the type's own is not wholly inside
abbrev pub bad_values : List ℕ → DataType → Record → Bool
bad_values bytes Boolean r = outside (length bytes) r.a (bitmap_bytes (elements r))
bad_values bytes (Number w) r = outside (length bytes) r.a (wide w * elements r)
bad_values bytes (Float w) r = outside (length bytes) r.a (wide w * elements r)
bad_values bytes (Utf8 w) r = outside (length bytes) r.a (wide w * (elements r + 1))
bad_values bytes (Binary w) r = outside (length bytes) r.a (wide w * (elements r + 1))
bad_values bytes (FixedSizeBinary p) r = outside (length bytes) r.a (p * elements r)
bad_values bytes View r =
    outside (length bytes) r.a (16 * elements r)
    || some_below r.cnt (λ k. outside (length bytes) (buffer_place bytes r k) (buffer_length bytes r k))
bad_values bytes (Dictionary w signed) r = outside (length bytes) r.a (wide w * elements r)
bad_values bytes (ListOf w) r = outside (length bytes) r.a (wide w * (elements r + 1))
bad_values bytes (ListView w) r = outside (length bytes) r.a (wide w * elements r) || outside (length bytes) r.b (wide w * elements r)
bad_values bytes Map r = outside (length bytes) r.a (4 * (elements r + 1))
bad_values bytes (RunEnd w) r = outside (length bytes) r.a (wide w * child_rows bytes r 0)
bad_values bytes t r = false

-- 7: the bitmap, a buffer or a view's data buffer is not wholly inside
abbrev pub bad_buffer : List ℕ → DataType → Record → Bool
bad_buffer bytes t r =
    (reads_nulls t && (not (r.nulls == 0) && outside (length bytes) r.nulls (bitmap_bytes (elements r))))
    || bad_values bytes t r

-- the offset after a row's first is negative or falls below it
abbrev pub bad_offset : Width → List ℕ → Record → ℕ → Bool
bad_offset w bytes r row =
    negative w (element w bytes r.a (r.start + row + 1))
    || nat_lt (element w bytes r.a (r.start + row + 1)) (element w bytes r.a (r.start + row))

-- 8: the first of a node's offsets is negative, or a later one is negative or falls below the one before it
abbrev pub bad_offsets : Width → List ℕ → Record → Bool
bad_offsets w bytes r = negative w (element w bytes r.a r.start) || some_below r.rows (bad_offset w bytes r)

-- the run end before a run, 0 before the first
abbrev pub end_before : Width → List ℕ → Record → ℕ → ℕ
end_before w bytes r zero = 0
end_before w bytes r (suc k) = element w bytes r.a k

-- a run's end is negative or not above the end before it
abbrev pub bad_run_end : Width → List ℕ → Record → ℕ → Bool
bad_run_end w bytes r k = negative w (element w bytes r.a k) || nat_le (element w bytes r.a k) (end_before w bytes r k)

-- 8: a run end is negative or not above the one before it, the first not above 0
abbrev pub bad_run_ends : Width → List ℕ → Record → Bool
bad_run_ends w bytes r = some_below (child_rows bytes r 0) (bad_run_end w bytes r)

-- 8: offsets are negative or fall, or run ends are not above 0 and rising
abbrev pub bad_order : List ℕ → DataType → Record → Bool
bad_order bytes (Utf8 w) r = bad_offsets w bytes r
bad_order bytes (Binary w) r = bad_offsets w bytes r
bad_order bytes (ListOf w) r = bad_offsets w bytes r
bad_order bytes Map r = bad_offsets Four bytes r
bad_order bytes (RunEnd w) r = bad_run_ends w bytes r
bad_order bytes t r = false

-- the last of a node's offsets: where no offset is negative, the number that stands there
abbrev pub last_offset : Width → List ℕ → Record → ℕ
last_offset w bytes r = element w bytes r.a (elements r)

-- an unmarked key that is negative, where keys are signed, or no row of the child
abbrev pub bad_key : List ℕ → Width → Bool → Record → ℕ → Bool
bad_key bytes w signed r row =
    not (marked bytes r row)
    && ((signed && negative w (element w bytes r.a (r.start + row)))
    || nat_le (child_rows bytes r 0) (element w bytes r.a (r.start + row)))

-- an unmarked list view whose offset or size is negative, or that ends past the child's rows
abbrev pub bad_list_view : List ℕ → Width → Record → ℕ → Bool
bad_list_view bytes w r row =
    not (marked bytes r row)
    && (negative w (element w bytes r.a (r.start + row))
    || (negative w (element w bytes r.b (r.start + row))
    || nat_lt (child_rows bytes r 0) (element w bytes r.a (r.start + row) + element w bytes r.b (r.start + row))))

-- an unmarked long view that names no data buffer, or ends past it
abbrev pub bad_reference : List ℕ → Record → ℕ → ℕ → Bool
bad_reference bytes r row view =
    not (marked bytes r row)
    && (is_long bytes view
    && (nat_le r.cnt (view_buffer bytes view)
    || nat_lt (buffer_length bytes r (view_buffer bytes view)) (view_offset bytes view + view_length bytes view)))

-- no run covers the last element
abbrev pub bad_runs : List ℕ → Width → Record → Bool
bad_runs bytes w r = nat_lt 0 (elements r) && nat_lt (end_before w bytes r (child_rows bytes r 0)) (elements r)

-- 9: a row reaches a child row or byte that is not there
abbrev pub out_of_reach : List ℕ → DataType → Record → Bool
out_of_reach bytes (Utf8 w) r = outside (length bytes) r.b (last_offset w bytes r)
out_of_reach bytes (Binary w) r = outside (length bytes) r.b (last_offset w bytes r)
out_of_reach bytes View r = some_below r.rows (λ row. bad_reference bytes r row (view_place r row))
out_of_reach bytes (Dictionary w signed) r = some_below r.rows (bad_key bytes w signed r)
out_of_reach bytes Struct r = some_below r.cnt (λ k. nat_lt (child_rows bytes r k) (elements r))
out_of_reach bytes (ListOf w) r = nat_lt (child_rows bytes r 0) (last_offset w bytes r)
out_of_reach bytes (ListView w) r = some_below r.rows (bad_list_view bytes w r)
out_of_reach bytes Map r = nat_lt (child_rows bytes r 0) (last_offset Four bytes r) || nat_lt (child_rows bytes r 1) (last_offset Four bytes r)
out_of_reach bytes (FixedSizeList p) r = nat_lt (child_rows bytes r 0) (p * elements r)
out_of_reach bytes (RunEnd w) r = bad_runs bytes w r
out_of_reach bytes t r = false

-- the bytes after a short view's own are not all 0
abbrev pub bad_padding : List ℕ → ℕ → Bool
bad_padding bytes view =
    some_below (12 - view_length bytes view) (λ k. not (slice_index bytes (view + 4 + view_length bytes view + k) == 0))

-- a long view's prefix is not the first four of its bytes
abbrev pub bad_prefix : List ℕ → Record → ℕ → Bool
bad_prefix bytes r view =
    not (view_prefix bytes view == field 4 bytes (buffer_place bytes r (view_buffer bytes view) + view_offset bytes view))

-- 10: an unmarked view has non-zero padding or a prefix unlike its first four bytes
abbrev pub bad_view : List ℕ → Record → ℕ → ℕ → Bool
bad_view bytes r row view = not (marked bytes r row) && cond (is_long bytes view) (bad_prefix bytes r view) (bad_padding bytes view)

-- 10: a column of views has a row whose view is bad
abbrev pub bad_views : List ℕ → DataType → Record → Bool
bad_views bytes View r = some_below r.rows (λ row. bad_view bytes r row (view_place r row))
bad_views bytes t r = false
