-- The 16 bytes of a view, by their place.
use Rattle.std.specs.Prelude.{ℕ, ◌+◌, ◌*◌, Bool, List, nat_lt}
use Rattle.layout.specs.declared.record.Record.{Record}
use Rattle.layout.specs.Bytes.{field}

-- where the view of a row stands
abbrev pub view_place : Record → ℕ → ℕ
view_place r row = r.a + 16 * (r.start + row)

-- a view begins with the length of its bytes
abbrev pub view_length : List ℕ → ℕ → ℕ
view_length bytes view = field 4 bytes view

-- up to 12 bytes stand in the view itself, more stand in a data buffer
abbrev pub is_long : List ℕ → ℕ → Bool
is_long bytes view = nat_lt 12 (view_length bytes view)

-- the first four bytes of a long view's content, as the view itself has them
abbrev pub view_prefix : List ℕ → ℕ → ℕ
view_prefix bytes view = field 4 bytes (view + 4)

-- the number of the data buffer that has a long view's content
abbrev pub view_buffer : List ℕ → ℕ → ℕ
view_buffer bytes view = field 4 bytes (view + 8)

-- where in that data buffer a long view's content begins
abbrev pub view_offset : List ℕ → ℕ → ℕ
view_offset bytes view = field 4 bytes (view + 12)

-- the place of a data buffer, by its pair in TAB
abbrev pub buffer_place : List ℕ → Record → ℕ → ℕ
buffer_place bytes r k = field 4 bytes (r.tab + 8 * k)

-- how many bytes a data buffer has, by its pair in TAB
abbrev pub buffer_length : List ℕ → Record → ℕ → ℕ
buffer_length bytes r k = field 4 bytes (r.tab + 8 * k + 4)
