-- What the slot reader may read of an unmarked row.
use Rattle.std.specs.Prelude.{ℕ, ◌+◌, ◌*◌, ◌/◌, ◌<◌, ◌≤◌, List, length}
use Rattle.layout.specs.declared.bytes.Width.{Width}
use Rattle.layout.specs.declared.record.Record.{Record}
use Rattle.layout.specs.declared.data_type.DataType.{DataType}
use Rattle.layout.specs.declared.data_type.DataType.TheVariants.{Boolean, Number, Float, Utf8, Binary, FixedSizeBinary, View}
use Rattle.admission.specs.Seams.{ElementThere, ViewThere}
use Rattle.image.specs.Read.{offset}

-- two offsets that do not fall, and the bytes between them
abbrev pub SpanThere : Width → List ℕ → Record → ℕ → Type 0
SpanThere w bytes r at =
    ElementThere w bytes r.a at
    × ElementThere w bytes r.a (at + 1)
    × (offset w bytes r at ≤ offset w bytes r (at + 1))
    × (r.b + offset w bytes r (at + 1) ≤ length bytes)

-- the value or the bytes of a row can be read, by its type
abbrev pub Readable : DataType → List ℕ → Record → ℕ → Type 0
Readable Boolean bytes r row = r.a + (r.start + row) / 8 < length bytes
Readable (Number w) bytes r row = ElementThere w bytes r.a (r.start + row)
Readable (Float w) bytes r row = ElementThere w bytes r.a (r.start + row)
Readable (Utf8 w) bytes r row = SpanThere w bytes r (r.start + row)
Readable (Binary w) bytes r row = SpanThere w bytes r (r.start + row)
Readable (FixedSizeBinary p) bytes r row = r.a + p * (r.start + row) + p ≤ length bytes
Readable View bytes r row = ViewThere bytes r row
Readable t bytes r row = Unit {0}
