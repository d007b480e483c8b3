-- Numbers and bits as they stand in a byte string.
use Rattle.std.specs.Prelude.{ℕ, zero, suc, ◌+◌, ◌*◌, ◌/◌, ◌%◌, ◌^◌, Bool, List, ◌==◌, nat_le, slice_index}
use Rattle.layout.specs.declared.bytes.Width.{Width}
use Rattle.layout.specs.declared.bytes.Width.TheVariants.{One, Two, Four, Eight}

-- the number in the w bytes from a place on, the lowest byte first
abbrev pub field : ℕ → List ℕ → ℕ → ℕ
field zero bytes place = 0
field (suc w) bytes place = slice_index bytes place + 256 * field w bytes (place + 1)

-- how many bytes a width stands for
abbrev pub wide : Width → ℕ
wide One = 1
wide Two = 2
wide Four = 4
wide Eight = 8

-- in two's complement a number of this width is negative where its highest bit is set
abbrev pub negative : Width → ℕ → Bool
negative One value = nat_le 0x80 value
negative Two value = nat_le 0x8000 value
negative Four value = nat_le 0x8000_0000 value
negative Eight value = nat_le 0x8000_0000_0000_0000 value

-- a bit of a bitmap, the lowest bit of a byte first
abbrev pub bit : List ℕ → ℕ → ℕ → Bool
bit bytes place index = slice_index bytes (place + index / 8) / 2 ^ (index % 8) % 2 == 1
