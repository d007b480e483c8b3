-- Hashes, and what values tell a hasher, as docs/ROW_NUMBERS.md says.
use Rattle.std.specs.Prelude.{◌≡◌, ℕ, ◌+◌, ◌*◌, ◌-◌, ◌^◌, Bool, true, false, [], ◌∷◌, length, map, replicate, Some, None, Option}
use Rattle.hash_state.specs.Combine.{C, OneToOne, entry_number, later}
use Rattle.hash_state.specs.Fnv.{fnv1a, offset_basis}
use Rattle.hash_state.specs.Sip.{siphash}
use Rattle.hash_state.specs.Values.{binary, boolean, float, float_bits, nothing, number, seeded_float, text}
use Rattle.hash_state.specs.Writes.{Bytes, Pair, Word, joined}

-- SipHash-2-4 under the published key, the bytes 0 to 15, of so many bytes that are each 7
abbrev pub of_sevens : ℕ → ℕ
of_sevens n = siphash 0x0706_0504_0302_0100 0x0f0e_0d0c_0b0a_0908 (replicate n 7)

-- messages of 0, 63, 64, 127, 128, 200, 255, 256 and 300 bytes: the last byte is their length modulo 256
abbrev pub LongMessages : Type 0
LongMessages =
    map of_sevens (0 ∷ 63 ∷ 64 ∷ 127 ∷ 128 ∷ 200 ∷ 255 ∷ 256 ∷ 300 ∷ [])
    ≡ (0x726f_db47_dd0e_0e31
    ∷ 0xcbe7_0d35_0a46_bcc1
    ∷ 0x4028_ef39_4721_4fba
    ∷ 0x2bda_bcc7_b530_74e1
    ∷ 0xbbea_3b2c_f197_ebee
    ∷ 0xb18f_ab0a_0343_9622
    ∷ 0x5e24_1d08_34e7_c894
    ∷ 0x2776_b576_ca1c_378f
    ∷ 0x534a_2da3_8854_ceb9
    ∷ [])

-- FNV-1a from its standard start of "", "a" and "foobar"
abbrev pub PublishedFnv : Type 0
PublishedFnv =
    map (fnv1a offset_basis) ([] ∷ (97 ∷ []) ∷ (102 ∷ 111 ∷ 111 ∷ 98 ∷ 97 ∷ 114 ∷ []) ∷ [])
    ≡ (0xcbf2_9ce4_8422_2325 ∷ 0xaf63_dc4c_8601_ec8c ∷ 0x8594_4171_f739_67e8 ∷ [])

-- C(0, 0), C(7, 0), C(0, 7); and of the greatest words, where the sums pass 2^64
abbrev pub Combined : Type 0
Combined =
    (C 0 0 ∷ C 7 0 ∷ C 0 7 ∷ C (2 ^ 64 - 629) 5 ∷ C (2 ^ 64 - 1) (2 ^ 64 - 1) ∷ [])
    ≡ (23273 ∷ 23532 ∷ 23280 ∷ 5 ∷ 23235 ∷ [])

-- a later value seeds, or is combined with the entry, its own number on the left
abbrev pub LaterValues : Type 0
LaterValues = (later true 3 4 5 ∷ later false 3 4 5 ∷ []) ≡ (3 ∷ 23426 ∷ [])

-- the number of a value that tells one word, and two under a seed, where ONE counts the writes and SEED adds ten for each to its seed
abbrev pub counted : Option ℕ → Bool → ℕ
counted before seeds = entry_number (λ ws. length ws) (λ s ws. s + 10 * length ws) before seeds (Word 1 0 ∷ []) (Word 1 0 ∷ Word 1 0 ∷ [])

-- without an entry it is ONE, whether the value seeds or combines; from entry 5 it is SEED, or ONE combined with the entry
abbrev pub EntryNumbers : Type 0
EntryNumbers = (counted None true ∷ counted None false ∷ counted (Some 5) true ∷ counted (Some 5) false ∷ []) ≡ (1 ∷ 1 ∷ 25 ∷ 23315 ∷ [])

-- two numbers apart stay so when they are combined with a third, on either side: those that FNV-1a has of "a" and "foobar", and the greatest word and the least
abbrev pub CombinedApart : Type 0
CombinedApart =
    OneToOne
    → (c : ℕ)
    → (C 0xaf63_dc4c_8601_ec8c c ≡ C 0x8594_4171_f739_67e8 c → ⊥)
    × (C c 0xaf63_dc4c_8601_ec8c ≡ C c 0x8594_4171_f739_67e8 → ⊥)
    × (C (2 ^ 64 - 1) c ≡ C 0 c → ⊥)
    × (C c (2 ^ 64 - 1) ≡ C c 0 → ⊥)

-- the bits of floats of 2, 4 and 8 bytes: zero, minus zero, the least above minus zero, one, minus infinity, and NaNs, quiet and signalling, with a sign and without: minus zero alone is changed
abbrev pub FloatBits : Type 0
FloatBits =
    (map (float_bits 2) (0 ∷ 0x8000 ∷ 0x8001 ∷ 0x3c00 ∷ 0xfc00 ∷ 0x7e00 ∷ 0xfe00 ∷ 0x7c01 ∷ 0x7fff ∷ [])
    ∷ map (float_bits 4) (0 ∷ 0x8000_0000 ∷ 0x8000_0001 ∷ 0x3f80_0000 ∷ 0xff80_0000 ∷ 0x7fc0_0000 ∷ 0xffc0_0000 ∷ 0x7f80_0001 ∷ 0x7fff_ffff ∷ [])
    ∷ map (float_bits 8) (0 ∷ 2 ^ 63 ∷ 0x8000_0000_0000_0001 ∷ 0x3ff0_0000_0000_0000 ∷ 0xfff0_0000_0000_0000 ∷ 0x7ff8_0000_0000_0000 ∷ 0xfff8_0000_0000_0000 ∷ 0x7ff0_0000_0000_0001 ∷ 0x7fff_ffff_ffff_ffff ∷ [])
    ∷ [])
    ≡ ((0 ∷ 0 ∷ 0x8001 ∷ 0x3c00 ∷ 0xfc00 ∷ 0x7e00 ∷ 0xfe00 ∷ 0x7c01 ∷ 0x7fff ∷ [])
    ∷ (0 ∷ 0 ∷ 0x8000_0001 ∷ 0x3f80_0000 ∷ 0xff80_0000 ∷ 0x7fc0_0000 ∷ 0xffc0_0000 ∷ 0x7f80_0001 ∷ 0x7fff_ffff ∷ [])
    ∷ (0 ∷ 0 ∷ 0x8000_0000_0000_0001 ∷ 0x3ff0_0000_0000_0000 ∷ 0xfff0_0000_0000_0000 ∷ 0x7ff8_0000_0000_0000 ∷ 0xfff8_0000_0000_0000 ∷ 0x7ff0_0000_0000_0001 ∷ 0x7fff_ffff_ffff_ffff ∷ [])
    ∷ [])

-- what each value tells: a Boolean, a number, a float, the same under a seed, text, binary, and nothing
abbrev pub Told : Type 0
Told =
    (boolean true ∷ boolean false ∷ number 2 513 ∷ float 4 0x8000_0000 ∷ float 2 0x7e01 ∷ seeded_float 2 0x7e01 ∷ seeded_float 2 0x8000 ∷ text (97 ∷ []) ∷ binary (97 ∷ 98 ∷ []) ∷ nothing ∷ [])
    ≡ ((Word 1 1 ∷ [])
    ∷ (Word 1 0 ∷ [])
    ∷ (Word 2 513 ∷ [])
    ∷ (Word 4 0 ∷ [])
    ∷ (Word 2 0x7e01 ∷ [])
    ∷ (Bytes (0x01 ∷ 0x7e ∷ []) ∷ [])
    ∷ (Bytes (0 ∷ 0 ∷ []) ∷ [])
    ∷ (Bytes (97 ∷ []) ∷ Word 1 255 ∷ [])
    ∷ (Word 8 2 ∷ Bytes (97 ∷ 98 ∷ []) ∷ [])
    ∷ (Word 4 1 ∷ [])
    ∷ [])

-- writes as bytes, one after the other: a word of 2 bytes, a pair, the low word first, and a byte string
abbrev pub JoinedWrites : Type 0
JoinedWrites =
    joined (Word 2 0x0201 ∷ Pair 3 4 ∷ Bytes (5 ∷ 6 ∷ []) ∷ [])
    ≡ (1 ∷ 2 ∷ 3 ∷ 0 ∷ 0 ∷ 0 ∷ 0 ∷ 0 ∷ 0 ∷ 0 ∷ 4 ∷ 0 ∷ 0 ∷ 0 ∷ 0 ∷ 0 ∷ 0 ∷ 0 ∷ 5 ∷ 6 ∷ [])
