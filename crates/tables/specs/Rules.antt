-- The laws of the row rule at slots and states, as docs/ROW_NUMBERS.md says.
use Rattle.std.specs.Prelude.{◌≡◌, ℕ, ◌^◌, ◌<◌, ◌↔◌, Bool, true, false, List, [], ◌∷◌, map, replicate}
use Rattle.hash_state.specs.Writes.{Write, Bytes, Pair, Word}
use Rattle.image.specs.Slot.{Slot, null, nothing, boolean, number, float, text, binary, view, refer, struct, sequence, entries, done, ◌⨾◌, none, entry}
use Rattle.row_rule.specs.Laws.{StaysApart, StaysBelow, combines}
use Rattle.row_rule.specs.Number.{combined, is_null, number_of, view_writes}
use Rattle.tables.specs.States.{fnv_one, fnv_seed, sip_one, sip_seed}

-- a slot of each form: marked null, nothing, values, references to a slot marked null and to others, structs without and with fields, sequences, maps
abbrev pub forms : List Slot
forms =
    null
    ∷ nothing
    ∷ boolean true
    ∷ number 4 7
    ∷ float 4 7
    ∷ text (97 ∷ [])
    ∷ binary (97 ∷ [])
    ∷ view (97 ∷ [])
    ∷ refer null
    ∷ refer (number 4 7)
    ∷ refer (refer null)
    ∷ struct done
    ∷ struct (number 4 7 ⨾ done)
    ∷ sequence done
    ∷ sequence (number 4 7 ⨾ done)
    ∷ entries none
    ∷ entries (entry (number 4 7) null none)
    ∷ []

-- which of them combine as first: those marked null, references to such, structs, sequences and maps
abbrev pub CombineFirst : Type 0
CombineFirst =
    map (combines true) forms
    ≡ (true ∷ false ∷ false ∷ false ∷ false ∷ false ∷ false ∷ false ∷ true ∷ false ∷ false ∷ true ∷ true ∷ true ∷ true ∷ true ∷ true ∷ [])

-- and as later: all but numbers, floats and views
abbrev pub CombineLater : Type 0
CombineLater =
    map (combines false) forms
    ≡ (true ∷ true ∷ true ∷ false ∷ false ∷ true ∷ true ∷ false ∷ true ∷ true ∷ true ∷ true ∷ true ∷ true ∷ true ∷ true ∷ true ∷ [])

-- marked null is the first alone
abbrev pub NullForms : Type 0
NullForms = map is_null forms ≡ true ∷ replicate 16 false

-- a number of its own is itself when first, and goes to the left of the entry when later
abbrev pub OwnNumbers : Type 0
OwnNumbers = (combined true 5 4 ∷ combined false 5 4 ∷ []) ≡ (4 ∷ 23426 ∷ [])

-- views of no byte, of 12 and of 13: the 16 bytes of the first two as a pair of words, and the last as binary
abbrev pub ViewWrites : Type 0
ViewWrites =
    map view_writes ([] ∷ replicate 12 1 ∷ replicate 13 1 ∷ [])
    ≡ ((Pair 0 0 ∷ []) ∷ (Pair 0x0101_0101_0000_000c 0x0101_0101_0101_0101 ∷ []) ∷ (Word 8 13 ∷ Bytes (replicate 13 1) ∷ []) ∷ [])

-- under FNV-1a the numbers stay below 2^64
abbrev pub BelowUnderFnv : Type 0
BelowUnderFnv = StaysBelow → (first : Bool) (e : ℕ) (s : Slot) → e < 2 ^ 64 → number_of fnv_one fnv_seed first e s < 2 ^ 64

-- and under SipHash
abbrev pub BelowUnderSip : Type 0
BelowUnderSip = StaysBelow → (first : Bool) (e : ℕ) (s : Slot) → e < 2 ^ 64 → number_of sip_one sip_seed first e s < 2 ^ 64

-- under every state two entries come to one number at a slot just where they are one
abbrev pub KeepsApart : Bool → Slot → Type 0
KeepsApart first s =
    (ONE : List Write → ℕ) (SEED : ℕ → List Write → ℕ) (a b : ℕ)
    → a < 2 ^ 64 → b < 2 ^ 64 → (number_of ONE SEED first a s ≡ number_of ONE SEED first b s) ↔ (a ≡ b)

-- so do, as first, a marked null, a reference to one, a struct, a sequence and a map
abbrev pub ApartFirst : Type 0
ApartFirst =
    StaysApart
    → KeepsApart true null
    × KeepsApart true (refer null)
    × KeepsApart true (struct (number 4 7 ⨾ done))
    × KeepsApart true (sequence (number 4 7 ⨾ done))
    × KeepsApart true (entries (entry (number 4 7) null none))

-- and as later also nothing, a Boolean, text, binary, and a reference to a number
abbrev pub ApartLater : Type 0
ApartLater =
    StaysApart
    → KeepsApart false null
    × KeepsApart false nothing
    × KeepsApart false (boolean true)
    × KeepsApart false (text (97 ∷ []))
    × KeepsApart false (binary (97 ∷ []))
    × KeepsApart false (refer (number 4 7))
    × KeepsApart false (struct done)
    × KeepsApart false (sequence done)
    × KeepsApart false (entries none)
