-- Worked numbers of the row rule, with Z: FNV-1a started at 0.
use Rattle.std.specs.Prelude.{◌≡◌, ℕ, ◌^◌, Bool, true, false, List, [], ◌∷◌}
use Rattle.std.specs.List.{range_with_len}
use Rattle.hash_state.specs.Fnv.{fnv1a}
use Rattle.hash_state.specs.Writes.{Write, joined}
use Rattle.image.specs.Slot.{Slot, null, nothing, boolean, number, float, text, binary, view, refer, struct, sequence, entries, done, ◌⨾◌, none, entry}
use Rattle.row_rule.specs.Number.{number_of}

-- what Z comes to from a start, which is 0 or a seed
abbrev pub Z : ℕ → List Write → ℕ
Z start ws = fnv1a start (joined ws)

-- the row rule's number under Z
abbrev pub by_z : Bool → ℕ → Slot → ℕ
by_z = number_of (Z 0) Z

-- a struct without fields; a marked null and an empty list; a list of two marked nulls; a map of byte key 1 and a marked null value, and a list of that entry as a struct; a reference to a reference to a marked null, first and later; true, later; byte 1, first and later; minus zero, first
abbrev pub WorkedNumbers : Type 0
WorkedNumbers =
    (by_z true 7 (struct done)
    ∷ by_z true 7 null
    ∷ by_z true 7 (sequence done)
    ∷ by_z true 0 (sequence (null ⨾ null ⨾ done))
    ∷ by_z true 0 (entries (entry (number 1 1) null none))
    ∷ by_z true 0 (sequence (struct (number 1 1 ⨾ null ⨾ done) ⨾ done))
    ∷ by_z true 7 (refer (refer null))
    ∷ by_z false 7 (refer (refer null))
    ∷ by_z false 5 (boolean true)
    ∷ by_z true 1 (number 1 1)
    ∷ by_z false 1 (number 1 1)
    ∷ by_z true 9 (float 8 (2 ^ 63))
    ∷ [])
    ≡ (23532 ∷ 7 ∷ 7 ∷ 884374 ∷ 1099511651484 ∷ 1099511674757 ∷ 0 ∷ 23280 ∷ 40681930267085 ∷ 1099511628211 ∷ 0 ∷ 0 ∷ [])

-- the letters from a on, so many
abbrev pub letters : ℕ → List ℕ
letters n = range_with_len 97 n

-- each kind of slot as a first column and as a later one; minus zero, later; views of 1, 12 and 13 bytes; references to a marked null and to a row of the Null type; structs, lists and maps of several children
abbrev pub NumbersOfKinds : Type 0
NumbersOfKinds =
    (by_z true 7 nothing
    ∷ by_z false 7 nothing
    ∷ by_z true 7 (boolean true)
    ∷ by_z true 7 (number 2 1)
    ∷ by_z false 1 (number 4 1)
    ∷ by_z true 7 (float 2 15360)
    ∷ by_z false 1 (float 2 15360)
    ∷ by_z false 1 (float 2 32768)
    ∷ by_z true 7 (text (letters 1))
    ∷ by_z false 5 (text (letters 1))
    ∷ by_z true 7 (binary (letters 1))
    ∷ by_z false 5 (binary (letters 1))
    ∷ by_z true 7 (view (letters 1))
    ∷ by_z false 1 (view (letters 1))
    ∷ by_z true 7 (view (letters 12))
    ∷ by_z false 1 (view (letters 12))
    ∷ by_z true 7 (view (letters 13))
    ∷ by_z false 1 (view (letters 13))
    ∷ by_z true 7 (refer null)
    ∷ by_z false 7 (refer null)
    ∷ by_z true 7 (refer nothing)
    ∷ by_z true 7 (refer (number 1 1))
    ∷ by_z false 1 (refer (number 1 1))
    ∷ by_z true 7 (struct (boolean true ⨾ number 1 1 ⨾ boolean true ⨾ done))
    ∷ by_z false 7 (struct (boolean true ⨾ number 1 1 ⨾ boolean true ⨾ done))
    ∷ by_z true 7 (sequence (boolean true ⨾ boolean false ⨾ done))
    ∷ by_z false 7 (sequence (boolean true ⨾ boolean false ⨾ done))
    ∷ by_z true 7 (entries (entry (boolean true) (number 1 2) none))
    ∷ by_z false 7 (entries (entry (boolean true) (boolean true) (entry (boolean false) null none)))
    ∷ [])
    ≡ (11527715348014283921 ∷ 2250354181208841189 ∷ 1099511628211 ∷ 956575116354345 ∷ 0 ∷ 65970697692660 ∷ 916992697738749 ∷ 956575116354345
    ∷ 92604167844460228 ∷ 3426354210245051714 ∷ 10622430616380713664 ∷ 5648307258185844910
    ∷ 5984138530507203056 ∷ 17191611703643831057 ∷ 3938342635625432200 ∷ 6088072389479637981 ∷ 2194587453236361088 ∷ 4269486303836246239
    ∷ 7 ∷ 7 ∷ 11527715348014283921 ∷ 1099511628211 ∷ 40681930267081 ∷ 996157535016746 ∷ 996157535016746
    ∷ 40681931137764 ∷ 40681931137764 ∷ 954376093121455 ∷ 1545913351019724 ∷ [])
