-- The row rule: the number that an entry comes to at a slot.
use Rattle.std.specs.Prelude.{ℕ, ◌+◌, ◌*◌, ◌^◌, Bool, true, false, cond, List, [], ◌∷◌, length, take, drop, nat_le}
use Rattle.hash_state.specs.Combine.{C}
use Rattle.hash_state.specs.Values as tell
use Rattle.hash_state.specs.Writes.{Write, Pair}
use Rattle.image.specs.Slot.{Slot, Slots, Entries, null, nothing, boolean, number, float, text, binary, view, refer, struct, sequence, entries, done, ◌⨾◌, none, entry}

-- the number that bytes spell, the lowest first
abbrev pub le_number : List ℕ → ℕ
le_number [] = 0
le_number (b ∷ bytes) = b + 256 * le_number bytes

-- a view tells its own 16 bytes where they hold all that it stands for: the length, then up to 12 bytes padded with zeros, as two words; a longer one is told as binary
abbrev pub view_writes : List ℕ → List Write
view_writes bytes =
    cond (nat_le (length bytes) 12) (Pair (length bytes + 2 ^ 32 * le_number (take 4 bytes)) (le_number (drop 4 bytes)) ∷ []) (tell.binary bytes)

-- whether a slot is marked null
abbrev pub is_null : Slot → Bool
is_null null = true
is_null s = false

-- a number v of its own: v itself when first, and combined with the entry when later
abbrev pub combined : Bool → ℕ → ℕ → ℕ
combined first e v = cond first v (C v e)

module _ (ONE : List Write → ℕ) (SEED : ℕ → List Write → ℕ) where
  -- the number of a value that seeds: ONE of its writes when first, SEED of the entry and its writes under SEED when later
  abbrev pub seeded : Bool → ℕ → List Write → List Write → ℕ
  seeded first e one seed = cond first (ONE one) (SEED e seed)

  unfoldable mutual
    -- the number that entry e comes to at a slot, first or later
    pub number_of : Bool → ℕ → Slot → ℕ
    number_of first e null = e
    number_of first e nothing = combined first e (ONE tell.nothing)
    number_of first e (boolean b) = combined first e (ONE (tell.boolean b))
    number_of first e (number w n) = seeded first e (tell.number w n) (tell.number w n)
    number_of first e (float w n) = seeded first e (tell.float w n) (tell.seeded_float w n)
    number_of first e (text bytes) = combined first e (ONE (tell.text bytes))
    number_of first e (binary bytes) = combined first e (ONE (tell.binary bytes))
    number_of first e (view bytes) = seeded first e (view_writes bytes) (view_writes bytes)
    number_of first e (refer s) = cond (is_null s) e (combined first e (number_of true 0 s))
    number_of first e (struct ss) = C e (fields true 0 ss)
    number_of first e (sequence ss) = elements e ss
    number_of first e (entries es) = pairs e es

    -- the fields of a struct, from 0, the first as first and the others as later
    pub fields : Bool → ℕ → Slots → ℕ
    fields first e done = e
    fields first e (s ⨾ ss) = fields false (number_of first e s) ss

    -- the elements of a sequence in order, each from 0 as first, combined one after the other
    pub elements : ℕ → Slots → ℕ
    elements e done = e
    elements e (s ⨾ ss) = elements (C e (number_of true 0 s)) ss

    -- the entries of a map in order: the key from 0 as first, then its value as later
    pub pairs : ℕ → Entries → ℕ
    pairs e none = e
    pairs e (entry k v es) = pairs (C e (number_of false (number_of true 0 k) v)) es
