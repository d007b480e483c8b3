-- What stands at a row of a column.
use Rattle.std.specs.Prelude.{ℕ, Bool, List, [], ◌∷◌}

infixr 50 ◌⨾◌
mutual
  -- what a row holds: a null mark, nothing, a value, or slots of other rows
  pub data Slot : Type 0 where
    -- a row that its node's own bitmap marks null
    null : Slot
    -- a row of the Null type
    nothing : Slot
    boolean : Bool → Slot
    -- a width in bytes, and the number or the float's bits
    number : ℕ → ℕ → Slot
    float : ℕ → ℕ → Slot
    text : List ℕ → Slot
    binary : List ℕ → Slot
    -- the bytes that a view stands for
    view : List ℕ → Slot
    -- the slot that a dictionary's key or a run refers to
    refer : Slot → Slot
    struct : Slots → Slot
    -- a row of a list, a list view or a fixed-size list
    sequence : Slots → Slot
    -- a row of a map
    entries : Entries → Slot

  -- slots in order
  pub data Slots : Type 0 where
    done : Slots
    ◌⨾◌ : Slot → Slots → Slots

  -- keys, each with its value
  pub data Entries : Type 0 where
    none : Entries
    entry : Slot → Slot → Entries → Entries

-- a list of slots as slots in order
abbrev pub slots : List Slot → Slots
slots [] = done
slots (s ∷ ss) = s ⨾ slots ss

-- keys and values at the same child rows
abbrev pub paired : (ℕ → Slot) → (ℕ → Slot) → List ℕ → Entries
paired key value [] = none
paired key value (row ∷ rows) = entry (key row) (value row) (paired key value rows)
