-- Numbers and bytes as text writes them.
use Rattle.std.specs.Prelude.{ℕ, ◌+◌, ◌-◌, ◌*◌, ◌^◌, cond, ◌&&◌, List, [], ◌∷◌, drop, Some, None, Option, ◌==◌, nat_le, nat_lt, slice_index}

-- the value of a hexadecimal digit: 0 to 9, a to f, A to F
abbrev pub digit_value : ℕ → Option ℕ
digit_value d =
    cond (nat_le 48 d && nat_le d 57) (Some (d - 48))
    (cond (nat_le 97 d && nat_le d 102) (Some (d - 97 + 10))
    (cond (nat_le 65 d && nat_le d 70) (Some (d - 65 + 10))
    None))

-- two values, both there, by a function
abbrev pub both : {A B C : Type 0} → (A → B → C) → Option A → Option B → Option C
both f None b = None
both f (Some x) None = None
both f (Some x) (Some y) = Some (f x y)

-- the byte of two digits
abbrev pub byte_value : ℕ → ℕ → Option ℕ
byte_value high low = both (λ h l. 16 * h + l) (digit_value high) (digit_value low)

-- the bytes of a text of two digits each
abbrev pub bytes_value : List ℕ → Option (List ℕ)
bytes_value [] = Some []
bytes_value (one ∷ []) = None
bytes_value (high ∷ low ∷ more) = both (λ b bs. b ∷ bs) (byte_value high low) (bytes_value more)

-- a value with one more digit of a base, where it is one and the value fits 64 bits
abbrev pub with_digit : ℕ → ℕ → ℕ → Option ℕ
with_digit base value d =
    elim (digit_value d) [
      | None ↦ None
      | Some x ↦ cond (nat_lt x base && nat_lt (value * base + x) (2 ^ 64)) (Some (value * base + x)) None
    ]

-- what follows from a value, where there is one
abbrev pub and_then : {A B : Type 0} → Option A → (A → Option B) → Option B
and_then None f = None
and_then (Some x) f = f x

-- a value with more digits
abbrev pub with_digits : ℕ → ℕ → List ℕ → Option ℕ
with_digits base value [] = Some value
with_digits base value (d ∷ more) = and_then (with_digit base value d) (λ next. with_digits base next more)

-- the number that digits of a base write: there is at least one
abbrev pub numeral_value : ℕ → List ℕ → Option ℕ
numeral_value base [] = None
numeral_value base (d ∷ more) = with_digits base 0 (d ∷ more)

-- a number: decimal, or hexadecimal after 0x
abbrev pub number_value : List ℕ → Option ℕ
number_value word =
    cond (slice_index word 0 == 48 && slice_index word 1 == 120) (numeral_value 16 (drop 2 word)) (numeral_value 10 word)
