-- Small images, written as records and what stands behind them.
use Rattle.std.specs.Prelude.{ℕ, zero, suc, ◌+◌, ◌/◌, ◌%◌, cond, List, [], ◌∷◌, ◌++◌, length, ◌==◌}
use Rattle.layout.specs.declared.record.Record.{Record}

-- a number in so many bytes, the lowest first
abbrev pub little : ℕ → ℕ → List ℕ
little zero n = []
little (suc w) n = (n % 256) ∷ little w (n / 256)

-- a record that says nothing but its kind
abbrev pub plain : ℕ → Record
plain kind = record { kind = kind; rows = 0; start = 0; nulls = 0; a = 0; b = 0; p = 0; tab = 0; cnt = 0 }

-- the 36 bytes of a record
abbrev pub record_bytes : Record → List ℕ
record_bytes r =
    little 4 r.kind
    ++ (little 4 r.rows
    ++ (little 4 r.start
    ++ (little 4 r.nulls ++ (little 4 r.a ++ (little 4 r.b ++ (little 4 r.p ++ (little 4 r.tab ++ little 4 r.cnt)))))))

-- numbers of 4 bytes, one after the other
abbrev pub words : List ℕ → List ℕ
words [] = []
words (n ∷ ns) = little 4 n ++ words ns

-- the bytes of records, and then others
abbrev pub records_then : List Record → List ℕ → List ℕ
records_then [] bytes = bytes
records_then (r ∷ records) bytes = record_bytes r ++ records_then records bytes

-- an image: the number of its nodes, a record for each, and the bytes behind them
abbrev pub image : List Record → List ℕ → List ℕ
image records bytes = little 4 (length records) ++ records_then records bytes

-- so many structs whose child numbers stand one after the other from a place on: each has one child, and the last has none
abbrev pub structs : ℕ → ℕ → List Record
structs tab zero = []
structs tab (suc n) = record (plain 11) { tab = tab; cnt = cond (n == 0) 0 1 } ∷ structs (tab + 4) n
