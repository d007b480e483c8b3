-- How far down slots are read.
use Rattle.std.specs.Prelude.{◌≡◌, ℕ, ◌+◌, ◌<◌, List}
use Rattle.layout.specs.Records.{nodes}
use Rattle.image.specs.Read.{slot_at, slot_within}

-- to go further down would change no slot of a node
abbrev pub DeepEnough : List ℕ → ℕ → ℕ → Type 0
DeepEnough bytes node row = node < nodes bytes → (more : ℕ) → slot_within (16 + more) bytes node row ≡ slot_at bytes node row
