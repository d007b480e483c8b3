-- The two hash states, each by ONE and SEED.
use Rattle.std.specs.Prelude.{ℕ, List}
use Rattle.hash_state.specs.Fnv.{fnv1a, offset_basis}
use Rattle.hash_state.specs.Sip.{siphash}
use Rattle.hash_state.specs.Writes.{Write, joined}

-- FNV-1a from its standard start
abbrev pub fnv_one : List Write → ℕ
fnv_one ws = fnv1a offset_basis (joined ws)

-- FNV-1a started at a seed
abbrev pub fnv_seed : ℕ → List Write → ℕ
fnv_seed s ws = fnv1a s (joined ws)

-- SipHash-2-4 with the key words 1 and 2
abbrev pub sip_one : List Write → ℕ
sip_one ws = siphash 1 2 (joined ws)

-- SipHash-2-4 with a seed for the first key word
abbrev pub sip_seed : ℕ → List Write → ℕ
sip_seed s ws = siphash s 2 (joined ws)
