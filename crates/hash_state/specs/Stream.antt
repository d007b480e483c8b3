-- What a SipHash hasher in mid-stream finishes with.
use Rattle.std.specs.Prelude.{ℕ, ◌+◌, ◌%◌, List, ◌++◌, length}
use Rattle.hash_state.specs.declared.siphash.SipHasher.{SipHasher}
use Rattle.hash_state.specs.declared.siphash.rounds.State.{State}
use Rattle.hash_state.specs.Writes.{le_bytes}
use Rattle.hash_state.specs.Sip.{Sip, compressed, finalize, parsed}

-- the four words of a state
abbrev pub seen : State → Sip
seen s = record { v0 = s.v0; v1 = s.v1; v2 = s.v2; v3 = s.v3 }

-- the number when the bytes bs are still to be compressed, with z for the last byte
unfoldable pub finished : Sip → ℕ → List ℕ → ℕ
finished s z bs = finalize (compressed s (parsed z bs))

-- the bytes that wait in a hasher until they are a word
abbrev pub waiting : SipHasher → List ℕ
waiting h = le_bytes (h.length % 8) h.tail

-- the number that a hasher finishes with after the bytes bs
abbrev pub told : SipHasher → List ℕ → ℕ
told h bs = finished (seen h.state) ((h.length + length bs) % 256) (waiting h ++ bs)
