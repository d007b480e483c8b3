use Rattle.std.proofs.Common.{◌≡◌, ℕ, List, ◌++◌, drop}
use Rattle.std.specs.List.{flat_map}
use Rattle.hash_state.specs.Stream.{finished, seen}
use Rattle.hash_state.proofs.siphash.rounds.State.through.Given as goal

-- What is left of the words still leads to the number of them all.
abbrev pub invariant-loop-bytes : goal.invariant-loop-bytes
invariant-loop-bytes l =
    (z : ℕ) (bs : List ℕ) → finished (seen l.state) z (flat_map (λ word. word) (drop l.bytes-index l.words) ++ bs) ≡ finished (seen l.initial.state) z (flat_map (λ word. word) l.words ++ bs)
