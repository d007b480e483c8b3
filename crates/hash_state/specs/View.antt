-- What a view tells a hasher.
use Rattle.std.specs.Prelude.{List, [], ◌∷◌}
use Rattle.hash_state.specs.declared.value.View.{View}
use Rattle.hash_state.specs.declared.value.View.TheVariants.{Inline, Long}
use Rattle.hash_state.specs.Writes.{Write, Pair}
use Rattle.hash_state.specs.Values.{binary}

-- a view of up to 12 bytes is its own 16 bytes as a pair of words; a longer one is binary
abbrev pub view : View → List Write
view (Inline low high) = Pair low high ∷ []
view (Long bytes) = binary bytes.now
