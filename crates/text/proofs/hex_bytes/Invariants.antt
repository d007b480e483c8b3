use Rattle.std.proofs.Common.{◌≡◌, ◌*◌, ◌++◌, drop, vec_items}
use Rattle.std.specs.Option.{option_map}
use Rattle.text.specs.Text.{bytes_value}
use Rattle.text.proofs.hex_bytes.Given as goal

abbrev pub invariant-loop-high : goal.invariant-loop-high
invariant-loop-high l = bytes_value l.digits ≡ option_map (λ bs. vec_items l.bytes ++ bs) (bytes_value (drop (2 * l.high-index) l.digits))
