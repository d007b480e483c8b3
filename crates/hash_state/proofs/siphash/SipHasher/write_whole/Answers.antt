use Rattle.std.proofs.Common.{◌≡◌, ℕ, ◌-◌, ◌%◌, List, ◌++◌, length, drop, ap, ◌∙◌, subst}
use Rattle.std.specs.List.{flat_map}
use Rattle.hash_state.specs.Writes.{le_bytes}
use Rattle.hash_state.specs.Stream.{seen}
use Rattle.hash_state.proofs.Bytes.{cut}
use Rattle.hash_state.proofs.Streams.{whole}
use Rattle.hash_state.proofs.siphash.SipHasher.write_whole.Goals as goal

pub returns : goal.returns
returns c bs =
    let h = c.args.self.now in
    let xs = c.args.bytes.now in
    let last = c.in-Some.last.now in
    let u = c.end-self.result in
    let chunks = c.as_chunks.ensures in
    let P : ℕ → Type 0 = λ k. le_bytes k u ≡ drop (8 - k) last in
    let all = ap (λ (ws : List (List ℕ)). flat_map (λ word. word) ws ++ le_bytes (length xs % 8) u) chunks.front ∙ cut xs last u c.in-Some.ensures.cases.0 c.in-Some.ensures.cases.1.same (subst P chunks.back_len c.end-self.ensures.same) in
    whole (seen h.state) (seen c.through-self.result) h.length h.tail u (flat_map (λ word. word) c.as_chunks.result.0.now) xs bs c.requires c.through-self.ensures all
