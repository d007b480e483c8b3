use Rattle.std.proofs.Common.{◌≡◌, ℕ, suc, ◌+◌, ◌-◌, ◌≤◌, length, get_or, take, drop, sym, ap, ◌∙◌, ap₂, arith}
use Rattle.std.proofs.lemmas.List.{get_or-drop, get_or-take, length-drop, length-take}
use Rattle.hash_state.specs.Combine.{C}
use Rattle.columns.specs.Fold.{combined_all}
use Rattle.columns.specs.Jobs.{standing}
use Rattle.columns.proofs.region.Region.combine.Goals as goal

combined_more : (v : ℕ → ℕ) (e from n m next x : ℕ) → n ≡ suc m → next ≡ from + 1 → x ≡ C e (v from) → combined_all v e from n ≡ combined_all v x next m
unfolding combined_all
combined_more v e from n m next x en nx ex =
    ap (combined_all v e from) en ∙ ap₂ (λ (y z : ℕ). combined_all v y z m) (sym ex) (sym nx)

combined_none : (v : ℕ → ℕ) (e from n : ℕ) → n ≡ 0 → combined_all v e from n ≡ e
unfolding combined_all
combined_none v e from n en = ap (combined_all v e from) en

pub loop-number-preserved : goal.loop-number-preserved
loop-number-preserved c =
    let r = c.args.self.now in
    let xs = r.numbers.now in
    let start : ℕ = c.args.start in
    let first : ℕ = start - r.from in
    let index : ℕ = c.loop-number.number-index in
    let long : length (take (first + c.args.count - first) (drop first xs)) ≤ c.args.count = simp (length-take, length-drop) (omega arith) in
    let here : c.combine_hashes-e.result ≡ C c.loop-number.e (standing xs r.from (start + index)) =
    c.combine_hashes-e.ensures.number
    ∙ ap (C c.loop-number.e)
    (get_or-take (first + c.args.count - first) (drop first xs) index 0 (omega arith) ∙ get_or-drop first xs index 0 ∙ ap (λ (k : ℕ). get_or xs k 0) (omega arith)) in
    c.loop-number.invariant
    ∙ combined_more (standing xs r.from) c.loop-number.e (start + index) (c.args.count - index) (c.args.count - (index + 1)) (start + (index + 1)) c.combine_hashes-e.result
    (omega arith) (omega arith) here

pub returns : goal.returns
returns c =
    let r = c.args.self.now in
    let first : ℕ = c.args.start - r.from in
    let long : length (take (first + c.args.count - first) (drop first r.numbers.now)) ≡ c.args.count = simp (length-take, length-drop) (omega arith) in
    sym (c.loop-number.invariant ∙ combined_none (standing r.numbers.now r.from) c.loop-number.e (c.args.start + c.loop-number.number-index) (c.args.count - c.loop-number.number-index) (omega arith))
