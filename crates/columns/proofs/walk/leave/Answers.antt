use Rattle.std.proofs.Common.{◌≡◌, ℕ, ◌+◌, List, ◌++◌, get_or, take, drop, sym, refl, ap, ◌∙◌, ap₂, arith}
use Rattle.std.proofs.lemmas.List.{take-append-drop}
use Rattle.columns.specs.Jobs.{each, ended, words_at, reach_from, region, row_by, splice, standing}
use Rattle.columns.proofs.Meeting.{split_splice}
use Rattle.columns.proofs.Nodes.{node_short}
use Rattle.columns.proofs.walk.leave.Goals as goal

pub invariant_of-met : goal.invariant_of-met
invariant_of-met g c =
    let few = node_short c.args.node.now in
    record {
      listed = refl;
      there = λ j l. omega (arith, c.requires.rows);
      low = omega (arith, c.requires.rows);
      fits = omega (arith, c.requires.rows, few.0);
    }

-- nothing stands in place of no words
spliced_none : (at n : ℕ) (f : ℕ → ℕ) (w : List ℕ) → n ≡ 0 → w ≡ splice at n w (each f n)
spliced_none at n f w none =
    let here : at + 0 ≡ at = omega arith in
    sym (ap (λ (m : ℕ). splice at m w (each f m)) none ∙ ap (λ (k : ℕ). take at w ++ drop k w) here ∙ take-append-drop at w)

pub returns-then-job-eq0 : goal.returns-then-job-eq0
unfolding ended
returns-then-job-eq0 g c = spliced_none c.args.job.at c.args.job.n _ c.args.work.now c.if-job-eq0.true

pub returns : goal.returns
unfolding ended
returns g c =
    let n = c.args.node.now in
    let j = c.args.job in
    let w : List ℕ = c.args.work.now in
    let B = n.column.bytes.now in
    let r = n.column.record in
    let row : ℕ → List ℕ → ℕ → ℕ → ℕ = λ from numbers i e. row_by (g.S.BuildHasher.one c.args.state.now) (g.S.HashState.seeded c.args.state.now) B n.t r (standing numbers from) j.first e (j.lo + i) in
    let below = c.split_at_mut-rest.ensures in
    let own = c.split_at_mut-words.ensures in
    split_splice j.at j.n c.reach-reach.result.size w _ _ _ _ c.hash.new.words (row c.reach-reach.result.from) (omega (arith, c.requires.room)) below.front below.back own.front own.back c.hash.ensures
    ∙ ap₂ (λ (from size : ℕ). splice j.at j.n w (each (λ i. row from (words_at (j.at + j.n) size w) i (get_or w (j.at + i) 0)) j.n))
    (c.reach-reach.ensures.from ∙ ap (reach_from n.t B r) c.rows-span.ensures.from)
    (c.reach-reach.ensures.size ∙ ap₂ (region n.t B r) c.rows-span.ensures.from c.rows-span.ensures.size)
