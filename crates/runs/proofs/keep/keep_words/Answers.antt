use Rattle.std.proofs.Common.{◌≡◌, ℕ, ◌≤◌, List, ◌++◌, length, take, ◌∙◌, arith, rules, length-take-le}
use Rattle.std.proofs.lemmas.List.{take-append-le, take_all}
use Rattle.columns.proofs.Open.{fewer_open, others_stay}
use Rattle.runs.proofs.keep.keep_words.Goals as goal

front_stays : (n : ℕ) (xs ys : List ℕ) → n ≤ length xs → take n (take n xs ++ ys) ≡ take n xs
front_stays n xs ys h =
    let l : length (take n xs) ≡ n = length-take-le n xs h in
    take-append-le n (take n xs) ys (omega (arith, l)) ∙ take_all n (take n xs) (omega (arith, l))

pub returns-clause-work : goal.returns-clause-work
returns-clause-work c =
    fewer_open c.args.claimed c.min-at.result _ c.args.work.now _ c.min-at.ensures
    (others_stay c.min-at.result c.args.work.now _ (search rules) (front_stays c.min-at.result c.args.work.now _ (omega (arith, c.min-at.ensures))))
