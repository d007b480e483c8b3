use Rattle.std.proofs.Common.{◌≡◌, ℕ, zero, suc, max, ◌+◌, List, [], ◌∷◌, ◌++◌, get_or, refl, sym, ap, ◌∙◌, add-one, arith, rules}
use Rattle.std.specs.List.{fold, range_with_len}
use Rattle.std.proofs.iter.Yields.{nat_range_steps}
use Rattle.std.proofs.lemmas.Fn.{fold_over}
use Rattle.std.proofs.lemmas.Iterator.{YieldsList-from_range}
use Rattle.std.proofs.lemmas.List.{map-id}
use Rattle.std.proofs.lemmas.List.FromFn.{map-range_with_len_more}
use Rattle.std.proofs.lemmas.List.Sums.{fold-append}
use Rattle.layout.specs.declared.record.Record.{Record}
use Rattle.layout.specs.Nodes.{child}
use Rattle.admission.specs.Seams.{highest}
use Rattle.admission.proofs.table.highest.Goals as goal

range_more : (n : ℕ) → range_with_len 0 (suc n) ≡ range_with_len 0 n ++ n ∷ []
range_more n =
    ap (range_with_len 0) (sym (add-one n))
    ∙ sym (map-id (range_with_len 0 (n + 1)))
    ∙ map-range_with_len_more (λ (k : ℕ). k) 0 n n (omega arith)
    ∙ ap (λ (ks : List ℕ). ks ++ n ∷ []) (map-id (range_with_len 0 n))

module _ (bytes heights : List ℕ) (r : Record) where
  abbrev higher_of : ℕ → ℕ → ℕ
  higher_of best k = max best (get_or heights (child bytes r k) 0)

  fold_highest : (n : ℕ) → fold higher_of 0 (range_with_len 0 n) ≡ highest bytes heights r n
  fold_highest zero = refl
  fold_highest (suc n) =
      ap (fold higher_of 0) (range_more n) ∙ fold-append higher_of 0 (range_with_len 0 n) (n ∷ []) ∙ ap (λ (m : ℕ). higher_of m n) (fold_highest n)

pub returns : goal.returns
returns c =
    let n = c.args.children in
    let step = higher_of c.args.column.now.bytes.now c.args.heights.now c.args.column.now.record in
    let folded =
    fold_over nat_range_steps (λ k. k) _ (λ ks best. best ≡ fold step 0 ks) _
    (λ ks best k more f' so_far call. let next = fold-append step 0 ks (k ∷ []) in search rules) _ (range_with_len 0 n) _ _
    (YieldsList-from_range 0 n n refl (omega arith)).runs refl c.fold.ensures.ran in
    folded ∙ fold_highest c.args.column.now.bytes.now c.args.heights.now c.args.column.now.record n
