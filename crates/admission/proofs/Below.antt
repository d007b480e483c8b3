-- What `some_below` says of each number, and what `any` says of it.
use Rattle.std.proofs.Common.{◌≡◌, ℕ, zero, suc, ◌<◌, ◌≤◌, Bool, false, ◌||◌, List, length, get_or, take, refl, sym, ap, ap₂, ◌∙◌, inl, inr, add-one, arith}
use Rattle.std.specs.declared.ops.Range.{Range}
use Rattle.std.specs.Fn.{Called}
use Rattle.std.specs.Iterator.{ChecksAny}
use Rattle.std.specs.List.{list_any, range_with_len}
use Rattle.std.proofs.iter.Yields.{nat_range_steps}
use Rattle.std.proofs.Math.Bool.{or_comm}
use Rattle.std.proofs.Math.Seq.{take-length}
use Rattle.std.proofs.lemmas.Bool.{cases_eq, or_parts}
use Rattle.std.proofs.lemmas.Iterator.{YieldsList-from_range}
use Rattle.std.proofs.lemmas.Iterator.Search.{any_from_yields_List}
use Rattle.std.proofs.lemmas.List.Folds.{list_any_more}
use Rattle.std.proofs.lemmas.List.FromFn.{get_or-range_with_len, length-range_with_len}
use denote.Param.Members.{Mut}
use Rattle.layout.specs.Nodes.{some_below}

-- where no number below n passes a test, each of them fails it
pub none_at : (n : ℕ) (test : ℕ → Bool) (k : ℕ) → some_below n test ≡ false → k < n → test k ≡ false
none_at zero test k e h = absurd (omega arith)
none_at (suc n) test k e h =
    let parts = or_parts (test n) (some_below n test) e in
    elim (cases_eq k n) [ inl q ↦ ap test q ∙ parts.0 | inr q ↦ none_at n test k parts.1 (omega arith) ]

any_taken : (xs : List ℕ) (p test : ℕ → Bool) (n : ℕ) → n ≤ length xs → ((k : ℕ) → k < n → p (get_or xs k 0) ≡ test k)
    → list_any p (take n xs) ≡ some_below n test
any_taken xs p test zero within each = refl
any_taken xs p test (suc n) within each =
    ap (λ (m : ℕ). list_any p (take m xs)) (sym (add-one n))
    ∙ list_any_more p xs n 0 (omega arith)
    ∙ ap₂ ◌||◌ (any_taken xs p test n (omega arith) (λ k h. each k (omega arith))) (each n (omega arith))
    ∙ or_comm (some_below n test) (test n)

-- some element of a list passes a test just where some place does
pub any_below : (xs : List ℕ) (p test : ℕ → Bool) (n : ℕ) → length xs ≡ n → ((k : ℕ) → k < n → p (get_or xs k 0) ≡ test k)
    → list_any p xs ≡ some_below n test
any_below xs p test n long each =
    ap (list_any p) (sym (take-length xs) ∙ ap (λ (m : ℕ). take m xs) long) ∙ any_taken xs p test n (omega (arith, long)) each

module _ {F : Type 0} {f : F} {r : Bool} (n : ℕ) (test : ℕ → Bool) where
  -- what `any` answers over the numbers below n, where its closure computes the test
  pub some_below-from_any : {g : Mut F (ℕ × Unit {0}) Bool} {s u : Range ℕ} → s ≡ record { start = 0; end = n }
      → ChecksAny nat_range_steps g s f r u → ((x : ℕ) (b : Bool) (q : F) → Called g f (x, tt) b q → (q ≡ f) × (b ≡ test x)) → r ≡ some_below n test
  some_below-from_any from ran calls =
      any_from_yields_List test _ _ _ ran (YieldsList-from_range 0 n n from (omega arith)) calls
      ∙ any_below (range_with_len 0 n) test test n (length-range_with_len 0 n) (λ k h. ap test (omega (arith, get_or-range_with_len 0 n k 0 h)))
