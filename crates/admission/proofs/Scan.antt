-- One node more, from the last to the first.
use Rattle.std.proofs.Common.{◌≡◌, ℕ, suc, ◌<◌, ltb, List, length, get_or, set, Some, None, Option, sym, refl, ap, ◌∙◌, inl, inr, arith, get_or-set_other, get_or-set_same}
use Rattle.std.proofs.lemmas.Bool.{cases_eq}
use Rattle.admission.specs.FirstFault.{at_node, fault_below, node_fault}
use Rattle.admission.specs.Rejections.{higher}
use Rattle.admission.specs.Seams.{HeightOf, Heights}

at_none : (o : Option ℕ) (node : ℕ) (next : Option (ℕ × ℕ)) → None ≡ at_node o node None → at_node o node next ≡ next
at_none None node next e = refl
at_none (Some number) node next e = cc

at_some : (o : Option ℕ) (node : ℕ) (next : Option (ℕ × ℕ)) (fault : ℕ × ℕ) → Some fault ≡ at_node o node None → at_node o node next ≡ Some fault
at_some None node next fault e = cc
at_some (Some number) node next fault e = sym e

module _ (bytes : List ℕ) (i node : ℕ) (next : i ≡ suc node) where
  pub passes : None ≡ at_node (node_fault bytes node) node None → fault_below bytes i ≡ fault_below bytes node
  passes e = ap (fault_below bytes) next ∙ at_none (node_fault bytes node) node (fault_below bytes node) e

  pub stops : (fault : ℕ × ℕ) → Some fault ≡ at_node (node_fault bytes node) node None → fault_below bytes i ≡ Some fault
  stops fault e = ap (fault_below bytes) next ∙ at_some (node_fault bytes node) node (fault_below bytes node) fault e

  pub heights_more : (heights : List ℕ) (height : ℕ) → node < length heights → Heights bytes i heights → HeightOf bytes node height → Heights bytes node (set heights node height)
  heights_more heights height within right new c from below h =
      elim (cases_eq c node) [
        | inl q ↦
            ap (higher bytes h) q ∙ new h
            ∙ ap (ltb h) (sym (ap (λ (k : ℕ). get_or (set heights node height) k 0) q ∙ get_or-set_same heights node height 0 within))
        | inr q ↦ right c (omega arith) below h ∙ ap (ltb h) (sym (get_or-set_other heights node c height 0 q))
      ]
