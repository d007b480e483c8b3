use Rattle.std.proofs.Common.{◌≡◌, ℕ, Bool, cond, List, ◌∙◌, ap₂}
use Rattle.layout.specs.Nodes.{child}
use Rattle.row_rule.specs.Number.{combined}
use Rattle.columns.specs.Fold.{is_marked}
use Rattle.columns.proofs.Nodes.{mark_is}
use Rattle.columns.proofs.fold.References.refer_to.Goals as goal

pub returns : goal.returns
returns c =
    let s = c.args.self.now in
    let row : ℕ = c.args.row in
    let mark : c.is_marked.result ≡ is_marked s.column.bytes.now (child s.column.bytes.now s.column.record 0) row =
    c.is_marked.ensures ∙ mark_is s.values row ∙ ap₂ (λ (bytes : List ℕ) (k : ℕ). is_marked bytes k row) s.same s.child in
    c.refer.ensures
    ∙ ap₂ (λ (b : Bool) (x : ℕ). cond b c.args.e (combined c.args.first c.args.e x)) mark c.number-number.ensures
