-- What a table that has passed lets a later check read.
use Rattle.std.proofs.Common.{◌≡◌, ℕ, ◌+◌, ◌*◌, ◌<◌, ◌≤◌, false, ◌||◌, leb, List, length, arith}
use Rattle.std.proofs.lemmas.Bool.Decides.{nat_tests}
use Rattle.layout.specs.declared.record.Record.{Record}
use Rattle.layout.specs.declared.data_type.DataType.{DataType}
use Rattle.layout.specs.declared.data_type.DataType.TheVariants.{View, Dictionary, Struct, List as ListOf, ListView, Map, FixedSizeList, RunEnd}
use Rattle.layout.specs.declared.data_type.Table.{Table}
use Rattle.layout.specs.declared.data_type.Table.TheVariants.{Unread, Children, Pairs}
use Rattle.layout.specs.Nodes.{ChildThere, child, listed, table}
use Rattle.layout.specs.Records.{nodes}
use Rattle.admission.specs.Rejections.{bad_child, bad_table}
use Rattle.admission.specs.Seams.{Headed, Linked}
use Rattle.admission.proofs.Below.{none_at}

-- of a list of children: how many there are, and that their numbers can be read
pub children_parts : (len least most : ℕ) (r : Record) → bad_table len (Children least most) r ≡ false → (least ≤ r.cnt) × (r.tab + 4 * r.cnt ≤ len)
children_parts len least most r e = (grind (arith, nat_tests), grind (arith, nat_tests))

pairs_inside : (len most : ℕ) (r : Record) → bad_table len (Pairs most) r ≡ false → (k : ℕ) → k < r.cnt → r.tab + 8 * k + 8 ≤ len
pairs_inside len most r e k h = grind (arith, nat_tests)

module _ (bytes : List ℕ) (node : ℕ) (r : Record) where
  -- a child's number can be read, lies behind the node and is there
  pub child_behind : (t : Table) → bad_table (length bytes) t r ≡ false → bad_child bytes node t r ≡ false → (k : ℕ) → k < listed t r.cnt
      → (r.tab + 4 * k + 4 ≤ length bytes) × (node < child bytes r k) × (child bytes r k < nodes bytes)
  child_behind Unread e f k h = absurd (omega arith)
  child_behind (Pairs most) e f k h = absurd (omega arith)
  child_behind (Children least most) e f k h =
      let placed = none_at r.cnt (λ k. leb (child bytes r k) node || leb (nodes bytes) (child bytes r k)) k f h in
      (omega (arith, (children_parts (length bytes) least most r e).1), grind (arith, nat_tests, placed), grind (arith, nat_tests, placed))

  module _ (headed : Headed bytes) where
    children_there : (least most : ℕ) → bad_table (length bytes) (Children least most) r ≡ false → bad_child bytes node (Children least most) r ≡ false
        → (k : ℕ) → k < r.cnt → ChildThere bytes r k
    children_there least most e f k h =
        let there = child_behind (Children least most) e f k h in
        (there.0, omega (arith, there.2))

    least_there : (least most : ℕ) → bad_table (length bytes) (Children least most) r ≡ false → bad_child bytes node (Children least most) r ≡ false
        → (k : ℕ) → k < least → ChildThere bytes r k
    least_there least most e f k h = children_there least most e f k (omega (arith, (children_parts (length bytes) least most r e).0))

    -- what TAB lists can be read, once the table and the children have passed
    pub linked : (t : DataType) → bad_table (length bytes) (table t) r ≡ false → bad_child bytes node (table t) r ≡ false → Linked bytes t r
    linked View e f = pairs_inside (length bytes) 65535 r e
    linked (Dictionary w signed) e f = least_there 1 1 e f 0 (omega arith)
    linked Struct e f = children_there 0 255 e f
    linked (ListOf w) e f = least_there 1 1 e f 0 (omega arith)
    linked (ListView w) e f = least_there 1 1 e f 0 (omega arith)
    linked Map e f = (least_there 2 2 e f 0 (omega arith), least_there 2 2 e f 1 (omega arith))
    linked (FixedSizeList p) e f = least_there 1 1 e f 0 (omega arith)
    linked (RunEnd w) e f = least_there 1 1 e f 0 (omega arith)
    linked t e f = tt
