-- The rows of a node that are marked null.
use Rattle.std.specs.Prelude.{ℕ, zero, suc, ◌+◌, Bool, cond, List, Option}
use Rattle.std.specs.Option.{option_map}
use Rattle.layout.specs.declared.record.Record.{Record}
use Rattle.layout.specs.Nodes.{typed_mark}
use Rattle.layout.specs.Types.{data_type}
use Rattle.image.specs.Values.{node_record}

-- whether a row of a node is marked null
abbrev pub is_null : List ℕ → Record → ℕ → Bool
is_null bytes r row = typed_mark (data_type r) bytes r row

-- how many numbers below n pass a test
abbrev pub count_below : ℕ → (ℕ → Bool) → ℕ
count_below zero test = 0
count_below (suc n) test = count_below n test + cond (test n) 1 0

-- how many rows of a node are marked null, where there is such a node
abbrev pub nulls_of : List ℕ → ℕ → Option ℕ
nulls_of bytes node = option_map (λ r. count_below r.rows (is_null bytes r)) (node_record bytes node)
