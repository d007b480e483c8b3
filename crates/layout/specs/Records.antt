-- The head of an image: the node count, then a record for each node.
use Rattle.std.specs.Prelude.{ℕ, ◌+◌, ◌*◌, List}
use Rattle.layout.specs.declared.record.Record.{Record}
use Rattle.layout.specs.Bytes.{field}

-- how many nodes an image has
abbrev pub nodes : List ℕ → ℕ
nodes bytes = field 4 bytes 0

-- the record of a node: nine numbers of 4 bytes, 36 bytes for each node after the count
abbrev pub record_at : List ℕ → ℕ → Record
record_at bytes node =
    record {
      kind = field 4 bytes (4 + 36 * node);
      rows = field 4 bytes (4 + 36 * node + 4);
      start = field 4 bytes (4 + 36 * node + 8);
      nulls = field 4 bytes (4 + 36 * node + 12);
      a = field 4 bytes (4 + 36 * node + 16);
      b = field 4 bytes (4 + 36 * node + 20);
      p = field 4 bytes (4 + 36 * node + 24);
      tab = field 4 bytes (4 + 36 * node + 28);
      cnt = field 4 bytes (4 + 36 * node + 32);
    }

-- S: the elements of a node's buffers, those before its first row and its rows
abbrev pub elements : Record → ℕ
elements r = r.start + r.rows
