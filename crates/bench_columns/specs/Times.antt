-- What a timed call leaves in the entries.
use Rattle.std.specs.Prelude.{ℕ, zero, suc, Bool, false, cond, ◌&&◌, List, length, Some, None, nat_le, nat_lt}
use Rattle.layout.specs.Records.{nodes, record_at}
use Rattle.admission.specs.FirstFault.{first_fault}
use Rattle.hash_state.specs.Writes.{Write}
use Rattle.columns.specs.Column.{column_words}
use Rattle.columns.specs.Jobs.{need}
use Rattle.bench_columns.specs.declared.Timed.{Timed}

-- whether there is such a node, with no more rows than entries, and a need within the work
abbrev pub fits : List ℕ → ℕ → ℕ → ℕ → Bool
fits bytes node entries work = nat_lt node (nodes bytes) && (nat_le (record_at bytes node).rows entries && nat_le (need bytes node) work)

-- whether a byte string is an image without a fault whose node fits
abbrev pub can_hash : List ℕ → ℕ → ℕ → ℕ → Bool
can_hash bytes node entries work = elim (first_fault bytes) [ None ↦ fits bytes node entries work | Some _ ↦ false ]

-- so many times, each time from what the time before left
abbrev pub repeated : ℕ → (List ℕ → List ℕ) → List ℕ → List ℕ
repeated zero f words = words
repeated (suc n) f words = f (repeated n f words)

-- the entries after a node's column was hashed so many times, or as they were where it can't be
abbrev pub timed_words : (List Write → ℕ) → (ℕ → List Write → ℕ) → List ℕ → Timed → List ℕ → ℕ → List ℕ
timed_words ONE SEED bytes t entries work =
    cond (can_hash bytes t.node (length entries) work) (repeated t.times (column_words ONE SEED bytes t.node None t.first) entries) entries
