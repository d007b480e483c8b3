-- The walk over a node's rows as jobs: a range of a node's rows, hashed into words of the work.
use Rattle.std.specs.Prelude.{◌≡◌, ℕ, zero, suc, ◌+◌, ◌-◌, ◌*◌, ◌<◌, ◌≤◌, max, Bool, false, cond, List, ◌++◌, map, length, take, drop, replicate, Some, None, ◌==◌, slice_index, Option}
use Rattle.std.specs.List.{range_with_len}
use Rattle.layout.specs.declared.bytes.Width.{Width}
use Rattle.layout.specs.declared.bytes.Width.TheVariants.{Four}
use Rattle.layout.specs.declared.record.Record.{Record}
use Rattle.layout.specs.declared.data_type.DataType.{DataType}
use Rattle.layout.specs.declared.data_type.DataType.TheVariants.{Null, Dictionary, Struct, List as ListOf, ListView, Map, FixedSizeList, RunEnd}
use Rattle.layout.specs.Nodes.{child, child_count, child_rows}
use Rattle.layout.specs.Records.{nodes, record_at}
use Rattle.layout.specs.Types.{data_type}
use Rattle.hash_state.specs.Writes.{Write}
use Rattle.image.specs.Read.{offset, run_of, typed_slot}
use Rattle.image.specs.Slot.{null}
use Rattle.row_rule.specs.Number.{number_of}
use Rattle.leaves.specs.Rows.{is_leaf}
use Rattle.columns.specs.declared.job.Frame.{Frame}
use Rattle.columns.specs.declared.job.Job.{Job}
use Rattle.columns.specs.Fold.{is_first, row_number}
use Rattle.columns.specs.Machine.{Plan}

-- the greatest of f at the numbers below n, 0 where there are none
abbrev pub most : (ℕ → ℕ) → ℕ → ℕ
most f zero = 0
most f (suc n) = max (most f n) (f n)

-- the words of work that a node needs, going down at most so many nodes: the largest sum of a child's rows and its need
abbrev pub need_within : ℕ → List ℕ → ℕ → ℕ
need_within zero bytes node = 0
need_within (suc levels) bytes node =
    let r : Record = record_at bytes node in
    most (λ k. child_rows bytes r k + need_within levels bytes (child bytes r k)) (child_count (data_type r) r)

-- the need of a node: no node of an image is higher than 16
abbrev pub need : List ℕ → ℕ → ℕ
need bytes node = need_within 16 bytes node

-- the first of the child rows that rows from `lo` on reach; keys and list views may name any row, so theirs is row 0
abbrev pub reach_from : DataType → List ℕ → Record → ℕ → ℕ
reach_from Struct bytes r lo = r.start + lo
reach_from (ListOf w) bytes r lo = offset w bytes r (r.start + lo)
reach_from Map bytes r lo = offset Four bytes r (r.start + lo)
reach_from (FixedSizeList p) bytes r lo = p * (r.start + lo)
reach_from (RunEnd w) bytes r lo = run_of w bytes r (r.start + lo)
reach_from t bytes r lo = 0

-- the run behind the last that covers one of n elements from one on; without elements, the run of the first
abbrev pub run_till : Width → List ℕ → Record → ℕ → ℕ → ℕ
run_till w bytes r at n = cond (n == 0) (run_of w bytes r at) (run_of w bytes r (at + n - 1) + 1)

-- the child row behind the last that the n rows from `lo` on reach
abbrev pub reach_till : DataType → List ℕ → Record → ℕ → ℕ → ℕ
reach_till (Dictionary w signed) bytes r lo n = child_rows bytes r 0
reach_till Struct bytes r lo n = r.start + lo + n
reach_till (ListOf w) bytes r lo n = offset w bytes r (r.start + lo + n)
reach_till (ListView w) bytes r lo n = child_rows bytes r 0
reach_till Map bytes r lo n = offset Four bytes r (r.start + lo + n)
reach_till (FixedSizeList p) bytes r lo n = p * (r.start + lo + n)
reach_till (RunEnd w) bytes r lo n = run_till w bytes r (r.start + lo) n
reach_till t bytes r lo n = 0

-- a type, Null where there is none
abbrev pub or_null : Option DataType → DataType
or_null None = Null
or_null (Some t) = t

-- the type of a node, Null where it has none
abbrev pub type_of : List ℕ → ℕ → DataType
type_of bytes node = or_null (data_type (record_at bytes node))

-- how many words the child rows take that are reached, none without children
abbrev pub region : DataType → List ℕ → Record → ℕ → ℕ → ℕ
region t bytes r lo n = cond (child_count (Some t) r == 0) 0 (reach_till t bytes r lo n - reach_from t bytes r lo)

-- the n words from a place on
abbrev pub words_at : ℕ → ℕ → List ℕ → List ℕ
words_at at n words = take n (drop at words)

-- the words with others in place of the n from a place on
abbrev pub splice : ℕ → ℕ → List ℕ → List ℕ → List ℕ
splice at n words new = take at words ++ (new ++ drop (at + n) words)

-- f at each place below n
abbrev pub each : (ℕ → ℕ) → ℕ → List ℕ
each f n = map f (range_with_len 0 n)

-- n words at a place are cleared, before child 0
abbrev pub opened : ℕ → ℕ → ℕ → List ℕ → List ℕ
opened at n zero words = splice at n words (replicate n 0)
opened at n (suc s) words = words

-- the numbers of child rows, as they stand in a region, the first for the child row `from`
abbrev pub standing : List ℕ → ℕ → ℕ → ℕ
standing region from q = slice_index region (q - from)

-- the job of n rows of child s from one on, into the words at a place
abbrev pub child_job : List ℕ → Record → ℕ → ℕ → ℕ → ℕ → Job
child_job bytes r s lo n at = record { node = child bytes r s; lo = lo; n = n; at = at; first = is_first s }

-- the job of child s over the rows that a job reaches, into the words behind the job's own
abbrev pub child_at : List ℕ → DataType → Record → Job → ℕ → Job
child_at bytes t r j s = child_job bytes r s (reach_from t bytes r j.lo) (region t bytes r j.lo j.n) (j.at + j.n)

module _ (ONE : List Write → ℕ) (SEED : ℕ → List Write → ℕ) (bytes : List ℕ) where
  -- a row's number: of a leaf by its slot, else by the numbers of its child rows
  abbrev pub row_by : DataType → Record → (ℕ → ℕ) → Bool → ℕ → ℕ → ℕ
  row_by t r v first e row =
      cond (is_leaf t) (number_of ONE SEED first e (typed_slot t bytes r (λ _ _. null) row)) (row_number t bytes r v first e row)

  -- the end of a job: each of its words by its row
  unfoldable pub ended : DataType → Record → Job → List ℕ → List ℕ
  ended t r j words =
      splice j.at j.n words
      (each (λ i. row_by t r (standing (words_at (j.at + j.n) (region t bytes r j.lo j.n) words) (reach_from t bytes r j.lo)) j.first (slice_index words (j.at + i)) (j.lo + i)) j.n)

  -- a job that can be done with so many words of work
  pub record Fine (len : ℕ) (j : Job) : Type 0 where
    pub there : j.node < nodes bytes
    pub rows : j.lo + j.n ≤ (record_at bytes j.node).rows
    pub room : j.at + j.n + region (type_of bytes j.node) bytes (record_at bytes j.node) j.lo j.n ≤ len

  -- what stands for a frame that is not there
  abbrev pub no_frame : Frame
  no_frame = record { job = record { node = 0; lo = 0; n = 0; at = 0; first = false }; stage = 0 }

  -- the walk: each child in turn over the region, which is cleared before child 0, and then the job's own words
  abbrev pub plan : ℕ → Plan Job Frame (List ℕ)
  plan len =
      record {
        job = λ f. f.job;
        stage = λ f. f.stage;
        none = no_frame;
        children = λ j. child_count (Some (type_of bytes j.node)) (record_at bytes j.node);
        child = λ j s. child_at bytes (type_of bytes j.node) (record_at bytes j.node) j s;
        before = λ j s w. opened (j.at + j.n) (region (type_of bytes j.node) bytes (record_at bytes j.node) j.lo j.n) s w;
        after = λ j w. ended (type_of bytes j.node) (record_at bytes j.node) j w;
        Ok = Fine len;
      }

-- the n words from a place on went through F, and those below stayed
pub record Did (at n : ℕ) (F : ℕ → ℕ → ℕ) (words words' : List ℕ) : Type 0 where
  pub same : length words' ≡ length words
  pub below : (j : ℕ) → j < at → slice_index words' j ≡ slice_index words j
  pub rows : (i : ℕ) → i < n → slice_index words' (at + i) ≡ F i (slice_index words (at + i))

-- a child's rows and its need, as a table has it
abbrev pub needs_of : List ℕ → Record → List ℕ → ℕ → ℕ
needs_of bytes r needs k = child_rows bytes r k + slice_index needs (child bytes r k)
