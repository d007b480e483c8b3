-- What a node of a sound image lets the walk read.
use Rattle.std.proofs.Common.{◌≡◌, ℕ, ◌+◌, ◌*◌, ◌<◌, ◌≤◌, true, false, ◌&&◌, List, length, Some, Option, sym, refl, ap, ◌∙◌, subst, ap₂, arith}
use Rattle.layout.specs.declared.data_type.DataType.{DataType}
use Rattle.layout.specs.declared.data_type.DataType.TheVariants.{View, Dictionary, Struct, List as ListOf, ListView, Map, FixedSizeList, RunEnd}
use Rattle.layout.specs.declared.bytes.Width.{Width}
use Rattle.layout.specs.declared.record.Record.{Record}
use Rattle.layout.specs.Nodes.{child, child_count, child_rows, HoldsBit, marked, reads_nulls, table, typed_mark}
use Rattle.layout.specs.Records.{nodes, record_at}
use Rattle.layout.specs.Types.{data_type}
use Rattle.layout.specs.Views.{view_place}
use Rattle.admission.specs.Rejections.{bad_view, bad_views}
use Rattle.admission.specs.Seams.{Linked}
use Rattle.admission.proofs.Below.{none_at}
use Rattle.admission.proofs.Links.{child_behind, linked}
use Rattle.admission.proofs.Sound.{Passed, sound_headed, sound_read}
use Rattle.image.proofs.Readable.{bit_there, readable}
use Rattle.leaves.specs.Rows.{LeafRow, Padded, is_leaf}
use Rattle.columns.specs.Fold.{is_marked}
use Rattle.columns.specs.Jobs.{need, reach_from, region, type_of}
use Rattle.columns.specs.Seams.{FoldThere, ReachThere, RunEndsThere}
use Rattle.columns.specs.declared.node.Node.{Node}
use Rattle.columns.proofs.Needed.{region_inside, region_need}
use Rattle.columns.proofs.Ranges.{fold_there, reach_there, short}
use Rattle.columns.proofs.Reaching.{reach_inside}
use Rattle.columns.proofs.Rule.{Counted}
use Rattle.columns.proofs.Typed.{counted, passed, typed}

-- the bytes that a node stands in
abbrev pub image_of : Node → List ℕ
image_of n = n.column.bytes.now

-- what is said of a node, said of the node of its number
pub at_node : {X : Type 0} (F : List ℕ → DataType → Record → X) (n : Node) (bytes : List ℕ) (number : ℕ) → image_of n ≡ bytes → n.number ≡ number
    → F (image_of n) n.t n.column.record ≡ F bytes (type_of bytes number) (record_at bytes number)
at_node F n bytes number eb ek =
    ap₂ (F (image_of n)) n.typed n.read ∙ ap₂ (λ (b : List ℕ) (k : ℕ). F b (type_of b k) (record_at b k)) eb ek

-- what holds of the node of a number holds of a node that has it
pub of_node : (P : List ℕ → DataType → Record → Type 0) (n : Node) (bytes : List ℕ) (number : ℕ) → image_of n ≡ bytes → n.number ≡ number
    → P bytes (type_of bytes number) (record_at bytes number) → P (image_of n) n.t n.column.record
of_node P n bytes number eb ek p =
    subst (λ (t : DataType). P (image_of n) t n.column.record) (sym n.typed)
    (subst (P (image_of n) (type_of (image_of n) n.number)) (sym n.read)
    (subst (λ (k : ℕ). P (image_of n) (type_of (image_of n) k) (record_at (image_of n) k)) (sym ek)
    (subst (λ (b : List ℕ). P b (type_of b number) (record_at b number)) (sym eb) p)))

module _ (n : Node) where
  -- its type is the one that its record tells
  pub node_typed : Some n.t ≡ data_type n.column.record
  node_typed = ap (λ (t : DataType). Some t) n.typed ∙ sym (ap data_type n.read ∙ typed (image_of n) n.sound n.number n.there)

  -- no rejection applies to it
  pub node_passed : Passed (image_of n) n.number n.t n.column.record
  node_passed = sound_read (image_of n) n.sound n.number n.column.record n.t n.there n.read node_typed

  -- START and ROWS are small
  pub node_short : (n.column.record.rows ≤ 1048576) × (n.column.record.start ≤ 1048576)
  node_short = short n.column.record node_passed.short

  -- the bitmap, where NULLS is read, holds the bit of each row
  pub node_bit : (row : ℕ) → row < n.column.record.rows → reads_nulls n.t ≡ true → HoldsBit (image_of n) n.column.record row
  node_bit row h = bit_there (image_of n) n.number row n.column.record (sound_headed (image_of n) n.sound (omega (arith, n.there))) h n.t node_passed

  -- the number of a child can be read, and the child and its record are there
  pub node_child : (index : ℕ) → index < child_count (Some n.t) n.column.record
      → (n.column.record.tab + 4 * index + 4 ≤ length (image_of n)) × (child (image_of n) n.column.record index < nodes (image_of n)) × (4 + 36 * child (image_of n) n.column.record index + 36 ≤ length (image_of n))
  node_child index h =
      let behind = child_behind (image_of n) n.number n.column.record (table n.t) node_passed.tabled node_passed.lined index h in
      (behind.0, behind.2, omega (arith, sound_headed (image_of n) n.sound (omega (arith, n.there)), behind.2))

  -- a child has few rows, as every node has
  pub child_few : (index : ℕ) → index < child_count (Some n.t) n.column.record → child_rows (image_of n) n.column.record index ≤ 1048576
  child_few index h =
      let there = (node_child index h).1 in
      (short (record_at (image_of n) (child (image_of n) n.column.record index)) (passed (image_of n) n.sound (child (image_of n) n.column.record index) there).short).0

  -- what TAB lists can be read
  pub node_linked : Linked (image_of n) n.t n.column.record
  node_linked = linked (image_of n) n.number n.column.record (sound_headed (image_of n) n.sound (omega (arith, n.there))) n.t node_passed.tabled node_passed.lined

  -- what a range of rows reaches can be told
  pub node_reach : (lo count : ℕ) → lo + count ≤ n.column.record.rows → ReachThere n.t (image_of n) n.column.record lo count
  node_reach lo count rows = reach_there (image_of n) n.number n.column.record lo count rows n.t node_passed node_linked (child_few 0)

  -- run ends can be searched
  pub node_run_ends : (w : Width) → n.t ≡ RunEnd w → RunEndsThere w (image_of n) n.column.record (n.column.record.start + 0) 0
  node_run_ends w e = (subst (λ (t : DataType). ReachThere t (image_of n) n.column.record 0 0) e (node_reach 0 0 (omega arith))).1

  -- the mark of a row, as a reference asks for it
  pub mark_is : (row : ℕ) → (reads_nulls n.t && marked (image_of n) n.column.record row) ≡ is_marked (image_of n) n.number row
  mark_is row =
      ap₂ (λ (t : DataType) (r : Record). reads_nulls t && marked (image_of n) r row) n.typed n.read
      ∙ sym (ap (λ (o : Option DataType). typed_mark o (image_of n) (record_at (image_of n) n.number) row) (typed (image_of n) n.sound n.number n.there))

  -- an unmarked row of a range can be folded
  pub node_fold : (lo count row : ℕ) → lo + count ≤ n.column.record.rows → lo ≤ row → row < lo + count → (reads_nulls n.t && marked (image_of n) n.column.record row) ≡ false
      → FoldThere n.t (image_of n) n.column.record (n.column.record.start + row) (reach_from n.t (image_of n) n.column.record lo) (region n.t (image_of n) n.column.record lo count)
  node_fold lo count row rows low high m = fold_there (image_of n) n.number n.column.record lo count row rows low high n.t node_passed node_linked (child_few 0) m

  -- a range reaches no further than a child's rows
  pub node_inside : (lo count : ℕ) → lo + count ≤ n.column.record.rows → (s : ℕ) → s < child_count (Some n.t) n.column.record → reach_from n.t (image_of n) n.column.record lo + region n.t (image_of n) n.column.record lo count ≤ child_rows (image_of n) n.column.record s
  node_inside lo count rows s h = reach_inside (image_of n) n.number n.column.record lo count rows n.t node_passed s h

  -- a region, and with it the need of each child, is within the node's need
  pub node_room : (lo count : ℕ) → lo + count ≤ n.column.record.rows
      → (region n.t (image_of n) n.column.record lo count ≤ need (image_of n) n.number)
      × ((s : ℕ) → s < child_count (Some n.t) n.column.record → region n.t (image_of n) n.column.record lo count + need (image_of n) (child (image_of n) n.column.record s) ≤ need (image_of n) n.number)
  node_room lo count =
      of_node (λ b t r. lo + count ≤ r.rows
      → (region t b r lo count ≤ need (image_of n) n.number)
      × ((s : ℕ) → s < child_count (Some t) r → region t b r lo count + need (image_of n) (child b r s) ≤ need (image_of n) n.number))
      n (image_of n) n.number refl refl
      (λ rows. (region_inside (image_of n) n.sound n.number lo count n.there rows, λ s h. region_need (image_of n) n.sound n.number lo count s n.there rows h))

  -- a node whose rows refer to others has a child
  pub refers_to_child : (t : DataType) → n.t ≡ t → is_leaf t ≡ false → (Counted t n.column.record.cnt → 0 < child_count (Some t) n.column.record) → 0 < child_count (Some n.t) n.column.record
  refers_to_child t e l h =
      subst (λ (s : DataType). 0 < child_count (Some s) n.column.record) (sym e)
      (h (subst (λ (s : DataType). Counted s n.column.record.cnt) e (counted (length (image_of n)) n.t n.column.record (ap is_leaf e ∙ l) node_passed.tabled)))

  -- a row of a leaf can be read
  pub node_leaf : (row : ℕ) → row < n.column.record.rows → LeafRow (image_of n) n.t n.column.record row
  node_leaf row h =
      let headed = sound_headed (image_of n) n.sound (omega (arith, n.there)) in
      (node_bit row h, readable (image_of n) n.number row n.column.record headed h n.t node_passed, padded n.t node_passed.padded)
    where
      padded : (t : DataType) → bad_views (image_of n) t n.column.record ≡ false → Padded t (image_of n) n.column.record row
      padded View e = none_at n.column.record.rows (λ k. bad_view (image_of n) n.column.record k (view_place n.column.record k)) row e h
      padded t e = tt
