-- A job that is completed leaves the row rule's numbers in its words.
use Rattle.std.proofs.Common.{◌≡◌, ℕ, zero, suc, ◌+◌, ◌-◌, ◌*◌, ◌<◌, ◌≤◌, Bool, true, false, cond, ◌&&◌, ◌==◌, eqb, List, length, get_or, replicate, refl, ap, ◌∙◌, subst, sym, true≢false, arith}
use Rattle.std.proofs.lemmas.List.{get_or-replicate, length-replicate}
use Rattle.layout.specs.declared.bytes.Width.TheVariants.{Four}
use Rattle.layout.specs.declared.record.Record.{Record}
use Rattle.layout.specs.declared.data_type.DataType.{DataType}
use Rattle.layout.specs.declared.data_type.DataType.TheVariants.{Dictionary, Struct, List as ListOf, ListView, Map, FixedSizeList, RunEnd}
use Rattle.layout.specs.Nodes.{child, element, marked, reads_nulls}
use Rattle.layout.specs.Records.{nodes, record_at}
use Rattle.hash_state.specs.Combine.{C}
use Rattle.hash_state.specs.Writes.{Write}
use Rattle.image.specs.Read.{offset, run_of, span, typed_slot, unmarked}
use Rattle.image.specs.Slot.{Slot, null}
use Rattle.row_rule.specs.Number.{combined, number_of}
use Rattle.leaves.specs.Rows.{is_leaf}
use Rattle.columns.specs.Fold.{combined_all, entry, folded, is_marked, row_number, through}
use Rattle.columns.specs.Jobs.{Did, Fine, each, ended, opened, words_at, reach_from, region, row_by, splice, standing, type_of}
use Rattle.columns.specs.declared.job.Job.{Job}
use Rattle.columns.specs.Machine.{turns}
use Rattle.columns.proofs.Splices.{get_or-each, get_or-words_at, get_or-splice_below, get_or-splice_in, length-each, length-splice}

-- a statement holds of each child row that an element uses
abbrev pub Uses : DataType → List ℕ → Record → ℕ → (ℕ → Type 0) → Type 0
Uses (Dictionary w signed) bytes r at P = P (element w bytes r.a at)
Uses Struct bytes r at P = (r.cnt == 0) ≡ false → P at
Uses (ListOf w) bytes r at P = (k : ℕ) → k < span w bytes r at → P (offset w bytes r at + k)
Uses (ListView w) bytes r at P = (k : ℕ) → k < element w bytes r.b at → P (element w bytes r.a at + k)
Uses Map bytes r at P = (k : ℕ) → k < span Four bytes r at → P (offset Four bytes r at + k)
Uses (FixedSizeList p) bytes r at P = (k : ℕ) → k < p → P (p * at + k)
Uses (RunEnd w) bytes r at P = P (run_of w bytes r at)
Uses t bytes r at P = Unit {0}

did_splice : (at n : ℕ) (F : ℕ → ℕ → ℕ) (w ys : List ℕ) → at + n ≤ length w → length ys ≡ n → ((i : ℕ) → i < n → get_or ys i 0 ≡ F i (get_or w (at + i) 0)) → Did at n F w (splice at n w ys)
did_splice at n F w ys le ly h =
    record { same = length-splice at n w ys le ly; below = λ j l. get_or-splice_below at n w ys j le l; rows = λ i l. get_or-splice_in at n w ys i le ly l ∙ h i l }

-- words that went through F and then through G went through both, one after the other
pub did_then : (at n : ℕ) (F G : ℕ → ℕ → ℕ) (w w' w'' : List ℕ) → Did at n F w w' → Did at n G w' w'' → Did at n (λ i x. G i (F i x)) w w''
did_then at n F G w w' w'' p q =
    record { same = q.same ∙ p.same; below = λ j l. q.below j l ∙ p.below j l; rows = λ i l. q.rows i l ∙ ap (G i) (p.rows i l) }

did_none : (at n : ℕ) (w : List ℕ) → Did at n (λ i x. x) w w
did_none at n w = record { same = refl; below = λ j l. refl; rows = λ i l. refl }

-- opening a region gives each word the entry that the child begins with
pub opened_did : (at n s : ℕ) (w : List ℕ) → at + n ≤ length w → Did at n (λ i x. entry s x) w (opened at n s w)
opened_did at n zero w le = did_splice at n (λ i x. 0) w (replicate n 0) le (length-replicate n 0) (λ i l. get_or-replicate n i 0 0 l)
opened_did at n (suc s) w le = did_none at n w

-- where each turn takes the words through a rule, all turns take them through the rules one after the other
pub turns_did : (at n len : ℕ) (g : ℕ → List ℕ → List ℕ) (G : ℕ → ℕ → ℕ → ℕ) (m s : ℕ) (w : List ℕ) → length w ≡ len
    → ((t : ℕ) → t < s + m → (v : List ℕ) → length v ≡ len → Did at n (G t) v (g t v))
    → Did at n (λ i x. through (λ t y. G t i y) m s x) w (turns g m s w)
unfolding turns through
turns_did at n len g G zero s w e h = did_none at n w
turns_did at n len g G (suc m) s w e h =
    let one = h s (omega arith) w e in
    did_then at n (G s) (λ i x. through (λ t y. G t i y) m (s + 1) x) w (g s w) (turns g m (s + 1) (g s w))
    one
    (turns_did at n len g G m (s + 1) (g s w) (one.same ∙ e) (λ t l v. h t (omega arith) v))

-- what the region held before child 0 does not matter
pub through_start : (m : ℕ) (g : ℕ → ℕ → ℕ) (y : ℕ) → 0 < m → through (λ s z. g s (entry s z)) m 0 y ≡ through (λ s z. g s (entry s z)) m 0 0
unfolding through
through_start zero g y h = absurd (omega arith)
through_start (suc m) g y h = refl

-- numbers of child rows that agree where a row uses them fold to the same
all_same : (f g : ℕ → ℕ) (count e from : ℕ) → ((k : ℕ) → k < count → f (from + k) ≡ g (from + k)) → combined_all f e from count ≡ combined_all g e from count
unfolding combined_all
all_same f g zero e from same = refl
all_same f g (suc count) e from same =
    let z : from + 0 ≡ from = omega arith in
    let here : f from ≡ g from = rw z at (same 0 (omega arith)) in
    ap (λ (x : ℕ). combined_all f (C e x) (from + 1) count) here
    ∙ all_same f g count _ (from + 1) (λ k l. let m : from + (k + 1) ≡ from + 1 + k = omega arith in rw m at (same (k + 1) (omega arith)))

module _ (bytes : List ℕ) (r : Record) (f g : ℕ → ℕ) (first : Bool) (e at : ℕ) where
  folded_same : (t : DataType) → Uses t bytes r at (λ q. f q ≡ g q) → folded t bytes r f first e at ≡ folded t bytes r g first e at
  folded_same (Dictionary w signed) u = ap (λ (x : ℕ). cond (is_marked bytes (child bytes r 0) (element w bytes r.a at)) e (combined first e x)) u
  folded_same Struct u = ap (C e) (by_count (eqb r.cnt 0) u)
    where
      by_count : (b : Bool) → (b ≡ false → f at ≡ g at) → cond b 0 (f at) ≡ cond b 0 (g at)
      by_count true h = refl
      by_count false h = h refl
  folded_same (ListOf w) u = all_same f g (span w bytes r at) e (offset w bytes r at) u
  folded_same (ListView w) u = all_same f g (element w bytes r.b at) e (element w bytes r.a at) u
  folded_same Map u = all_same f g _ e _ u
  folded_same (FixedSizeList p) u = all_same f g p e (p * at) u
  folded_same (RunEnd w) u = ap (λ (x : ℕ). cond (is_marked bytes (child bytes r 0) (run_of w bytes r at)) e (combined first e x)) u
  folded_same t u = refl

-- a leaf's slot does not go down
pub leaf_slot : (t : DataType) (bytes : List ℕ) (r : Record) (f g : ℕ → ℕ → Slot) (row : ℕ) → is_leaf t ≡ true → typed_slot t bytes r f row ≡ typed_slot t bytes r g row
leaf_slot t bytes r f g row leaf = ap (cond (reads_nulls t && marked bytes r row) null) (same t leaf)
  where
    same : (t : DataType) → is_leaf t ≡ true → unmarked t bytes r f row (r.start + row) ≡ unmarked t bytes r g row (r.start + row)
    same (Dictionary w signed) l = absurd (true≢false (sym l))
    same Struct l = absurd (true≢false (sym l))
    same (ListOf w) l = absurd (true≢false (sym l))
    same (ListView w) l = absurd (true≢false (sym l))
    same Map l = absurd (true≢false (sym l))
    same (FixedSizeList p) l = absurd (true≢false (sym l))
    same (RunEnd w) l = absurd (true≢false (sym l))
    same t l = refl

-- what holds of the child rows that an element uses may be weakened
pub uses_weaker : (t : DataType) (bytes : List ℕ) (r : Record) (at : ℕ) (P Q : ℕ → Type 0) → ((q : ℕ) → P q → Q q) → Uses t bytes r at P → Uses t bytes r at Q
uses_weaker (Dictionary w signed) bytes r at P Q h u = h _ u
uses_weaker Struct bytes r at P Q h u = λ e. h _ (u e)
uses_weaker (ListOf w) bytes r at P Q h u = λ k l. h _ (u k l)
uses_weaker (ListView w) bytes r at P Q h u = λ k l. h _ (u k l)
uses_weaker Map bytes r at P Q h u = λ k l. h _ (u k l)
uses_weaker (FixedSizeList p) bytes r at P Q h u = λ k l. h _ (u k l)
uses_weaker (RunEnd w) bytes r at P Q h u = h _ u
uses_weaker t bytes r at P Q h u = tt

-- the child rows that an unmarked row of a range uses are reached from the range
abbrev pub Reached : List ℕ → Type 0
Reached bytes =
    (node lo n row : ℕ) → node < nodes bytes → lo + n ≤ (record_at bytes node).rows → lo ≤ row → row < lo + n
    → (reads_nulls (type_of bytes node) && marked bytes (record_at bytes node) row) ≡ false
    → Uses (type_of bytes node) bytes (record_at bytes node) ((record_at bytes node).start + row)
    (λ q. (reach_from (type_of bytes node) bytes (record_at bytes node) lo ≤ q)
    × (q < reach_from (type_of bytes node) bytes (record_at bytes node) lo + region (type_of bytes node) bytes (record_at bytes node) lo n))

module _ (ONE : List Write → ℕ) (SEED : ℕ → List Write → ℕ) (bytes : List ℕ) (reached : Reached bytes) where
  -- a row by the numbers that stand in the region
  pub row_same : (node lo n row : ℕ) (f g : ℕ → ℕ) (first : Bool) (e : ℕ) → node < nodes bytes → lo + n ≤ (record_at bytes node).rows → lo ≤ row → row < lo + n
      → ((x : ℕ) → x < region (type_of bytes node) bytes (record_at bytes node) lo n
      → f (reach_from (type_of bytes node) bytes (record_at bytes node) lo + x) ≡ g (reach_from (type_of bytes node) bytes (record_at bytes node) lo + x))
      → row_number (type_of bytes node) bytes (record_at bytes node) f first e row ≡ row_number (type_of bytes node) bytes (record_at bytes node) g first e row
  row_same node lo n row f g first e there rows low high same = by_mark (reads_nulls t && marked bytes r row) refl
    where
      t : DataType
      t = type_of bytes node

      r : Record
      r = record_at bytes node

      from : ℕ
      from = reach_from t bytes r lo

      agrees : (q : ℕ) → ((from ≤ q) × (q < from + region t bytes r lo n)) → f q ≡ g q
      agrees q p =
          let at : from + (q - from) ≡ q = omega (arith, p.0) in
          subst (λ (m : ℕ). f m ≡ g m) at (same (q - from) (omega (arith, p.0, p.1)))

      by_mark : (b : Bool) → (reads_nulls t && marked bytes r row) ≡ b → cond b e (folded t bytes r f first e (r.start + row)) ≡ cond b e (folded t bytes r g first e (r.start + row))
      by_mark true m = refl
      by_mark false m = folded_same bytes r f g first e (r.start + row) t (uses_weaker t bytes r (r.start + row) _ (λ q. f q ≡ g q) agrees (reached node lo n row there rows low high m))

  -- the words of a job that is ended become its rows' numbers, by those that stand in the region
  pub ended_did : (j : Job) (w : List ℕ) (v : ℕ → ℕ) → Fine ONE SEED bytes (length w) j
      → ((x : ℕ) → x < region (type_of bytes j.node) bytes (record_at bytes j.node) j.lo j.n
      → get_or w (j.at + j.n + x) 0 ≡ v (reach_from (type_of bytes j.node) bytes (record_at bytes j.node) j.lo + x))
      → Did j.at j.n (λ i x. row_by ONE SEED bytes (type_of bytes j.node) (record_at bytes j.node) v j.first x (j.lo + i)) w
      (ended ONE SEED bytes (type_of bytes j.node) (record_at bytes j.node) j w)
  unfolding ended
  ended_did j w v fine holds =
      did_splice j.at j.n _ w (each _ j.n) (omega (arith, fine.room)) (length-each _ j.n)
      (λ i l. get_or-each _ j.n i l ∙ by_leaf i l (is_leaf t))
    where
      t : DataType
      t = type_of bytes j.node

      r : Record
      r = record_at bytes j.node

      from : ℕ
      from = reach_from t bytes r j.lo

      stands : (x : ℕ) → x < region t bytes r j.lo j.n → standing (words_at (j.at + j.n) (region t bytes r j.lo j.n) w) from (from + x) ≡ v (from + x)
      stands x l =
          let e : from + x - from ≡ x = omega arith in
          ap (λ (m : ℕ). get_or (words_at (j.at + j.n) (region t bytes r j.lo j.n) w) m 0) e ∙ get_or-words_at (j.at + j.n) (region t bytes r j.lo j.n) w x l ∙ holds x l

      by_leaf : (i : ℕ) → i < j.n → (b : Bool)
          → cond b (number_of ONE SEED j.first (get_or w (j.at + i) 0) (typed_slot t bytes r (λ _ _. null) (j.lo + i)))
          (row_number t bytes r (standing (words_at (j.at + j.n) (region t bytes r j.lo j.n) w) from) j.first (get_or w (j.at + i) 0) (j.lo + i))
          ≡ cond b (number_of ONE SEED j.first (get_or w (j.at + i) 0) (typed_slot t bytes r (λ _ _. null) (j.lo + i)))
          (row_number t bytes r v j.first (get_or w (j.at + i) 0) (j.lo + i))
      by_leaf i l true = refl
      by_leaf i l false = row_same j.node j.lo j.n (j.lo + i) (standing (words_at (j.at + j.n) (region t bytes r j.lo j.n) w) from) v j.first (get_or w (j.at + i) 0) fine.there fine.rows (omega arith) (omega arith) stands
