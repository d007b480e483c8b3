-- What is known of a call that is not refused.
use Rattle.std.proofs.Common.{◌≡◌, ℕ, ◌<◌, ◌≤◌, Bool, true, false, cond, ◌==◌, List, [], ◌∷◌, length, Some, None, Option, refl, sym, ap₂, ◌∙◌, le_trans, ltb-true, ltb-false, lt-ltb, eqb-true}
use Rattle.std.proofs.lemmas.Bool.{and_parts, not-false, or_parts}
use Rattle.std.proofs.lemmas.Option.{none-some}
use Rattle.std.specs.Cmp.Derive.{both_true}
use Rattle.runs.specs.declared.call.Lent.{Lent}
use Rattle.runs.specs.Columns.{Column, all_below, column_need, height, is_there, list_below, meeting_of}
use Rattle.runs.specs.Refusals.{column_refusal, keep_refusal, most_columns, most_rows, node_refusal, read_refusal, rows_refusal, unclaimed, unless}

-- a test that comes first did not apply, nor did what comes after it
passed : (b : Bool) (n : ℕ) (rest : Option ℕ) → cond b (Some n) rest ≡ None → (b ≡ false) × (rest ≡ None)
passed true n rest e = absurd (none-some n (sym e))
passed false n rest e = (refl, e)

-- neither of two parts of the tests applied
pub both_passed : (o p : Option ℕ) → unless o (λ number. Some number) p ≡ None → (o ≡ None) × (p ≡ None)
both_passed (Some n) p e = absurd (none-some n (sym e))
both_passed None p e = (refl, e)

pub record ColumnGoes (rows count : ℕ) (c : Column) (list : Option (List ℕ)) (lent : Lent) : Type 0 where
  pub room : rows ≤ lent.entries
  pub there : is_there c ≡ true
  pub as_many : meeting_of (height c) list ≡ rows
  pub below : list_below (height c) list ≡ true
  pub work : column_need c ≤ unclaimed lent
  pub one_more : (count == most_columns) ≡ false

pub column_goes : (rows count : ℕ) (c : Column) (list : Option (List ℕ)) (lent : Lent) → column_refusal rows count c list lent ≡ None → ColumnGoes rows count c list lent
column_goes rows count c list lent e =
    let both = both_passed (node_refusal rows count c lent) (rows_refusal rows (height c) (column_need c) list lent) e in
    let a = passed _ 11 _ both.0 in
    let b = passed _ 12 _ a.1 in
    let d = passed _ 13 _ b.1 in
    let f = passed _ 14 _ both.1 in
    let g = passed _ 15 _ f.1 in
    let h = passed _ 16 _ g.1 in
    record {
      room = ltb-false _ _ a.0;
      there = not-false _ d.0;
      as_many = eqb-true _ _ (not-false _ f.0);
      below = not-false _ g.0;
      work = ltb-false _ _ h.0;
      one_more = b.0;
    }

-- a column of whose node and of whose rows nothing was refused
pub column_passed : (rows count : ℕ) (c : Column) (list : Option (List ℕ)) (lent : Lent) (tall needed : ℕ) → tall ≡ height c → needed ≡ column_need c
    → None ≡ node_refusal rows count c lent → None ≡ rows_refusal rows tall needed list lent → None ≡ column_refusal rows count c list lent
column_passed rows count c list lent tall needed h n a b =
    ap₂ (λ (o p : Option ℕ). unless o (λ number. Some number) p) a (b ∙ ap₂ (λ (x y : ℕ). rows_refusal rows x y list lent) h n)

pub record KeepGoes (rows : ℕ) (list : List ℕ) (lent : Lent) : Type 0 where
  pub room : rows ≤ lent.entries
  pub fits : length list ≤ lent.entries
  pub few : length list ≤ most_rows
  pub below : all_below rows list ≡ true
  pub work : length list ≤ unclaimed lent

pub keep_goes : (rows : ℕ) (list : List ℕ) (lent : Lent) → keep_refusal rows list lent ≡ None → KeepGoes rows list lent
keep_goes rows list lent e =
    let a = passed _ 11 _ e in
    let b = passed _ 14 _ a.1 in
    let d = passed _ 15 _ b.1 in
    let f = passed _ 16 _ d.1 in
    let n = or_parts _ _ b.0 in
    record {
      room = ltb-false _ _ a.0;
      fits = ltb-false _ _ n.0;
      few = ltb-false _ _ n.1;
      below = not-false _ d.0;
      work = ltb-false _ _ f.0;
    }

pub read_goes : (rows row entries : ℕ) → read_refusal rows row entries ≡ None → (rows ≤ entries) × (row < rows)
read_goes rows row entries e =
    let a = passed _ 11 _ e in
    let b = passed _ 17 _ a.1 in
    (ltb-false _ _ a.0, ltb-true _ _ (not-false _ b.0))

pub all_below_more : (a b : ℕ) (list : List ℕ) → a ≤ b → all_below a list ≡ true → all_below b list ≡ true
all_below_more a b [] h e = refl
all_below_more a b (k ∷ list) h e =
    let p = and_parts _ _ e in
    both_true (lt-ltb _ _ (le_trans (ltb-true _ _ p.0) h)) (all_below_more a b list h p.1)
