-- What the soundness of an image says of each of its nodes.
use Rattle.std.proofs.Common.{◌≡◌, ℕ, zero, suc, ◌<◌, ◌≤◌, Bool, true, false, cond, List, [], ◌∷◌, length, Some, None, Option, sym, refl, ap, ◌∙◌, inl, inr, arith}
use Rattle.std.proofs.lemmas.Bool.{cases_eq, true≢false}
use Rattle.std.proofs.lemmas.Bool.Decides.{nat_tests}
use Rattle.std.proofs.lemmas.Option.{none-some}
use Rattle.layout.specs.declared.record.Record.{Record}
use Rattle.layout.specs.declared.data_type.DataType.{DataType}
use Rattle.layout.specs.Nodes.{table}
use Rattle.layout.specs.Records.{nodes, record_at}
use Rattle.layout.specs.Types.{data_type}
use Rattle.admission.specs.FirstFault.{at_node, bad_header, buffer_fault, fault_below, first_fault, node_fault, sound, typed_fault}
use Rattle.admission.specs.Rejections.{bad_buffer, bad_child, bad_order, bad_table, bad_views, out_of_reach, too_high, too_long}
use Rattle.admission.specs.Seams.{Headed}

-- no rejection applies to a node: it has a type, and the checks by it pass
pub record Passed (bytes : List ℕ) (node : ℕ) (t : DataType) (r : Record) : Type 0 where
  pub short : too_long r ≡ false
  pub tabled : bad_table (length bytes) (table t) r ≡ false
  pub lined : bad_child bytes node (table t) r ≡ false
  pub low : too_high bytes node ≡ false
  pub inside : bad_buffer bytes t r ≡ false
  pub ordered : bad_order bytes t r ≡ false
  pub reached : out_of_reach bytes t r ≡ false
  pub padded : bad_views bytes t r ≡ false

cond_none : {A : Type 0} (b : Bool) (x : A) (rest : Option A) → cond b (Some x) rest ≡ None → (b ≡ false) × (rest ≡ None)
cond_none true x rest e = (cc, cc)
cond_none false x rest e = (refl, e)

at_node_none : (o : Option ℕ) (node : ℕ) (next : Option (ℕ × ℕ)) → at_node o node next ≡ None → (o ≡ None) × (next ≡ None)
at_node_none None node next e = (refl, e)
at_node_none (Some number) node next e = absurd (none-some (number, node) (sym e))

none_when_sound : (o : Option (ℕ × ℕ)) → (elim o as (λ _. Bool) [ None ↦ true | Some _ ↦ false ]) ≡ true → o ≡ None
none_when_sound None e = refl
none_when_sound (Some fault) e = absurd (true≢false (sym e))

no_fault : (bytes : List ℕ) → sound bytes ≡ true → 0 < nodes bytes → first_fault bytes ≡ None
no_fault [] e h = absurd (omega arith)
no_fault (b ∷ bytes) e h = none_when_sound (first_fault (b ∷ bytes)) e

node_passes : (bytes : List ℕ) (n node : ℕ) → fault_below bytes n ≡ None → node < n → node_fault bytes node ≡ None
node_passes bytes zero node e h = absurd (omega arith)
node_passes bytes (suc n) node e h =
    let parts = at_node_none (node_fault bytes n) n (fault_below bytes n) e in
    elim (cases_eq node n) [ inl q ↦ ap (node_fault bytes) q ∙ parts.0 | inr q ↦ node_passes bytes n node parts.1 (omega arith) ]

passed_from : (bytes : List ℕ) (node : ℕ) (t : DataType) (r : Record) → typed_fault bytes node t r ≡ None → Passed bytes node t r
passed_from bytes node t r e =
    let c3 = cond_none (too_long r) 3 _ e in
    let c4 = cond_none (bad_table (length bytes) (table t) r) 4 _ c3.1 in
    let c5 = cond_none (bad_child bytes node (table t) r) 5 _ c4.1 in
    let c6 = cond_none (too_high bytes node) 6 (buffer_fault bytes t r) c5.1 in
    let c7 = cond_none (bad_buffer bytes t r) 7 _ c6.1 in
    let c8 = cond_none (bad_order bytes t r) 8 _ c7.1 in
    let c9 = cond_none (out_of_reach bytes t r) 9 _ c8.1 in
    let c10 = cond_none (bad_views bytes t r) 10 None c9.1 in
    record { short = c3.0; tabled = c4.0; lined = c5.0; low = c6.0; inside = c7.0; ordered = c8.0; reached = c9.0; padded = c10.0 }

typed_from : (bytes : List ℕ) (node : ℕ) (r : Record) (o : Option DataType)
    → (elim o as (λ _. Option ℕ) [ None ↦ Some 2 | Some t ↦ typed_fault bytes node t r ]) ≡ None → (t : DataType) × (o ≡ Some t) × Passed bytes node t r
typed_from bytes node r None e = absurd (none-some 2 (sym e))
typed_from bytes node r (Some t) e = (t, refl, passed_from bytes node t r e)

module _ (bytes : List ℕ) (is-sound : sound bytes ≡ true) where
  fault_parts : 0 < nodes bytes → (bad_header bytes ≡ false) × (fault_below bytes (nodes bytes) ≡ None)
  fault_parts h = cond_none (bad_header bytes) (1, 0) (fault_below bytes (nodes bytes)) (no_fault bytes is-sound h)

  -- the records of an image are there
  pub sound_headed : 0 < nodes bytes → Headed bytes
  sound_headed h = let parts = (fault_parts h).0 in grind (arith, nat_tests, parts)

  -- and there are few
  pub sound_few : 0 < nodes bytes → nodes bytes ≤ 256
  sound_few h = let parts = (fault_parts h).0 in grind (arith, nat_tests, parts)

  -- each node has a type, and no rejection applies to it
  pub sound_node : (node : ℕ) → node < nodes bytes → (t : DataType) × (data_type (record_at bytes node) ≡ Some t) × Passed bytes node t (record_at bytes node)
  sound_node node h =
      typed_from bytes node (record_at bytes node) (data_type (record_at bytes node)) (node_passes bytes (nodes bytes) node (fault_parts (omega arith)).1 h)

  -- the same of a record and a type that were read
  pub sound_read : (node : ℕ) (r : Record) (t : DataType) → node < nodes bytes → r ≡ record_at bytes node → Some t ≡ data_type r → Passed bytes node t r
  sound_read node r t h read typed = found (sound_node node h)
    where
      found : ((s : DataType) × (data_type (record_at bytes node) ≡ Some s) × Passed bytes node s (record_at bytes node)) → Passed bytes node t r
      found p =
          let e : data_type r ≡ data_type (record_at bytes node) = ap data_type read in
          let q : t ≡ p.0 = cc (p.1, e, typed) in
          rw (read, q) p.2
