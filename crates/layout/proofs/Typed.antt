-- The type that a record tells has the record's KIND.
use Rattle.std.proofs.Common.{◌≡◌, ℕ, Bool, true, false, cond, Some, None, Option, eqb, sym, ap, ◌∙◌, refl, arith}
use Rattle.std.proofs.lemmas.Bool.{eqb-true}
use Rattle.std.specs.Option.{option_map}
use Rattle.layout.specs.declared.kind.Kind.{Kind}
use Rattle.layout.specs.declared.kind.Kind.TheVariants as kind
use Rattle.layout.specs.declared.record.Record.{Record}
use Rattle.layout.specs.declared.data_type.DataType.{DataType}
use Rattle.layout.specs.declared.data_type.DataType.TheVariants.{Number, Float, Utf8, Binary, FixedSizeBinary, FixedSizeList, Dictionary, List, ListView, RunEnd}
use Rattle.layout.specs.Types.{data_type, given, kind_number, kind_of}

-- what tells no type but those of one KIND
abbrev Tells : ℕ → Option DataType → Type 0
Tells number o = (t : DataType) → Some t ≡ o → kind_number (kind_of t) ≡ number

-- what tells no type but those of one kind
abbrev OfKind : Kind → Option DataType → Type 0
OfKind k o = (t : DataType) → Some t ≡ o → kind_of t ≡ k

no_type : (k : Kind) → OfKind k None
no_type k t e = let z : ◌≡◌ {A = ℕ} 0 1 = cc in absurd (omega arith)

mapped : {A : Type 0} (f : A → DataType) (k : Kind) → ((a : A) → kind_of (f a) ≡ k) → (o : Option A) → OfKind k (option_map f o)
mapped f k same (Some a) t e = let z = same a in cc
mapped f k same None t e = no_type k t e

where_holds : (b : Bool) (k : Kind) (o : Option DataType) → OfKind k o → OfKind k (given b o)
where_holds true k o of_kind t e = of_kind t e
where_holds false k o of_kind t e = no_type k t e

-- a line of the table, and the lines below it
line : (number : ℕ) (k : Kind) (o rest : Option DataType) → OfKind k o → Tells number rest → Tells number (cond (eqb number (kind_number k)) o rest)
line number k o rest here below t e = by (eqb number (kind_number k)) refl e
  where
    by : (b : Bool) → eqb number (kind_number k) ≡ b → Some t ≡ cond b o rest → kind_number (kind_of t) ≡ number
    by true q e = ap kind_number (here t e) ∙ sym (eqb-true number (kind_number k) q)
    by false q e = below t e

pub kind_told : (r : Record) (t : DataType) → Some t ≡ data_type r → kind_number (kind_of t) ≡ r.kind
kind_told r t e =
    line r.kind kind.Null _ _ (λ t e. cc)
    (line r.kind kind.Boolean _ _ (λ t e. cc)
    (line r.kind kind.Number _ _ (mapped Number _ (λ w. refl) _)
    (line r.kind kind.Float _ _ (mapped Float _ (λ w. refl) _)
    (line r.kind kind.Utf8 _ _ (mapped Utf8 _ (λ w. refl) _)
    (line r.kind kind.Binary _ _ (mapped Binary _ (λ w. refl) _)
    (line r.kind kind.FixedSizeBinary _ _ (where_holds _ _ (Some (FixedSizeBinary r.p)) (λ t e. cc))
    (line r.kind kind.View _ _ (λ t e. cc)
    (line r.kind kind.Dictionary _ _ (where_holds _ _ _ (mapped (λ w. Dictionary w (eqb r.b 1)) _ (λ w. refl) _))
    (line r.kind kind.Struct _ _ (λ t e. cc)
    (line r.kind kind.List _ _ (mapped List _ (λ w. refl) _)
    (line r.kind kind.ListView _ _ (mapped ListView _ (λ w. refl) _)
    (line r.kind kind.Map _ _ (λ t e. cc)
    (line r.kind kind.FixedSizeList _ _ (where_holds _ _ (Some (FixedSizeList r.p)) (λ t e. cc))
    (line r.kind kind.RunEnd _ _ (mapped RunEnd _ (λ w. refl) _)
    (λ t e. let z : ◌≡◌ {A = ℕ} 0 1 = cc in absurd (omega arith)))))))))))))))) t e
