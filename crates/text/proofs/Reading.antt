-- The steps of the loop that reads pairs of digits.
use Rattle.std.proofs.Common.{◌≡◌, ℕ, zero, suc, ◌+◌, ◌*◌, ◌<◌, ◌≤◌, ◌/◌, ◌%◌, ◌==◌, Bool, true, false, List, [], ◌∷◌, ◌++◌, length, get_or, drop, Some, None, Option, sym, refl, ap, ◌∙◌, append_assoc, append-nil, arith}
use Rattle.std.specs.Bool.{then_some}
use Rattle.std.specs.Option.{option_map}
use Rattle.std.specs.Simd.{first_chunks}
use Rattle.text.specs.Text.{both, byte_value, bytes_value}

-- pair i of a text, and what follows it
pair_at : (n i : ℕ) (ds : List ℕ) → i < n → 2 * n ≤ length ds → drop (2 * i) ds ≡ get_or (get_or (first_chunks 2 n ds) i []) 0 0 ∷ get_or (get_or (first_chunks 2 n ds) i []) 1 0 ∷ drop (2 * (i + 1)) ds
pair_at zero i ds h l = absurd (omega arith)
pair_at (suc n) i [] h l = absurd (omega arith)
pair_at (suc n) i (x ∷ []) h l = absurd (omega arith)
pair_at (suc n) zero (x ∷ y ∷ more) h l = refl
pair_at (suc n) (suc i) (x ∷ y ∷ more) h l =
    let here : 2 * suc i ≡ suc (suc (2 * i)) = omega arith in
    let next : 2 * (suc i + 1) ≡ suc (suc (2 * (i + 1))) = omega arith in
    ap (λ (k : ℕ). drop k (x ∷ y ∷ more)) here
    ∙ pair_at n i more (omega arith) (omega arith)
    ∙ ap (λ (k : ℕ). get_or (get_or (first_chunks 2 n more) i []) 0 0 ∷ get_or (get_or (first_chunks 2 n more) i []) 1 0 ∷ drop k (x ∷ y ∷ more)) (sym next)

append_byte : (acc : List ℕ) (b : ℕ) (o : Option (List ℕ)) → option_map (λ bs. acc ++ bs) (both (λ x xs. x ∷ xs) (Some b) o) ≡ option_map (λ bs. (acc ++ b ∷ []) ++ bs) o
append_byte acc b None = refl
append_byte acc b (Some bs) = ap (λ (l : List ℕ). Some l) (sym (append_assoc acc (b ∷ []) bs))

-- what follows pair i, after its byte
abbrev pub after_pair : (acc : List ℕ) → Option ℕ → Option (List ℕ) → Option (List ℕ)
after_pair acc None rest = None
after_pair acc (Some b) rest = option_map (λ bs. (acc ++ b ∷ []) ++ bs) rest

append_pair : (acc : List ℕ) (o : Option ℕ) (rest : Option (List ℕ)) → option_map (λ bs. acc ++ bs) (both (λ b bs. b ∷ bs) o rest) ≡ after_pair acc o rest
append_pair acc None rest = refl
append_pair acc (Some b) rest = append_byte acc b rest

-- a pair of digits is read
pub pairs_step : (ds : List ℕ) (pairs : List (List ℕ)) (i : ℕ) (acc : List ℕ) (o : Option ℕ) → pairs ≡ first_chunks 2 (length ds / 2) ds → i < length ds / 2 → o ≡ byte_value (get_or (get_or pairs i []) 0 0) (get_or (get_or pairs i []) 1 0) → option_map (λ bs. acc ++ bs) (bytes_value (drop (2 * i) ds)) ≡ after_pair acc o (bytes_value (drop (2 * (i + 1)) ds))
pairs_step ds pairs i acc o p h e =
    let byte : List (List ℕ) → Option ℕ = λ xs. byte_value (get_or (get_or xs i []) 0 0) (get_or (get_or xs i []) 1 0) in
    let after : Option (List ℕ) = bytes_value (drop (2 * (i + 1)) ds) in
    ap (λ (xs : List ℕ). option_map (λ bs. acc ++ bs) (bytes_value xs)) (pair_at (length ds / 2) i ds h (omega arith))
    ∙ append_pair acc (byte (first_chunks 2 (length ds / 2) ds)) after
    ∙ ap (λ (q : Option ℕ). after_pair acc q after) (sym (e ∙ ap byte p))

last_pair : (acc rest : List ℕ) → length rest < 2 → option_map (λ bs. acc ++ bs) (bytes_value rest) ≡ then_some (length rest == 0) acc
last_pair acc [] h = ap (λ (l : List ℕ). Some l) (append-nil acc)
last_pair acc (x ∷ []) h = refl
last_pair acc (x ∷ y ∷ more) h = absurd (omega arith)

-- all pairs are read
pub pairs_end : (ds : List ℕ) (i : ℕ) (rest acc : List ℕ) → i ≡ length ds / 2 → rest ≡ drop (length ds / 2 * 2) ds → length rest ≡ length ds % 2 → option_map (λ bs. acc ++ bs) (bytes_value (drop (2 * i) ds)) ≡ then_some (length rest == 0) acc
pairs_end ds i rest acc all r n =
    let place : 2 * i ≡ length ds / 2 * 2 = omega arith in
    ap (λ (xs : List ℕ). option_map (λ bs. acc ++ bs) (bytes_value xs)) (ap (λ (k : ℕ). drop k ds) place ∙ sym r)
    ∙ last_pair acc rest (omega arith)

-- to map what a condition lets through is to let through what is mapped
pub option_map-then_some : {A B : Type 0} (f : A → B) (b : Bool) (x : A) → option_map f (then_some b x) ≡ then_some b (f x)
option_map-then_some f true x = refl
option_map-then_some f false x = refl
