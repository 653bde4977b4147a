-- The sameness of bytes, strings and places of characters in other words.
use Rattle.ac_util.proofs.Prelude.{◌≡◌, ℕ, suc, ◌<◌, Bool, true, false, List, [], ◌∷◌, length, get_or, refl, ap, sym, ◌∙◌, arith, rules, eqb-true, eq-eqb, length-map, get_or-map, map-id}
use Rattle.ac_util.specs.Prelude.{plain_byte, same_byte, IsSame}

-- strings that are the same have one length
pub IsSame-length : (ignores_case : Bool) (s t : List ℕ) → IsSame ignores_case s t → length s ≡ length t
IsSame-length ignores_case s t h = sym (length-map s (plain_byte ignores_case)) ∙ ap length h ∙ length-map t (plain_byte ignores_case)

-- and they are the same at each place
pub IsSame-at : (ignores_case : Bool) (s t : List ℕ) → IsSame ignores_case s t → (k : ℕ) → k < length s
    → plain_byte ignores_case (get_or s k 0) ≡ plain_byte ignores_case (get_or t k 0)
IsSame-at ignores_case s t h k within =
    let l = IsSame-length ignores_case s t h in
    sym (get_or-map (plain_byte ignores_case) s k 0 0 within)
    ∙ ap (λ (zs : List ℕ). get_or zs k 0) h
    ∙ get_or-map (plain_byte ignores_case) t k 0 0 (omega arith)

-- and the other way round
pub IsSame-from_places : (ignores_case : Bool) (s t : List ℕ) → length s ≡ length t
    → ((k : ℕ) → k < length s → plain_byte ignores_case (get_or s k 0) ≡ plain_byte ignores_case (get_or t k 0))
    → IsSame ignores_case s t
IsSame-from_places ignores_case [] [] l each = refl
IsSame-from_places ignores_case [] (y ∷ t) l each = absurd (omega arith)
IsSame-from_places ignores_case (x ∷ s) [] l each = absurd (omega arith)
IsSame-from_places ignores_case (x ∷ s) (y ∷ t) l each =
    let first = each 0 (omega arith) in
    let rest = IsSame-from_places ignores_case s t (omega arith) (λ k h. each (suc k) (omega arith)) in
    λ i. first i ∷ rest i

-- the same in the words of the test
pub IsSame-tested : (ignores_case : Bool) (s t : List ℕ) → IsSame ignores_case s t → (k : ℕ) → k < length s
    → same_byte ignores_case (get_or s k 0) (get_or t k 0) ≡ true
IsSame-tested ignores_case s t h k within = search (rules, IsSame-at, eq-eqb)

-- and back
pub IsSame-from_tests : (ignores_case : Bool) (s t : List ℕ) → length s ≡ length t
    → ((k : ℕ) → k < length s → same_byte ignores_case (get_or s k 0) (get_or t k 0) ≡ true) → IsSame ignores_case s t
IsSame-from_tests ignores_case s t l each = search (rules, IsSame-from_places, eqb-true)

-- where case counts, strings that are the same are equal
pub IsSame-equal : (s t : List ℕ) → IsSame false s t → s ≡ t
IsSame-equal s t h = sym (map-id s) ∙ h ∙ map-id t
