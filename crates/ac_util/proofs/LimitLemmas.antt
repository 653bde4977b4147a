-- A list of patterns that isn't refused is within the limits, and one that is too long is found by going along
-- the list.
use Rattle.ac_util.proofs.Prelude.{◌≡◌, ℕ, zero, suc, ◌+◌, ◌<◌, ◌≤◌, List, [], ◌∷◌, length, drop, get_or, refl, arith, Option, Some, None, All, slice_get, MatchOption, Result, Ok, Err, rules, slice_get_cases, ltb-false, All-cons, All-nil, common_steps}
use Rattle.ac_util.specs.Prelude.{GREATEST, IsWithinLimits, limit_refusal, PatternTooLong, too_long_from}

-- one pattern further on
pub too_long-next : (number : ℕ) (ps : List (List ℕ)) (i j : ℕ) → j ≡ suc i → i < length ps
    → length (get_or ps i []) ≤ GREATEST
    → too_long_from number (drop i ps) ≡ too_long_from (number + 1) (drop j ps)
too_long-next number [] i j next within short = absurd (omega arith)
too_long-next number (p ∷ ps) i zero next within short = absurd (omega arith)
too_long-next number (p ∷ ps) zero (suc zero) next within short = grind (arith, common_steps)
too_long-next number (p ∷ ps) zero (suc (suc j)) next within short = absurd (omega arith)
too_long-next number (p ∷ ps) (suc i) (suc j) next within short = grind (arith, common_steps)

-- the pattern here is too long
pub too_long-here : (number : ℕ) (ps : List (List ℕ)) (i : ℕ) → i < length ps
    → GREATEST < length (get_or ps i [])
    → too_long_from number (drop i ps) ≡ Some (PatternTooLong number (length (get_or ps i [])))
too_long-here number [] i within long = absurd (omega arith)
too_long-here number (p ∷ ps) zero within long = grind (arith, common_steps)
too_long-here number (p ∷ ps) (suc i) within long = too_long-here number ps i (omega arith) long

-- where none is said to be too long, none is
all_short : (number : ℕ) (ps : List (List ℕ)) → too_long_from number ps ≡ None
    → All (λ p. length p ≤ GREATEST) ps
all_short number [] none = All-nil (λ p. length p ≤ GREATEST)
all_short number (p ∷ ps) none = search (rules, All-cons, ltb-false, all_short (number + 1) ps)

-- a list that isn't refused is within the limits
pub limits-from_refusal : (ps : List (List ℕ)) → limit_refusal ps ≡ None → IsWithinLimits ps
limits-from_refusal ps none = search (rules, all_short, ltb-false)

-- what holds of all holds of the one at a place
pub All-slice_get : {X : Type 0} (P : X → Type 0) (xs : List X) (i : ℕ) (x : X) → All P xs
    → slice_get xs i ≡ Some x → P x
All-slice_get {X} P xs i x all e = search (rules, slice_get_cases)

-- what is answered by Ok isn't refused
pub not_refused : {X E : Type 0} (o : Option E) (P : Type 0) (x : X)
    → MatchOption o P (λ e. ◌≡◌ {A = Result X E} (Ok x) (Err e)) → o ≡ None
not_refused None P x h = refl
not_refused (Some e) P x h = absurd (cc)
