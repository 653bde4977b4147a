-- Transitions whose bytes ascend: how far from the first one a byte can stand, and where there is no transition by it.
use Rattle.ac_util.proofs.Prelude.{common_steps, get_or_default_zero, ◌≡◌, ℕ, zero, suc, ◌+◌, ◌<◌, ◌≤◌, List, [], ◌∷◌, length, get_or, refl, arith, rules, Contains, Some, slice_get, IsStrictlyIncreasing, cases_lt, length-map, slice_get-get_or}
use Rattle.ac_automaton.specs.Prelude.{Transition, transition_bytes}
use Rattle.std.proofs.lemmas.List.Kept.{AllPairs-from_increasing}

-- a number is at least as far above the first as it stands after it
pub rises-by : (xs : List ℕ) → IsStrictlyIncreasing xs → (k : ℕ) → k < length xs → get_or xs 0 0 + k ≤ get_or xs k 0
rises-by xs ascending zero within = omega arith
rises-by xs ascending (suc k) within = grind (arith, common_steps, rises-by xs ascending k (omega (arith, within)))

-- the byte of the transition at a place
byte-at : (xs : List Transition) (k : ℕ) (t : Transition) → get_or (transition_bytes xs) k t.byte
    ≡ (get_or xs k t).byte
byte-at [] k t = refl
byte-at (x ∷ xs) zero t = refl
byte-at (x ∷ xs) (suc k) t = byte-at xs k t

-- the byte of the transition that was read at a place
pub byte-read : (xs : List Transition) (k : ℕ) (t : Transition) → k < length xs → t ≡ get_or xs k t
    → get_or (transition_bytes xs) k 0 ≡ t.byte
byte-read xs k t within is = grind (arith, common_steps, byte-at xs k t)

-- all transitions after a place have greater bytes
abbrev pub AreGreaterAfter : List Transition → ℕ → ℕ → Type 0
AreGreaterAfter xs place byte = (k : ℕ) → place < k → k < length xs → byte < get_or (transition_bytes xs) k 0

-- none stands further after the first one than the byte is above it
pub greater-beyond : (xs : List Transition) → IsStrictlyIncreasing (transition_bytes xs) → (byte place : ℕ)
    → byte ≤ get_or (transition_bytes xs) 0 0 + place → AreGreaterAfter xs place byte
greater-beyond xs ascending byte place near k after within = search (rules, length-map, rises-by)

-- where the transition at a place has a lesser byte, and all after it have greater ones, none is by the byte
pub none-between : (xs : List Transition) → IsStrictlyIncreasing (transition_bytes xs) → (byte place : ℕ)
    → place < length xs → get_or (transition_bytes xs) place 0 < byte → AreGreaterAfter xs place byte
    → Contains (transition_bytes xs) byte → ⊥
none-between xs ascending byte place within less greater found =
    search (rules, AllPairs-from_increasing, cases_lt, get_or_default_zero, length-map)

-- the first transition has a greater byte: so none is by the byte
pub none-below : (xs : List Transition) → IsStrictlyIncreasing (transition_bytes xs) → (byte : ℕ)
    → byte < get_or (transition_bytes xs) 0 0 → Contains (transition_bytes xs) byte → ⊥
none-below xs ascending byte less found = search (rules, get_or_default_zero, rises-by)

-- the transition that was read at a place is by its byte
pub read-target : (xs : List Transition) (k : ℕ) (t : Transition) → k < length xs → t ≡ get_or xs k t
    → slice_get xs k ≡ Some t
read-target xs k t within is = search (rules, slice_get-get_or)
