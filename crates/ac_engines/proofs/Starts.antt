-- Where the start leads.
use Rattle.ac_util.proofs.Prelude.{◌≡◌, ℕ, ◌<◌, Bool, true, false, ◌⊎◌, inl, inr, List, [], ◌∷◌, map, refl, arith, ◌&&◌, if◌then◌else◌, rules}
use Rattle.ac_engines.specs.Prelude.{begins_with_pattern, is_leftmost, MatchKind, plain, shortest_len}

-- the empty string begins with a pattern where the shortest one is empty
pub begins-shortest : (ignores_case : Bool) (patterns : List (List ℕ)) → shortest_len patterns ≡ 0
    → begins_with_pattern (map (plain ignores_case) patterns) [] ≡ true
begins-shortest ignores_case [] none = absurd (omega arith)
begins-shortest ignores_case ([] ∷ ps) none = refl
begins-shortest ignores_case ((x ∷ p) ∷ ps) none = begins-shortest ignores_case ps (omega arith)

-- and with none elsewhere
pub begins-longer : (ignores_case : Bool) (patterns : List (List ℕ)) → 0 < shortest_len patterns
    → begins_with_pattern (map (plain ignores_case) patterns) [] ≡ false
begins-longer ignores_case [] some = refl
begins-longer ignores_case ([] ∷ ps) some = absurd (omega arith)
begins-longer ignores_case ((x ∷ p) ∷ ps) some = begins-longer ignores_case ps (omega arith)

-- by a byte that doesn't lead on the start leads to the dead state where it stops there, else to itself
pub default_target-dead : (kind : MatchKind) (ignores_case : Bool) (patterns : List (List ℕ)) (start : ℕ)
    → is_leftmost kind ≡ true → shortest_len patterns ≡ 0
    → 0 ≡ (if is_leftmost kind && begins_with_pattern (map (plain ignores_case) patterns) [] then 0 else start)
default_target-dead kind ignores_case patterns start leftmost empty = rw (leftmost, begins-shortest ignores_case patterns empty) refl

pub default_target-start : (kind : MatchKind) (ignores_case : Bool) (patterns : List (List ℕ)) (start : ℕ)
    → (is_leftmost kind ≡ false) ⊎ (0 < shortest_len patterns)
    → start ≡ (if is_leftmost kind && begins_with_pattern (map (plain ignores_case) patterns) [] then 0 else start)
default_target-start kind ignores_case patterns start (inl other) = rw other refl
default_target-start kind ignores_case patterns start (inr some) = search (rules, begins-longer)
