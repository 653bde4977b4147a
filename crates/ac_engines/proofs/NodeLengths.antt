-- How long the strings of nodes are.
use Rattle.ac_util.proofs.Prelude.{ℕ, zero, suc, ◌≤◌, Bool, List, [], ◌∷◌, length, map, get_or, Some, arith, nat_eq, starts_with, length-map}
use Rattle.ac_engines.specs.Prelude.{IsNode, longest_len, MatchKind, participants, pattern_of, plain, plain_byte}
use Rattle.ac_util.proofs.NodeCount.{any_passes}
use Rattle.ac_util.proofs.Prefixes.{starts_with-length}

-- no plain pattern is longer than the longest
pattern-length : (ignores_case : Bool) (patterns : List (List ℕ)) (n : ℕ)
    → length (get_or (map (plain ignores_case) patterns) n []) ≤ longest_len patterns
pattern-length ignores_case [] n = omega arith
pattern-length ignores_case (p ∷ ps) zero = omega (arith, length-map p (plain_byte ignores_case))
pattern-length ignores_case (p ∷ ps) (suc n) = omega (arith, pattern-length ignores_case ps n)

-- a node is a prefix of a pattern, and so no longer than the longest
pub node-length : (kind : MatchKind) (ignores_case : Bool) (patterns : List (List ℕ)) (w : List ℕ)
    → IsNode kind (map (plain ignores_case) patterns) (Some w) → length w ≤ longest_len patterns
node-length kind ignores_case patterns [] node = omega arith
node-length kind ignores_case patterns (x ∷ w) node =
    let plains = map (plain ignores_case) patterns in
    let (number, among, begins) =
    any_passes (λ n. starts_with nat_eq (pattern_of plains n) (x ∷ w)) (participants kind plains) node in
    let short = starts_with-length (pattern_of plains number) (x ∷ w) begins in
    omega (arith, short, pattern-length ignores_case patterns number)
