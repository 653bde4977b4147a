-- The shortest and the longest of a list of patterns, found one pattern at a time.
use Rattle.ac_util.proofs.Prelude.{◌≡◌, ℕ, ◌+◌, ◌≤◌, List, [], ◌∷◌, length, drop, min, max, Some, ap, arith, slice_get}
use Rattle.ac_automaton.specs.Prelude.{longest_len, shortest_len, usize_max}
use Rattle.ac_util.proofs.Lists.{drop-slice_get}

-- the shortest of no list of patterns passes the greatest usize
pub shortest_len-le : (ps : List (List ℕ)) → shortest_len ps ≤ usize_max
shortest_len-le [] = omega arith
shortest_len-le (p ∷ ps) = omega (arith, shortest_len-le ps)

-- the shortest so far and that of the patterns from a place on give the same as when the pattern there is
-- counted too
pub shortest_len-drop : (ps : List (List ℕ)) (i so_far : ℕ) (p : List ℕ) → slice_get ps i ≡ Some p
    → min (min so_far (length p)) (shortest_len (drop (i + 1) ps)) ≡ min so_far (shortest_len (drop i ps))
shortest_len-drop ps i so_far p at = omega (arith, ap shortest_len (drop-slice_get ps i p at))

-- the longest so far and that of the patterns from a place on give the same as when the pattern there is
-- counted too
pub longest_len-drop : (ps : List (List ℕ)) (i so_far : ℕ) (p : List ℕ) → slice_get ps i ≡ Some p
    → max (max so_far (length p)) (longest_len (drop (i + 1) ps)) ≡ max so_far (longest_len (drop i ps))
longest_len-drop ps i so_far p at = omega (arith, ap longest_len (drop-slice_get ps i p at))
