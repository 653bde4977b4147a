-- The shortest and the longest of patterns: when the shortest is empty, and which lengths all of them have.
use Rattle.ac_util.proofs.Prelude.{◌≡◌, ℕ, zero, suc, ◌<◌, ◌≤◌, true, false, List, [], ◌∷◌, length, arith, ◌↔◌, ◌==◌, list_any, false≢true, cases_lt, common_steps}
use Rattle.ac_util.specs.Prelude.{longest_len, pattern_of, shortest_len}

-- the shortest is empty exactly if some pattern is
pub shortest-empty : (ps : List (List ℕ)) → (shortest_len ps ≡ 0) ↔ (list_any (λ p. length p == 0) ps ≡ true)
shortest-empty [] = ((λ e. absurd (omega arith)), (λ t. absurd (false≢true t)))
shortest-empty (p ∷ ps) = grind (arith, common_steps, cases_lt 0 (length p), shortest-empty ps)

-- no pattern is shorter than the shortest
pub shortest-least : (ps : List (List ℕ)) (n : ℕ) → n < length ps → shortest_len ps ≤ length (pattern_of ps n)
shortest-least [] n within = absurd (omega arith)
shortest-least (p ∷ ps) zero within = omega arith
shortest-least (p ∷ ps) (suc n) within = let l = shortest-least ps n (omega arith) in omega arith

-- and none is longer than the longest
pub longest-most : (ps : List (List ℕ)) (n : ℕ) → n < length ps → length (pattern_of ps n) ≤ longest_len ps
longest-most [] n within = absurd (omega arith)
longest-most (p ∷ ps) zero within = omega arith
longest-most (p ∷ ps) (suc n) within = let l = longest-most ps n (omega arith) in omega arith

-- where no pattern is empty each has a byte
pub none-empty : (ps : List (List ℕ)) (n : ℕ) → list_any (λ p. length p == 0) ps ≡ false → n < length ps
    → 0 < length (pattern_of ps n)
none-empty ps n none within = grind (arith, common_steps)
