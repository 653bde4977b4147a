-- The lists of patterns whose walks read each byte once.
use Rattle.ac_util.proofs.Prelude.{◌≡◌, ℕ, ◌<◌, true, length, arith, and_parts, ltb-true, length-map}
use Rattle.ac_automaton.specs.Prelude.{Built, is_leftmost, pattern_of, plain, shortest_len, plain_of, reads_on}
use Rattle.ac_util.proofs.Shortest.{shortest-least}
use Rattle.ac_automaton.proofs.Heads.{plain_length}

-- a walk that reads each byte once is a leftmost one
pub on-leftmost : (built : Built) → reads_on built ≡ true → is_leftmost built.kind ≡ true
on-leftmost built on = (and_parts (is_leftmost built.kind) _ on).0

-- of patterns none of which is empty
pub on-some : (built : Built) → reads_on built ≡ true → (n : ℕ) → n < length (plain_of built)
    → 0 < length (pattern_of (plain_of built) n)
on-some built on n within =
    let some = ltb-true 0 (shortest_len built.patterns) (and_parts (is_leftmost built.kind) _ on).1 in
    let all = length-map built.patterns (plain built.ignores_case) in
    let least = shortest-least built.patterns n (omega arith) in
    let long = plain_length built n in
    omega arith
