-- How many bytes of a stream may be kept back.
use Rattle.ac_util.proofs.Prelude.{◌≡◌, ◌+◌, ◌≤◌, Bool, true, ap, arith, if◌then◌else◌, common_steps}
use Rattle.ac_automaton.specs.Prelude.{Built, is_leftmost, longest_len, reserve, most_kept}

pub most-leftmost : (built : Built) → is_leftmost built.kind ≡ true → most_kept built ≡ longest_len built.patterns
most-leftmost built is = ap (λ (t : Bool). if t then longest_len built.patterns else reserve built) is

-- as many as the longest pattern has, or one fewer
pub most-few : (built : Built) → most_kept built ≤ longest_len built.patterns
most-few built = grind (arith, common_steps)

pub most-back : (built : Built) → longest_len built.patterns ≤ most_kept built + 1
most-back built = grind (arith, common_steps)
