use Rattle.ac_util.proofs.Prelude.{◌≡◌, ℕ, false, length, take, get_or}
use Rattle.ac_util.specs.Prelude.{plain_byte, is_in_patterns}
use Rattle.ac_util.proofs.alphabet.marks_of.Given as goal

-- the bytes of the patterns so far are marked
abbrev pub invariant-loop-number : goal.invariant-loop-number
invariant-loop-number g l = record {
  whole : length l.marks ≡ 256;
  marked : (b : ℕ) → get_or l.marks (plain_byte l.ignores_case b) false
      ≡ is_in_patterns l.ignores_case (take l.number l.patterns) b;
}
