use Rattle.ac_util.proofs.Prelude.{◌≡◌, ℕ, false, length, take, get_or, list_any}
use Rattle.ac_util.specs.Prelude.{begins_with, plain_byte}
use Rattle.ac_util.proofs.prefilter.first_marks.Given as goal

-- the first bytes of the patterns so far are marked
abbrev pub invariant-loop-number : goal.invariant-loop-number
invariant-loop-number g l = record {
  whole : length l.marks ≡ 256;
  marked : (b : ℕ) → get_or l.marks (plain_byte l.ignores_case b) false
      ≡ list_any (begins_with l.ignores_case b) (take l.number l.patterns);
}
