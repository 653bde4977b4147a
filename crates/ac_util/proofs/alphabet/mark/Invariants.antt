use Rattle.ac_util.proofs.Prelude.{◌≡◌, ℕ, ◌||◌, false, length, take, get_or, list_any}
use Rattle.ac_util.specs.Prelude.{plain_byte, same_byte}
use Rattle.ac_util.proofs.alphabet.mark.Given as goal

-- the bytes of the pattern so far are marked too
abbrev pub invariant-loop-byte : goal.invariant-loop-byte
invariant-loop-byte l = record {
  whole : length l.marks ≡ 256;
  marked : (b : ℕ) → get_or l.marks (plain_byte l.ignores_case b) false
      ≡ (get_or l.fn.marks (plain_byte l.ignores_case b) false
      || list_any (same_byte l.ignores_case b) (take l.byte-index l.pattern));
}
