use Rattle.ac_util.proofs.Prelude.{◌≡◌, ℕ, ◌<◌, length, get_or}
use Rattle.ac_util.proofs.alphabet.ByteClasses.singletons.Given as goal

-- the bytes so far have classes of their own
abbrev pub invariant-loop-byte : goal.invariant-loop-byte
invariant-loop-byte l = record {
  whole : length l.classes ≡ 256;
  own : (b : ℕ) → b < l.byte → get_or l.classes b 0 ≡ b;
}
