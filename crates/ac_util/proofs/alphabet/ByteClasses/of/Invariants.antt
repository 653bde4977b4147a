use Rattle.ac_util.proofs.Prelude.{◌≡◌, ℕ, ◌+◌, ◌<◌, length, get_or}
use Rattle.ac_util.specs.Prelude.{class_of}
use Rattle.ac_util.proofs.alphabet.ByteClasses.of.Given as goal

-- the classes of the bytes so far stand in the list, and the last of them is at hand
abbrev pub invariant-loop-byte : goal.invariant-loop-byte
invariant-loop-byte g l = record {
  whole : length l.classes ≡ 256;
  last : l.class ≡ class_of l.ignores_case l.patterns l.byte;
  each : (b : ℕ) → b < l.byte + 1 → get_or l.classes b 0 ≡ class_of l.ignores_case l.patterns b;
}
