use Rattle.ac_util.proofs.Prelude.{ℕ, ◌<◌, ◌^◌}
use Rattle.ac_util.proofs.alphabet.ByteClasses.stride2.Given as goal

-- the powers of two so far are below the number of classes
abbrev pub invariant-loop-exponent : goal.invariant-loop-exponent
invariant-loop-exponent l = (k : ℕ) → k < l.exponent → 2 ^ k < l.len
