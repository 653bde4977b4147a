use Rattle.ac_util.proofs.Prelude.{◌≡◌, ◌<◌, ℕ, get_or}
use Rattle.ac_util.specs.Prelude.{plain_byte}
use Rattle.ac_util.proofs.plain.same_string.Given as goal

-- the strings are the same at each place before this one
abbrev pub invariant-loop-i : goal.invariant-loop-i
invariant-loop-i l =
    (k : ℕ) → k < l.i → plain_byte l.ignores_case (get_or l.left k 0) ≡ plain_byte l.ignores_case (get_or l.right k 0)
