use Rattle.ac_util.proofs.Prelude.{◌≡◌, drop, map}
use Rattle.ac_util.specs.Prelude.{limit_refusal, too_long_from}
use Rattle.ac_util.proofs.patterns.check_limits.Given as goal

-- what is refused is refused for a pattern from here on
abbrev pub invariant-loop-number : goal.invariant-loop-number
invariant-loop-number g l =
    limit_refusal (map g.P.AsSlice.items l.patterns)
    ≡ too_long_from l.number (drop l.number (map g.P.AsSlice.items l.patterns))
