use Rattle.ac_util.proofs.Prelude.{◌≡◌, map, take}
use Rattle.ac_util.proofs.patterns.Patterns.new.Given as goal

-- what was copied is the patterns so far
abbrev pub invariant-loop-pattern : goal.invariant-loop-pattern
invariant-loop-pattern g l = l.pieces ≡ take l.pattern-index (map (λ p. p.now) l.patterns)
