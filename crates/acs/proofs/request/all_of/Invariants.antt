use Rattle.std.proofs.Common.{◌≡◌, map, take}
use Rattle.acs.proofs.request.all_of.Given as goal

abbrev pub invariant-loop-word : goal.invariant-loop-word
invariant-loop-word g l = map (λ p. p.now) l.patterns.items ≡ map (λ w. w.now) (take l.word-index l.words)
