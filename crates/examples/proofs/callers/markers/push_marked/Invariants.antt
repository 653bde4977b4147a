use Rattle.std.proofs.Common.{◌≡◌, ◌++◌}
use Rattle.examples.proofs.MarkedPairs.{pairs}
use Rattle.examples.proofs.callers.markers.push_marked.Given as goal

-- the pairs of the marks up to here were added
abbrev pub invariant-loop-pattern : goal.invariant-loop-pattern
invariant-loop-pattern l = l.found.items ≡ l.initial.found.items ++ pairs l.number l.marks l.pattern
