use Rattle.ac_util.proofs.Prelude.{◌≡◌, take}
use Rattle.ac_automaton.specs.Prelude.{numbers}
use Rattle.ac_automaton.proofs.nfa.noncontiguous.sorted.SortedPatterns.numbers.Given as goal

abbrev pub invariant-loop-place : goal.invariant-loop-place
invariant-loop-place g l = l.order.items ≡ take l.place (numbers l.self.patterns)
