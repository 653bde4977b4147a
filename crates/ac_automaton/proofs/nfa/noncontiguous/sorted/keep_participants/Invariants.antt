-- Those that take part among the patterns before the place stand first.
use Rattle.ac_automaton.proofs.Keeping.{Keeps}
use Rattle.ac_automaton.proofs.nfa.noncontiguous.sorted.keep_participants.Given as goal

abbrev pub invariant-loop-at : goal.invariant-loop-at
invariant-loop-at g l = Keeps l.ignores_case l.initial.sorted.items l.sorted.items l.kept l.at l.prefixes.items
