-- The view's numbers are those of the stored patterns.
use Rattle.ac_util.proofs.Prelude.{rules, length-map}
use Rattle.ac_automaton.proofs.Sorting.{sorted_number}
use Rattle.ac_automaton.proofs.nfa.noncontiguous.sorted.SortedPatterns.number.Goals as goal

pub returns : goal.returns
returns g c = search (rules, length-map, sorted_number)
