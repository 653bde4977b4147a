-- One more pattern is listed with its number.
use Rattle.ac_util.proofs.Prelude.{rules}
use Rattle.ac_automaton.proofs.Sorting.{All-pushed, map-push, map-range-push}
use Rattle.ac_automaton.proofs.nfa.noncontiguous.sorted.listed.Goals as goal

pub loop-number-preserved : goal.loop-number-preserved
loop-number-preserved g c = search (rules, All-pushed, map-push, map-range-push)
