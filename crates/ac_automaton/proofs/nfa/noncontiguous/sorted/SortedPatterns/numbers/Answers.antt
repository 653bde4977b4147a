use Rattle.ac_util.proofs.Prelude.{common_steps, arith, rules}
use Rattle.ac_automaton.proofs.Places.{take-next}
use Rattle.ac_automaton.proofs.nfa.noncontiguous.sorted.SortedPatterns.numbers.Goals as goal

pub loop-place-preserved : goal.loop-place-preserved
loop-place-preserved g c = search (rules, take-next)

pub loop-place-smaller : goal.loop-place-smaller
loop-place-smaller g c = grind (arith, common_steps)

pub returns : goal.returns
returns g c = grind (arith, common_steps)
