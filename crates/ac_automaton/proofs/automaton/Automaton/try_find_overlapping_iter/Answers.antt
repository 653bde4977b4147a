use Rattle.ac_automaton.proofs.WalkRuns.{lists-runs}
use Rattle.ac_automaton.proofs.automaton.Automaton.try_find_overlapping_iter.Goals as goal

pub returns-clause-runs : goal.returns-clause-runs
returns-clause-runs g c = lists-runs
