use Rattle.ac_automaton.proofs.WalkRuns.{goes_on-runs}
use Rattle.ac_automaton.proofs.automaton.Automaton.try_find_iter.Goals as goal

pub returns-clause-runs : goal.returns-clause-runs
returns-clause-runs g c = goes_on-runs
