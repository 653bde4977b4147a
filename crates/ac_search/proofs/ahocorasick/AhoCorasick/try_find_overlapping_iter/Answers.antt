use Rattle.ac_automaton.proofs.WalkRuns.{lists-runs}
use Rattle.ac_search.proofs.ahocorasick.AhoCorasick.try_find_overlapping_iter.Goals as goal

pub returns-clause-runs : goal.returns-clause-runs
returns-clause-runs g c = lists-runs

pub returns-in_err-check_start-clause-runs : goal.returns-in_err-check_start-clause-runs
returns-in_err-check_start-clause-runs g c = lists-runs
