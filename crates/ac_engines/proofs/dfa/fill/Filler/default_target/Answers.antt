use Rattle.ac_util.proofs.Prelude.{rules, cases_lt}
use Rattle.ac_engines.proofs.Starts.{default_target-dead, default_target-start}
use Rattle.ac_engines.proofs.dfa.fill.Filler.default_target.Goals.{else-is_leftmost-via-then-is_leftmost+else-min_pattern_len-eq0, else-is_leftmost-via-else-is_leftmost}
use Rattle.ac_engines.proofs.dfa.fill.Filler.default_target.Goals as goal

-- under a leftmost kind an empty pattern ends the search at the start
pub returns-then-min_pattern_len-eq0 : goal.returns-then-min_pattern_len-eq0
returns-then-min_pattern_len-eq0 g c = search (rules, default_target-dead)

-- else it stays there
pub returns-else-is_leftmost : goal.returns-else-is_leftmost
returns-else-is_leftmost g c = search (rules, cases_lt, else-is_leftmost-via-else-is_leftmost, else-is_leftmost-via-then-is_leftmost+else-min_pattern_len-eq0, default_target-start)
