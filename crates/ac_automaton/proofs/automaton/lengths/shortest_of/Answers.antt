-- The shortest of the patterns read is counted with that of the others, which is the greatest `usize` at the
-- end.
use Rattle.ac_util.proofs.Prelude.{rules}
use Rattle.ac_automaton.proofs.Lengths.{shortest_len-drop, shortest_len-le}
use Rattle.ac_automaton.proofs.automaton.lengths.shortest_of.Goals as goal

pub loop-number-init : goal.loop-number-init
loop-number-init g c = search (rules, shortest_len-le)

pub loop-number-preserved : goal.loop-number-preserved
loop-number-preserved g c = search (rules, shortest_len-drop)
