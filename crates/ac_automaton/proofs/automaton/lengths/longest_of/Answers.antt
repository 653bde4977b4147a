-- The longest of the patterns read is counted with that of the others.
use Rattle.ac_util.proofs.Prelude.{rules}
use Rattle.ac_automaton.proofs.Lengths.{longest_len-drop}
use Rattle.ac_automaton.proofs.automaton.lengths.longest_of.Goals as goal

pub loop-number-preserved : goal.loop-number-preserved
loop-number-preserved g c = search (rules, longest_len-drop)
