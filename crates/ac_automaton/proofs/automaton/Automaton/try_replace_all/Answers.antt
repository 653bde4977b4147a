use Rattle.ac_util.proofs.Prelude.{rules}
use Rattle.ac_util.proofs.Exchanges.{exchanged-in_order}
use Rattle.ac_automaton.proofs.automaton.Automaton.try_replace_all.Goals as goal

-- the matches of a walk are in order
pub replace_all-requires : goal.replace_all-requires
replace_all-requires g c = search (rules, exchanged-in_order)
