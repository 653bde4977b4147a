use Rattle.ac_util.proofs.Prelude.{arith, length-drop, rules, common_steps}
use Rattle.ac_automaton.specs.Prelude.{listed_within}
use Rattle.ac_automaton.proofs.Places.{slice_get-from_drop}
use Rattle.ac_automaton.proofs.nfa.noncontiguous.NFAAutomaton.match_pattern.Goals as goal

-- a match is left where the index is one of the list
pub unreachable-requires : goal.unreachable-requires
unreachable-requires g c = grind (arith, common_steps, length-drop c.args.index (listed_within (c.args.self.now).order (c.args.self.now).states c.args.sid c.args.sid))

pub returns : goal.returns
returns g c = search (rules, slice_get-from_drop)
