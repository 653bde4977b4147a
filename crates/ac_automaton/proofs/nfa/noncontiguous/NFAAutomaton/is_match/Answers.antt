use Rattle.ac_util.proofs.Prelude.{arith, Decides-ltb, Decides-eqb, Decides-not, common_steps}
use Rattle.ac_automaton.specs.Prelude.{DEAD}
use Rattle.ac_automaton.proofs.TrieStates.{listed-patterns, listed-linked}
use Rattle.ac_automaton.proofs.nfa.noncontiguous.NFAAutomaton.is_match.Goals as goal

pub returns-then-state : goal.returns-then-state
returns-then-state g c = grind (arith, common_steps, listed-patterns c.args.self.now c.args.sid (c.requires.state.1).0 (c.requires.state.1).1 (c.index-states-as_usize.result) (rw (c.as_usize.ensures.value, c.states.ensures.value) at c.index-states-as_usize.is) c.if-state.true, Decides-ltb (c.index-states-as_usize.result).patterns (c.index-states-as_usize.result).patterns_end)

pub returns-else-state : goal.returns-else-state
returns-else-state g c = grind (arith, common_steps, listed-linked c.args.self.now c.args.sid (c.requires.state.1).0 (c.requires.state.1).1 (c.index-states-as_usize.result) (rw (c.as_usize.ensures.value, c.states.ensures.value) at c.index-states-as_usize.is) c.if-state.false, Decides-not _ (Decides-eqb (c.index-states-as_usize.result).output_link DEAD), Decides-eqb (c.index-states-as_usize.result).output_link DEAD)
