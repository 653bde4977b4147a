use Rattle.ac_util.proofs.Prelude.{sym, arith, common_steps}
use Rattle.ac_automaton.proofs.TrieStates.{has-state, meaning, takes-listed, takes-state}
use Rattle.ac_automaton.proofs.nfa.noncontiguous.NFAAutomaton.take_match.Goals as goal

pub take_listed-requires : goal.take_listed-requires
take_listed-requires g c = grind (arith, common_steps, meaning c.args.self.now c.args.rest.state (c.requires.state.1).0 (c.requires.state.1).1, has-state c.args.self.now c.args.rest.state (c.requires.state.1).0 (c.requires.state.1).1)

pub returns-clause-taken : goal.returns-clause-taken
returns-clause-taken g c =
    let stands = c.requires.state.1 in
    takes-listed c.args.self.now c.args.rest stands.0 stands.1 c.take_listed.result
    (rw (sym c.states.ensures.value) (c.take_listed.ensures
    (meaning c.args.self.now c.args.rest.state stands.0 stands.1) stands.0 (sym c.order.ensures)
    (rw c.states.ensures.value (has-state c.args.self.now c.args.rest.state stands.0 stands.1))))

pub returns-clause-state : goal.returns-clause-state
returns-clause-state g c = λ anchored stands.
    takes-state c.args.self.now c.args.rest stands.0 stands.1 c.take_listed.result
    (rw (sym c.states.ensures.value) (c.take_listed.ensures
    (meaning c.args.self.now c.args.rest.state stands.0 stands.1) stands.0 (sym c.order.ensures)
    (rw c.states.ensures.value (has-state c.args.self.now c.args.rest.state stands.0 stands.1))))
