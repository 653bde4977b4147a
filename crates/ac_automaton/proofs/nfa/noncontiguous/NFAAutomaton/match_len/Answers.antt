use Rattle.ac_util.proofs.Prelude.{ℕ, length, ap, sym, ◌∙◌, arith, common_steps}
use Rattle.ac_automaton.proofs.TrieStates.{has-state, listed-matches, meaning}
use Rattle.ac_automaton.proofs.nfa.noncontiguous.NFAAutomaton.match_len.Goals as goal

pub listed_len-requires : goal.listed_len-requires
listed_len-requires g c = grind (arith, common_steps, meaning c.args.self.now c.args.sid (c.requires.state.1).0 (c.requires.state.1).1, has-state c.args.self.now c.args.sid (c.requires.state.1).0 (c.requires.state.1).1)

pub returns : goal.returns
returns g c =
    let stands = c.requires.state.1 in
    c.listed_len.ensures (meaning c.args.self.now c.args.sid stands.0 stands.1) stands.0
    (rw c.states.ensures.value (has-state c.args.self.now c.args.sid stands.0 stands.1))
    ∙ ap (length {A = ℕ}) (sym (listed-matches c.args.self.now c.args.sid stands.0 stands.1))
