use Rattle.ac_util.proofs.Prelude.{sym}
use Rattle.ac_automaton.proofs.TrieStates.{has-state, meaning}
use Rattle.ac_automaton.proofs.nfa.noncontiguous.NFAAutomaton.next_state.Goals as goal

pub returns-clause-steps : goal.returns-clause-steps
returns-clause-steps g c = λ u h.
    let state = rw (sym c.slices.ensures.states) at (has-state c.args.self.now c.args.sid u h) in
    record {
      nodes = h.nodes;
      is_trie = h.is_trie;
      named =
          c.follow.ensures.steps (meaning c.args.self.now c.args.sid u h) u (sym c.slices.ensures.transitions) state;
    }

pub returns-clause-looks : goal.returns-clause-looks
returns-clause-looks g c = λ u h.
    let state = rw (sym c.slices.ensures.states) at (has-state c.args.self.now c.args.sid u h) in
    c.follow.ensures.looks (meaning c.args.self.now c.args.sid u h) u (sym c.slices.ensures.transitions) state
