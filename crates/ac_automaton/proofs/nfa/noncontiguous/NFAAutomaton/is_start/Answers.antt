use Rattle.ac_util.proofs.Prelude.{arith, ltb-true, Decides-ltb}
use Rattle.ac_automaton.specs.Prelude.{FIRST_INNER}
use Rattle.ac_automaton.proofs.TrieStates.{start-number}
use Rattle.ac_automaton.proofs.nfa.noncontiguous.NFAAutomaton.is_start.Goals as goal

pub returns-then-as_usize-ge-START : goal.returns-then-as_usize-ge-START
returns-then-as_usize-ge-START g c = λ anchored u h.
    let start = start-number h.is_trie.states c.args.sid u h.named in
    rw c.as_usize-then-as_usize-ge-START.ensures.value (
      (λ below. start.0 (omega arith, ltb-true c.args.sid FIRST_INNER below)),
      (λ empty. (Decides-ltb c.args.sid FIRST_INNER).1 (start.1 empty).1),
    )
