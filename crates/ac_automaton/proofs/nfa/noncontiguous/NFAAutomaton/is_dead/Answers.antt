use Rattle.ac_util.proofs.Prelude.{ltb-true, Decides-ltb}
use Rattle.ac_automaton.specs.Prelude.{START}
use Rattle.ac_automaton.proofs.TrieStates.{dead-number}
use Rattle.ac_automaton.proofs.nfa.noncontiguous.NFAAutomaton.is_dead.Goals as goal

pub returns : goal.returns
returns g c = λ anchored u h.
    let dead = dead-number h.is_trie.states c.args.sid u h.named in
    rw c.as_usize.ensures.value (
      (λ below. dead.0 (ltb-true c.args.sid START below)),
      (λ none. (Decides-ltb c.args.sid START).1 (dead.1 none)),
    )
