use Rattle.ac_util.proofs.Prelude.{rules}
use Rattle.ac_automaton.proofs.Reading.{has-own, is-read, own-length, reads}
use Rattle.ac_automaton.proofs.nfa.noncontiguous.NFA.own_len.Goals as goal

pub overflow_sub-result : goal.overflow_sub-result
overflow_sub-result g c =
    let is_trie = c.states.ensures.is_trie in
    (is-read c.args.self.now is_trie.0 is_trie.1 c.args.sid c.requires.numbered c.index-states-as_usize.result
    (rw (c.as_usize.ensures.value, c.states.ensures.value) at c.index-states-as_usize.is)).represents.ordered

pub returns-clause-value : goal.returns-clause-value
returns-clause-value g c = λ nodes u h named.
    let t = c.index-states-as_usize.result in
    own-length c.args.self.now nodes c.args.sid u t
    (reads c.args.self.now nodes h.is_trie c.args.sid u named t
    (rw (c.as_usize.ensures.value, c.states.ensures.value) at c.index-states-as_usize.is))

pub returns-clause-places : goal.returns-clause-places
returns-clause-places g c = search (rules, has-own)
