use Rattle.ac_util.proofs.Prelude.{ap, sym, ◌∙◌}
use Rattle.ac_automaton.specs.Prelude.{State}
use Rattle.ac_automaton.proofs.Reading.{reads}
use Rattle.ac_automaton.proofs.nfa.noncontiguous.NFA.depth.Goals as goal

pub returns : goal.returns
returns g c = λ nodes u h named.
    let t = c.index-states-as_usize.result in
    ap (λ (x : State). x.depth) (sym c.index-states-as_usize.is)
    ∙ (reads c.args.self.now nodes h.is_trie c.args.sid u named t
    (rw (c.as_usize.ensures.value, c.states.ensures.value) at c.index-states-as_usize.is)).long
