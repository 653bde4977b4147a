use Rattle.ac_util.proofs.Prelude.{◌∷◌, Some, ap, sym, ◌∙◌, arith, slice_get, rules, common_steps}
use Rattle.ac_automaton.specs.Prelude.{State}
use Rattle.ac_automaton.proofs.Reading.{IsRead, is-read, reads}
use Rattle.ac_automaton.proofs.nfa.noncontiguous.NFA.fail.Given.{Over}
use Rattle.ac_automaton.proofs.nfa.noncontiguous.NFA.fail.Goals as goal
use Rattle.ac_automaton.proofs.nfa.noncontiguous.NFA.fail.Goals.{After-index-states-as_usize}

pub returns-clause-target : goal.returns-clause-target
returns-clause-target g c = λ nodes x u h named.
    let t = c.index-states-as_usize.result in
    ap (λ (r : State). slice_get nodes r.fail) (sym c.index-states-as_usize.is)
    ∙ (reads c.args.self.now nodes h.is_trie c.args.sid (Some (x ∷ u)) named t
    (rw (c.as_usize.ensures.value, c.states.ensures.value) at c.index-states-as_usize.is)).fails

-- the state that was read stands for some node
read : (g : Over) (c : After-index-states-as_usize g)
    → IsRead c.args.self.now c.args.sid c.index-states-as_usize.result
read g c = search (rules, is-read)

pub returns-clause-start : goal.returns-clause-start
returns-clause-start g c = grind (arith, common_steps, read g c)

pub returns-clause-back : goal.returns-clause-back
returns-clause-back g c = grind (arith, common_steps, read g c)
