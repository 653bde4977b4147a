use Rattle.ac_util.proofs.Prelude.{◌≡◌, same_from_all_zip}
use Rattle.ac_automaton.proofs.nfa.noncontiguous.NFAClone.clone.Given.{Over}
use Rattle.ac_automaton.proofs.nfa.noncontiguous.NFAClone.clone.Goals as goal
use Rattle.ac_automaton.proofs.nfa.noncontiguous.NFAClone.clone.Goals.{In_ok-clone-4}

-- the lists of the copy are those of the automaton
module _ (g : Over) (c : In_ok-clone-4 g) where
  order : c.in_ok-clone-2.field-0.order.items ≡ c.self.inside.lists.order.items
  order = same_from_all_zip _ c.self.inside.lists.order.items c.in_ok-clone-2.field-0.order.items
      c.in_ok-clone-2.ensures.cases.0.0 (λ x y same. cc)

  transitions : c.in_ok-clone-2.field-0.transitions.items ≡ c.self.inside.lists.transitions.items
  transitions = same_from_all_zip _ c.self.inside.lists.transitions.items
      c.in_ok-clone-2.field-0.transitions.items c.in_ok-clone-2.ensures.cases.1.0.0 (λ x y same. cc)

  states : c.in_ok-clone-2.field-0.states.items ≡ c.self.inside.lists.states.items
  states = same_from_all_zip _ c.self.inside.lists.states.items c.in_ok-clone-2.field-0.states.items
      c.in_ok-clone-2.ensures.cases.1.1.0 (λ x y same. cc)

  root : c.in_ok-clone-3.field-0.items ≡ c.self.inside.root.items
  root = same_from_all_zip _ c.self.inside.root.items c.in_ok-clone-3.field-0.items c.in_ok-clone-3.ensures.cases.0
      (λ x y same. cc)

pub invariant_of-result : goal.invariant_of-result
invariant_of-result g c =
    rw (c.in_ok-clone.ensures.cases, order g c, transitions g c, states g c, root g c, c.in_ok-clone-4.ensures.cases) c.self.invariant

pub returns : goal.returns
returns g c =
    record { cases = rw (c.in_ok-clone.ensures.cases, order g c, transitions g c, states g c) c.self.view_is }
