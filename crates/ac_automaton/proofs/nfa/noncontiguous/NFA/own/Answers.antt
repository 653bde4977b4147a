use Rattle.ac_util.proofs.Prelude.{◌+◌, Some, ap, arith, length, refl, slice_get_read}
use Rattle.ac_automaton.specs.Prelude.{Transition}
use Rattle.ac_automaton.proofs.Reading.{IsPlace, own-place, own-read, reads}
use Rattle.ac_automaton.proofs.nfa.noncontiguous.NFA.own.Given.{Over}
use Rattle.ac_automaton.proofs.nfa.noncontiguous.NFA.own.Goals as goal
use Rattle.ac_automaton.proofs.nfa.noncontiguous.NFA.own.Goals.{After-index-states-as_usize}

-- the place is one among the transitions of the state that was read
place : (g : Over) (c : After-index-states-as_usize g)
    → IsPlace c.args.self.now c.index-states-as_usize.result c.args.index
place g c =
    own-place c.args.self.now c.args.sid c.args.index c.requires.within c.index-states-as_usize.result
    (rw (c.as_usize.ensures.value, c.states.ensures.value) at c.index-states-as_usize.is)

pub overflow_add-next : goal.overflow_add-next
overflow_add-next g c =
    let at = place g (goal.at.overflow_add-next g c).After-index-states-as_usize in
    omega (arith, at.listed, ap (length {A = Transition}) c.transitions.ensures, c.transitions.type_inv)

pub offset_bounds-transitions-state : goal.offset_bounds-transitions-state
offset_bounds-transitions-state g c =
    let at = place g (goal.at.offset_bounds-transitions-state g c).After-index-states-as_usize in
    omega (arith, at.listed, ap (length {A = Transition}) c.transitions.ensures, c.transitions.type_inv)

pub bounds-transitions-state : goal.bounds-transitions-state
bounds-transitions-state g c =
    let at = place g (goal.at.bounds-transitions-state g c).After-index-states-as_usize in
    omega (arith, at.listed, ap (length {A = Transition}) c.transitions.ensures)

pub returns : goal.returns
returns g c = λ nodes w h named.
    let trie = c.args.self.now in
    let t = c.index-states-as_usize.result in
    let next = c.index-transitions-state.result in
    let at = place g (goal.at.returns g c).After-index-states-as_usize in
    own-read trie nodes c.args.sid w t
    (reads trie nodes h.is_trie c.args.sid (Some w) named t
    (rw (c.as_usize.ensures.value, c.states.ensures.value) at c.index-states-as_usize.is))
    c.args.index at.among next
    (slice_get_read trie.transitions (length trie.transitions) (t.transitions + c.args.index) next refl at.listed
    (rw c.transitions.ensures at c.index-transitions-state.is))
