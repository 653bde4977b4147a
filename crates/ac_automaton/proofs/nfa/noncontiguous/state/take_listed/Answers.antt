use Rattle.ac_util.proofs.Prelude.{◌≡◌, ◌+◌, arith, sym, subst, ◌∙◌, List, ℕ, get_or, rules}
use Rattle.ac_automaton.specs.Prelude.{Node, Represents}
use Rattle.ac_automaton.proofs.Follows.{represented}
use Rattle.ac_automaton.proofs.ListsOf.{seeking-here, seeking-on, seeking-end, seeking-back}
use Rattle.ac_automaton.proofs.nfa.noncontiguous.state.take_listed.Goals as goal
use Rattle.ac_automaton.proofs.nfa.noncontiguous.state.take_listed.Goals.{After-index-states-as_usize}

pub bounds-states-as_usize : goal.bounds-states-as_usize
bounds-states-as_usize c =
    let r = c.requires.state in
    omega (arith, (c.loop-left.invariant r.0 r.1 r.2 r.3).state.there)

-- what the state that was read says, by one of the meanings that there are
abbrev known_node : After-index-states-as_usize → Node
known_node c = let r = c.requires.state in (c.loop-left.invariant r.0 r.1 r.2 r.3).node

known : (c : After-index-states-as_usize)
    → Represents c.requires.state.0 c.loop-left.at (known_node c) c.index-states-as_usize.result
known c =
    let r = c.requires.state in
    let o = c.loop-left.invariant r.0 r.1 r.2 r.3 in
    represented r.0 c.args.states.now c.loop-left.at o.node c.index-states-as_usize.result o.state
    (rw c.as_usize.ensures.value at c.index-states-as_usize.is)

pub patterns_len-len-requires : goal.patterns_len-len-requires
patterns_len-len-requires c = record { ordered = (known c).patterns_ordered }

pub bounds-order-state : goal.bounds-order-state
bounds-order-state c = search (rules, known)

pub returns-then-left-len : goal.returns-then-left-len
returns-then-left-len c = λ g u same h.
    let t = c.index-states-as_usize.result in
    let is = rw c.as_usize.ensures.value at c.index-states-as_usize.is in
    let x = c.index-order-state.result in
    let o = c.loop-left.invariant g u same h in (
      o.node,
      o.state,
      seeking-here g c.args.states.now u c.loop-left.at t is c.args.rest.index c.loop-left.left o x (omega arith)
          (subst (λ (os : List ℕ). x ≡ get_or os (t.patterns + c.loop-left.left) x) (sym same)
          c.index-order-state.is),
    )

pub loop-left-smaller : goal.loop-left-smaller
loop-left-smaller c =
    let r = c.requires.state in
    let is = rw c.as_usize.ensures.value at c.index-states-as_usize.is in
    seeking-back r.0 c.args.states.now r.1 c.loop-left.at c.index-states-as_usize.result is c.args.rest.index
    c.loop-left.left
    (c.loop-left.invariant r.0 r.1 r.2 r.3)
    (λ last. c.if-as_usize-eq-DEAD.false (c.as_usize-in-loop-left.ensures.value ∙ last))

pub returns-then-as_usize-eq-DEAD : goal.returns-then-as_usize-eq-DEAD
returns-then-as_usize-eq-DEAD c = λ g u same h.
    let is = rw c.as_usize.ensures.value at c.index-states-as_usize.is in
    seeking-end g c.args.states.now u c.loop-left.at c.index-states-as_usize.result is c.args.rest.index
    c.loop-left.left (c.loop-left.invariant g u same h) (omega arith)
    (sym c.as_usize-in-loop-left.ensures.value ∙ c.if-as_usize-eq-DEAD.true)

pub loop-left-preserved : goal.loop-left-preserved
loop-left-preserved c = search (rules, seeking-on)
