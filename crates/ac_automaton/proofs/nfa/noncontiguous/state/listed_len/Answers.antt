use Rattle.ac_util.proofs.Prelude.{arith, sym, ◌∙◌, rules}
use Rattle.ac_automaton.specs.Prelude.{Node, Represents}
use Rattle.ac_automaton.proofs.Follows.{represented}
use Rattle.ac_automaton.proofs.ListsOf.{counting-on, counting-end}
use Rattle.ac_automaton.proofs.nfa.noncontiguous.state.listed_len.Goals as goal
use Rattle.ac_automaton.proofs.nfa.noncontiguous.state.listed_len.Goals.{After-index-states-at}

-- what the state that was read says, by one of the meanings that there are
abbrev known_node : After-index-states-at → Node
known_node c = let r = c.requires.state in (c.loop-at.invariant.counted r.0 r.1 r.2).node

known : (c : After-index-states-at)
    → Represents c.requires.state.0 c.loop-at.at (known_node c) c.index-states-at.result
known c =
    let r = c.requires.state in
    let o = c.loop-at.invariant.counted r.0 r.1 r.2 in
    represented r.0 c.args.states.now c.loop-at.at o.node c.index-states-at.result o.state c.index-states-at.is

pub patterns_len-count-requires : goal.patterns_len-count-requires
patterns_len-count-requires c = record { ordered = (known c).patterns_ordered }

pub returns-then-at-eq-DEAD : goal.returns-then-at-eq-DEAD
returns-then-at-eq-DEAD c = λ g u h.
    rw c.patterns_len-count.ensures.value
    (counting-end g c.args.states.now u c.loop-at.at c.index-states-at.result c.index-states-at.is
    c.loop-at.count
    (c.loop-at.invariant.counted g u h) (sym c.as_usize-at-in-loop-at.ensures.value ∙ c.if-at-eq-DEAD.true))

pub loop-at-smaller : goal.loop-at-smaller
loop-at-smaller c =
    omega (arith, (known (goal.at.loop-at-smaller c).After-index-states-at).links.back)

pub loop-at-preserved : goal.loop-at-preserved
loop-at-preserved c = search (rules, counting-on, known)
