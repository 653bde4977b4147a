use Rattle.ac_util.proofs.Prelude.{◌≡◌}
use Rattle.ac_automaton.specs.Prelude.{Node, TrieView, HasState}
use Rattle.ac_automaton.proofs.ListsOf.{Seeking}
use Rattle.ac_automaton.proofs.nfa.noncontiguous.state.take_listed.Given as goal

-- whatever the states mean, the matches that are left stand in the list of the state that was come to
abbrev pub invariant-loop-left : goal.invariant-loop-left
invariant-loop-left l =
    (g : TrieView) (u : Node) → g.order ≡ l.order → HasState g l.states l.fn.rest.state u
    → Seeking g l.states u l.fn.rest.index l.at l.left

abbrev pub decreases-loop-left : goal.decreases-loop-left
decreases-loop-left l = l.at
