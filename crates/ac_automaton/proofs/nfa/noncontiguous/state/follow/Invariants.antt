use Rattle.ac_util.proofs.Prelude.{◌≡◌}
use Rattle.ac_automaton.specs.Prelude.{Node, TrieView, HasState}
use Rattle.ac_automaton.proofs.Follows.{Onward}
use Rattle.ac_automaton.proofs.nfa.noncontiguous.state.follow.Given as goal

-- whatever the states mean, the walk is on the way to where the byte leads
abbrev pub invariant-loop-states : goal.invariant-loop-states
invariant-loop-states l =
    (g : TrieView) (u : Node) → g.transitions ≡ l.transitions → HasState g l.states l.fn.from u
    → Onward g l.states l.anchored l.byte u l.fn.looks l.looks l.at

abbrev pub decreases-loop-states : goal.decreases-loop-states
decreases-loop-states l = l.at
