use Rattle.ac_util.proofs.Prelude.{◌+◌, ◌*◌, ◌≤◌}
use Rattle.ac_automaton.specs.Prelude.{Node, TrieView, HasState}
use Rattle.ac_automaton.proofs.ListsOf.{Counting}
use Rattle.ac_automaton.proofs.nfa.noncontiguous.state.listed_len.Given as goal

-- whatever the states mean, what is counted is what is listed in front; and each state adds less than 32 bits
-- hold
abbrev pub invariant-loop-at : goal.invariant-loop-at
invariant-loop-at l = record {
  counted : (g : TrieView) (u : Node) → HasState g l.states l.fn.from u → Counting g l.states u l.at l.count;
  fits : l.count + l.at * 4294967296 ≤ l.fn.from * 4294967296;
}

abbrev pub decreases-loop-at : goal.decreases-loop-at
decreases-loop-at l = l.at
