-- All transitions after the place have greater bytes.
use Rattle.ac_util.proofs.Prelude.{◌<◌, length}
use Rattle.ac_automaton.proofs.Rising.{AreGreaterAfter}
use Rattle.ac_automaton.proofs.nfa.noncontiguous.state.target_among.Given as goal

abbrev pub invariant-loop-at : goal.invariant-loop-at
invariant-loop-at l = record {
  within : l.at < length l.own;
  greater : AreGreaterAfter l.own l.at l.byte;
}

abbrev pub decreases-loop-at : goal.decreases-loop-at
decreases-loop-at l = l.at
