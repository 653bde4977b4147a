-- The loop has passed only patterns with the first one's byte.
use Rattle.ac_util.proofs.Prelude.{◌-◌, ◌≡◌, ℕ, ◌<◌, ◌≤◌}
use Rattle.ac_automaton.specs.Prelude.{byte_at}
use Rattle.ac_automaton.proofs.nfa.noncontiguous.sorted.SortedPatterns.run_end.Given as goal

abbrev pub invariant-loop-at : goal.invariant-loop-at
invariant-loop-at g l = record {
  later : l.start < l.at;
  within : l.at ≤ l.end;
  same : (k : ℕ) → l.start ≤ k → k < l.at → byte_at l.self.patterns l.depth k
      ≡ byte_at l.self.patterns l.depth l.start;
}

abbrev pub decreases-loop-at : goal.decreases-loop-at
decreases-loop-at g l = l.end - l.at
