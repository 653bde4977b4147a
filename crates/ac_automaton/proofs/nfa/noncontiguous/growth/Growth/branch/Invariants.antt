use Rattle.ac_util.proofs.Prelude.{◌≡◌, ◌-◌}
use Rattle.ac_automaton.specs.Prelude.{source_of}
use Rattle.ac_automaton.proofs.Branching.{IsBranchingFrom}
use Rattle.ac_automaton.proofs.nfa.noncontiguous.growth.Growth.branch.Given as goal

-- the children of the patterns up to the place have come
abbrev pub invariant-loop-place : goal.invariant-loop-place
invariant-loop-place g l = record {
  kept : source_of l.self ≡ source_of l.fn.self;
  branching : IsBranchingFrom (source_of l.self) l.fn.self.transitions.items l.fn.self.queue.items l.queued
      l.patterns_end l.place l.self.transitions.items l.self.queue.items;
}

abbrev pub decreases-loop-place : goal.decreases-loop-place
decreases-loop-place g l = l.to - l.place
