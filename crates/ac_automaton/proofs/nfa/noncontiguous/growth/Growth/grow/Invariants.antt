use Rattle.ac_util.proofs.Prelude.{◌≡◌, ◌-◌, ◌+◌}
use Rattle.ac_automaton.specs.Prelude.{GREATEST}
use Rattle.ac_automaton.proofs.WholeTries.{IsGoingFrom}
use Rattle.ac_automaton.proofs.nfa.noncontiguous.growth.Growth.grow.Given as goal

-- the states of the queue up to the place are complete
abbrev pub invariant-loop-at : goal.invariant-loop-at
invariant-loop-at g l = record {
  kind : l.self.kind ≡ l.fn.self.kind;
  sorted : l.self.sorted ≡ l.fn.self.sorted;
  going : IsGoingFrom l.self.kind l.self.sorted l.self.states.items l.self.transitions.items l.self.queue.items
      l.at;
}

abbrev pub decreases-loop-at : goal.decreases-loop-at
decreases-loop-at g l = GREATEST + 1 - l.at
