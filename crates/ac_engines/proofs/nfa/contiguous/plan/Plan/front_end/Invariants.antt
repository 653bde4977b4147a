use Rattle.ac_util.proofs.Prelude.{◌≡◌, ◌+◌, ◌*◌, ◌≤◌, List, None, true}
use Rattle.ac_engines.specs.Prelude.{GREATEST, Node, before, MayPack, size_of}
use Rattle.ac_engines.proofs.nfa.contiguous.plan.Plan.front_end.Given as goal

-- the sizes of those states so far are summed that have matches
abbrev pub invariant-loop-state : goal.invariant-loop-state
invariant-loop-state g l = record {
  front : (nodes : List Node) → MayPack l.self nodes
      → l.end ≡ size_of l.self nodes None + before l.self nodes true l.state;
  room : l.end ≤ (l.state + 1) * (GREATEST + 260);
}
