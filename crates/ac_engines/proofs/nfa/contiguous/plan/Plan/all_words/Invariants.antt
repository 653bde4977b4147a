use Rattle.ac_util.proofs.Prelude.{◌≡◌, ◌+◌, ◌*◌, ◌≤◌, List, None, true, false}
use Rattle.ac_engines.specs.Prelude.{GREATEST, Node, before, MayPack, size_of}
use Rattle.ac_engines.proofs.nfa.contiguous.plan.Plan.all_words.Given as goal

-- the sizes of the states so far are summed
abbrev pub invariant-loop-state : goal.invariant-loop-state
invariant-loop-state g l = record {
  all : (nodes : List Node) → MayPack l.self nodes
      → l.all ≡ size_of l.self nodes None + before l.self nodes true l.state + before l.self nodes false l.state;
  room : l.all ≤ (l.state + 1) * (GREATEST + 260);
}
