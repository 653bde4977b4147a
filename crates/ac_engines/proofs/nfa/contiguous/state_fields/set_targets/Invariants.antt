use Rattle.ac_util.proofs.Prelude.{take}
use Rattle.ac_engines.specs.Prelude.{HasTargets}
use Rattle.ac_engines.proofs.nfa.contiguous.state_fields.set_targets.Given as goal

-- the targets so far are set
abbrev pub invariant-loop-edge : goal.invariant-loop-edge
invariant-loop-edge l = HasTargets l.fn.targets (take l.edge-index l.edges) l.targets
