use Rattle.ac_util.proofs.Prelude.{rules}
use Rattle.ac_engines.proofs.SettingTargets.{no-target, next-target}
use Rattle.ac_engines.proofs.nfa.contiguous.state_fields.set_targets.Goals as goal

-- nothing is set at first
pub loop-edge-init : goal.loop-edge-init
loop-edge-init c = no-target c.args.targets.now

-- the next target is set
pub loop-edge-preserved : goal.loop-edge-preserved
loop-edge-preserved c = search (rules, next-target)
