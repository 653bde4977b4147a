use Rattle.ac_util.proofs.Prelude.{rules, length-replicate}
use Rattle.ac_engines.proofs.SettingTargets.{all-targets, blank-after, resized, written-after}
use Rattle.ac_engines.proofs.PushedStates.{two-pushed}
use Rattle.ac_engines.proofs.nfa.contiguous.state_fields.push_dense.Goals as goal

-- the targets stand after the head
pub returns : goal.returns
returns g c = search (rules, all-targets, blank-after, length-replicate, resized, two-pushed, written-after)
