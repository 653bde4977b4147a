use Rattle.ac_util.proofs.Prelude.{rules}
use Rattle.ac_c.proofs.ListLemmas.{drop-next}
use Rattle.ac_c.proofs.overlapping.pass.Goals as goal

-- one more was passed over
pub loop-preserved : goal.loop-preserved
loop-preserved c = search (rules, drop-next)
