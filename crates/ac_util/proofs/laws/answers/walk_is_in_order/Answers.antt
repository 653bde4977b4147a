use Rattle.ac_util.proofs.Walks.{walk-ordered}
use Rattle.ac_util.proofs.laws.answers.walk_is_in_order.Goals as goal

pub returns : goal.returns
returns c = walk-ordered
