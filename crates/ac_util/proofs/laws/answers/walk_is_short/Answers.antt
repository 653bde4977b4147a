use Rattle.ac_util.proofs.Lying.{length-walk_result}
use Rattle.ac_util.proofs.laws.answers.walk_is_short.Goals as goal

pub returns : goal.returns
returns c = length-walk_result
