use Rattle.ac_util.proofs.Beginning.{walk-beginning}
use Rattle.ac_util.proofs.laws.answers.walk_has_beginnings.Goals as goal

pub returns : goal.returns
returns c = walk-beginning
