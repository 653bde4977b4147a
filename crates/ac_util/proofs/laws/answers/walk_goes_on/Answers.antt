use Rattle.ac_util.proofs.Walks.{walk_after-None, walk_after-Some}
use Rattle.ac_util.proofs.laws.answers.walk_goes_on.Goals as goal

pub returns-clause-ends : goal.returns-clause-ends
returns-clause-ends c = walk_after-None

pub returns-clause-goes_on : goal.returns-clause-goes_on
returns-clause-goes_on c = walk_after-Some
