use Rattle.ac_util.proofs.ListingBeginning.{item-none, item-some}
use Rattle.ac_util.proofs.laws.answers.listing_goes_on.Goals as goal

pub returns-clause-ends : goal.returns-clause-ends
returns-clause-ends c = item-none

pub returns-clause-goes_on : goal.returns-clause-goes_on
returns-clause-goes_on c = item-some
