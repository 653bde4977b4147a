use Rattle.ac_util.proofs.Listing.{Contains-all, Occurs-from_all, all-sorted}
use Rattle.ac_util.proofs.laws.answers.listing_is_exact.Goals as goal

pub returns-clause-exact : goal.returns-clause-exact
returns-clause-exact c = λ q m. (Occurs-from_all q m, Contains-all q m)

pub returns-clause-in_order : goal.returns-clause-in_order
returns-clause-in_order c = all-sorted
