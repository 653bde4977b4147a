use Rattle.ac_util.proofs.Listing.{Occurs-from_test, occurs-true}
use Rattle.ac_util.proofs.laws.answers.tests_decide.Goals as goal

pub returns-clause-occurrences : goal.returns-clause-occurrences
returns-clause-occurrences c = λ q m. (Occurs-from_test q m, occurs-true q m)
