use Rattle.ac_search.proofs.StreamLoops.{begins, given-all, goes-on, stops}
use Rattle.ac_search.proofs.laws.finder_goes_on.Goals as goal

pub returns-clause-begins : goal.returns-clause-begins
returns-clause-begins c = begins

pub returns-clause-goes_on : goal.returns-clause-goes_on
returns-clause-goes_on c meets built first now later v w m underway gives = goes-on underway m gives

pub returns-clause-ends : goal.returns-clause-ends
returns-clause-ends c meets built first now later v w underway none = given-all underway none

pub returns-clause-failed : goal.returns-clause-failed
returns-clause-failed c meets built first now later v w e underway gives = stops underway e gives
