use Rattle.ac_util.proofs.ClassLists.{classes_of-AreClasses}
use Rattle.ac_util.proofs.laws.values.strides_have_room.Goals as goal

pub returns-clause-of_patterns : goal.returns-clause-of_patterns
returns-clause-of_patterns c = classes_of-AreClasses
