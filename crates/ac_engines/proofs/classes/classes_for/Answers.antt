use Rattle.ac_util.proofs.Prelude.{rules}
use Rattle.ac_util.proofs.ClassLists.{classes_of-set_apart, singletons-set_apart}
use Rattle.ac_engines.proofs.classes.classes_for.Goals as goal

pub returns-then-byte_classes-clause-apart : goal.returns-then-byte_classes-clause-apart
returns-then-byte_classes-clause-apart g c = search (rules, classes_of-set_apart)

pub returns-else-byte_classes-clause-apart : goal.returns-else-byte_classes-clause-apart
returns-else-byte_classes-clause-apart g c = search (rules, singletons-set_apart)
