use Rattle.ac_util.proofs.Prelude.{rules}
use Rattle.ac_util.proofs.ClassLists.{class_at-below}
use Rattle.ac_util.proofs.alphabet.ByteClasses.get.Goals as goal

-- the class of the byte is one of the classes
pub returns-clause-small : goal.returns-clause-small
returns-clause-small c = search (rules, class_at-below)
