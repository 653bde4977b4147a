use Rattle.ac_util.proofs.Prelude.{rules}
use Rattle.ac_util.proofs.ClassLists.{singletons-from_each}
use Rattle.ac_util.proofs.alphabet.ByteClasses.singletons.Goals as goal

-- the list holds each byte as its own class
pub returns : goal.returns
returns c = search (rules, singletons-from_each)
