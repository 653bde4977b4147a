use Rattle.ac_util.proofs.Prelude.{length-set, get_or-set_same, get_or-set_other, arith, rules, get_or-replicate, common_steps}
use Rattle.ac_util.proofs.ClassLemmas.{class-le, class-up, class-stays, class-zero}
use Rattle.ac_util.proofs.ClassLists.{classes_of-AreClasses, classes_of-from_each}
use Rattle.ac_util.proofs.alphabet.ByteClasses.of.Goals as goal
use Rattle.ac_util.proofs.alphabet.ByteClasses.of.Goals.{then-next, else-next+else-here}

-- byte 0 has class 0
pub loop-byte-init : goal.loop-byte-init
loop-byte-init g c = search (rules, class-zero, get_or-replicate)

-- a class is at most its byte
pub overflow_add-class : goal.overflow_add-class
overflow_add-class g c = search (rules, class-le)

-- the next byte's class is one more where it or this byte stands in a pattern
pub loop-byte-preserved : goal.loop-byte-preserved
loop-byte-preserved g c = grind (arith, common_steps, class-stays, class-up, else-next+else-here, get_or-set_other, get_or-set_same, length-set, then-next)

-- the list holds the class of each byte
pub returns : goal.returns
returns g c = search (rules, classes_of-from_each)

pub invariant_of-result : goal.invariant_of-result
invariant_of-result g c = search (rules, classes_of-from_each, classes_of-AreClasses c.args.ignores_case c.args.patterns.now)
