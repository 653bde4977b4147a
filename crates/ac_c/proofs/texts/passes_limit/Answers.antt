use Rattle.ac_util.proofs.Prelude.{arith, common_steps}
use Rattle.ac_c.proofs.TextLemmas.{length-texts_in}
use Rattle.ac_c.proofs.texts.passes_limit.Goals as goal

pub returns-then-ends-gt-LIMIT : goal.returns-then-ends-gt-LIMIT
returns-then-ends-gt-LIMIT c = let many = length-texts_in c.args._bytes.now 0 c.args.ends.now in grind (arith, common_steps)

pub returns : goal.returns
returns c = let few = length-texts_in c.args._bytes.now 0 c.args.ends.now in grind (arith, common_steps)
