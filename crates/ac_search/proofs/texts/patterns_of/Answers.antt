use Rattle.ac_util.proofs.Prelude.{arith, common_steps}
use Rattle.ac_search.proofs.Words.{texts-push}
use Rattle.ac_search.proofs.texts.patterns_of.Goals as goal

-- one text more
pub loop-text-preserved : goal.loop-text-preserved
loop-text-preserved g c =
    record {
      same = grind (arith, common_steps);
      texts =
          texts-push c.loop-text.patterns.items c.push.new.self.items c.as_bytes.result c.in_ok-push.ensures.items
          c.loop-text.invariant.texts c.as_bytes.ensures.utf8;
    }
