use Rattle.std.proofs.Common.{arith, rules}
use Rattle.std.proofs.lemmas.Grind.{common_steps}
use Rattle.std.proofs.lemmas.Str.{IsCharBoundary-start}
use Rattle.examples.proofs.Tokenizing.{goes-on}
use Rattle.examples.proofs.callers.tokenizer.Tokenizer.tokens.Goals as goal

-- no match was taken
pub loop-m-init : goal.loop-m-init
loop-m-init c =
    record {
      covers = search rules;
      words = grind (arith, common_steps);
      apart = search (rules, c.matches_stand_apart.ensures);
      between = search (rules, c.answers_cut_no_character.ensures.walk);
      boundary = IsCharBoundary-start c.args.text.now c.utf8.text;
    }

-- the gap and the match were added
pub loop-m-preserved : goal.loop-m-preserved
loop-m-preserved c =
    goes-on c.loop-m.m-iterator.rest c.next.new.self.rest c.in-Some.m c.as_usize.result c.start.result
    c.start-in-loop-m.result c.end.result c.end-end.result c.push.new.tokens.items c.push-in-loop-m.new.tokens.items
    c.loop-m.invariant (search rules) (search rules) (search rules) (search rules) (search rules) (search rules)
    c.in_ok-push.ensures c.in_ok-push-2.ensures
