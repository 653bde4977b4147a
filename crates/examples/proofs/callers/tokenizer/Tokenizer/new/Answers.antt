use Rattle.std.proofs.Common.{All, rules, subst}
use Rattle.std.specs.Str.{IsUtf8}
use Rattle.examples.proofs.callers.tokenizer.Tokenizer.new.Goals as goal

pub invariant_of-result : goal.invariant_of-result
invariant_of-result c =
    record {
      built = search rules;
      texts = subst (All IsUtf8) (search rules) c.in_ok-patterns.ensures.texts;
      nonempty = search (rules, c.shortest_is_empty.ensures);
    }
