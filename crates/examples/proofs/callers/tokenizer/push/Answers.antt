use Rattle.std.proofs.Common.{rules}
use Rattle.examples.proofs.TokenLemmas.{adds-push}
use Rattle.examples.proofs.callers.tokenizer.push.Goals as goal

pub returns : goal.returns
returns c = search (rules, adds-push)
