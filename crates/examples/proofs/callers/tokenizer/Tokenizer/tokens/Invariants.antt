use Rattle.ac_search.specs.Built.{walk_result}
use Rattle.ac_search.specs.Input.{whole_input}
use Rattle.examples.proofs.Tokenizing.{Tokenizing}
use Rattle.examples.proofs.callers.tokenizer.Tokenizer.tokens.Given as goal

abbrev pub invariant-loop-m : goal.invariant-loop-m
invariant-loop-m l =
    Tokenizing l.text (walk_result l.self (whole_input l.text)) l.m-iterator.rest l.tokens.items l.end
