use Rattle.std.proofs.Common.{Result, Ok, Err, rules, string_bytes, MatchResult}
use Rattle.ac_search.specs.Built.{exchanged_in_text}
use Rattle.examples.proofs.callers.closures.mark.Goals as goal

-- what follows from the steps of either end
by : {X E : Type 0} {A B C : Type 0} (r : Result X E) → MatchResult r (λ x. A) (λ e. B) → (A → C) → (B → C) → C
by (Ok x) h f g = f h
by (Err e) h f g = g h

pub returns : goal.returns
returns c =
    let ms = exchanged_in_text c.args.searcher.now.built c.args.text.now in
    by c.replace_all_with.result c.replace_all_with.ensures
    (λ steps. c.text_closure_exchanges.ensures.kept c.args.text.now (λ d. string_bytes d) ms _ _ _
    (λ m slice s r t call.
    let called = call.called in let shows = call.shows in let leaves = call.leaves in search rules) steps.1)
    (λ steps. c.text_closure_exchanges.ensures.kept c.args.text.now (λ d. string_bytes d) ms _ _ _
    (λ m slice s r t call.
    let called = call.called in let shows = call.shows in let leaves = call.leaves in search rules) steps.1)
