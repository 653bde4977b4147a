use Rattle.std.proofs.Common.{[], Result, Ok, Err, rules, IfOk, MatchResult}
use Rattle.ac_search.specs.Built.{exchanged}
use Rattle.examples.proofs.callers.closures.remove.Goals as goal

-- what follows from the steps of a call that answered Ok
by : {X E : Type 0} {A C : Type 0} (B : Type 0) (r : Result X E) → MatchResult r (λ x. A) (λ e. B) → (A → C) → IfOk r (λ x. C)
by B (Ok x) h f = f h
by B (Err e) h f = tt

pub returns : goal.returns
returns c =
    by _ c.replace_all_with_bytes.result c.replace_all_with_bytes.ensures (λ steps.
    c.closure_exchanges.ensures.whole c.args.haystack.now (λ d. d.items) (λ _ _. [])
    (exchanged c.args.searcher.now.built c.args.haystack.now) _ _ (λ m slice s r t call.
    let called = call.called in let shows = call.shows in let leaves = call.leaves in search rules) steps.1)
