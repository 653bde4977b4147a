use Rattle.ac_util.proofs.Prelude.{rules}
use Rattle.ac_automaton.specs.Prelude.{Commit}
use Rattle.std.proofs.lemmas.List.Sorted.{IsNonDecreasingBy-from_sort_by_key}
use Rattle.ac_automaton.proofs.automaton.commits.Commits.new.Goals as goal

pub invariant_of-result : goal.invariant_of-result
invariant_of-result g c =
    IsNonDecreasingBy-from_sort_by_key (λ (commit : Commit). commit.state) _ c.sort_unstable_by_key.ensures.sorted
    (λ a r f called. search rules)
