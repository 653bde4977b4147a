use Rattle.ac_util.proofs.Prelude.{◌≡◌, ℕ, ◌-◌, List, [], ◌++◌, length, take, drop, ap, ◌∙◌, subst, rules, arith, IsPermutation, append-nil, common_steps}
use Rattle.ac_automaton.specs.Prelude.{Transition}
use Rattle.std.proofs.lemmas.Fn.{always_returns_same}
use Rattle.ac_automaton.proofs.nfa.noncontiguous.growth.sort_from.Goals as goal

-- all from a place on are as many as there are after it, and nothing is after them
whole : (first : ℕ) (old : List Transition) → take (length old - first) (drop first old) ≡ drop first old
whole first old = grind (arith, common_steps)

none_behind : (first : ℕ) (old : List Transition) → drop (length old - first) (drop first old) ≡ []
none_behind first old = grind (arith, common_steps)

pub returns : goal.returns
returns c =
    let old = c.args.transitions.now in
    let first = c.args.first in
    let new = c.sort_unstable_by_key.new.self in
    record {
      sorted = new;
      split = ap (λ (rest : List Transition). take first old ++ (new ++ rest)) (none_behind first old)
          ∙ ap (λ (rest : List Transition). take first old ++ rest) (append-nil new);
      permutation = subst (λ (xs : List Transition). IsPermutation xs new)
          (whole first old) c.sort_unstable_by_key.ensures.permutation;
      order = c.sort_unstable_by_key.ensures.sorted (λ (t : Transition). t.byte)
          (always_returns_same _ _ _ (λ a r f called. search rules));
    }
