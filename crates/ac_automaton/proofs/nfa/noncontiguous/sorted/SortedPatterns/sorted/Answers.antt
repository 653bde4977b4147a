-- The sort by the comparison puts the listed patterns in order.
use Rattle.ac_util.proofs.Prelude.{◌≤◌, length, refl, rules, arith}
use Rattle.ac_automaton.specs.Prelude.{GREATEST}
use Rattle.std.proofs.lemmas.List.Sorted.{All-permutation}
use Rattle.ac_automaton.proofs.Sorting.{IsOrder-from_sorted, IsSortedBy-from_calls}
use Rattle.ac_automaton.proofs.nfa.noncontiguous.sorted.SortedPatterns.sorted.Goals as goal

pub invariant_of-result : goal.invariant_of-result
invariant_of-result g c =
    let was = c.in_ok-patterns.ensures in
    let listed = c.in_ok-patterns.patterns.items in
    let sorted = c.sort_unstable_by.new.self.items in
    let moved = c.sort_unstable_by.ensures.permutation in record {
      few = omega (arith, was.few, c.sort_unstable_by.ensures.len);
      short = All-permutation (λ m. length m.bytes.now ≤ GREATEST) listed sorted moved was.short;
      numbered = All-permutation (λ m. m.number ≤ GREATEST) listed sorted moved was.numbered;
    }

pub returns : goal.returns
returns g c =
    let listed = c.in_ok-patterns.patterns.items in
    let sorted = c.sort_unstable_by.new.self.items in
    record {
      fold_is = refl;
      order = IsOrder-from_sorted c.args.ignores_case c.args.patterns.now listed c.in_ok-patterns.ensures.listed sorted
          c.sort_unstable_by.ensures.permutation c.in_ok-patterns.ensures.heads
          (IsSortedBy-from_calls c.args.ignores_case sorted c.sort_unstable_by.ensures.sorted
          (λ a r f called. search rules));
    }
