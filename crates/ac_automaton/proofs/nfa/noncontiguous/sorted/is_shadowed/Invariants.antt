-- None of the patterns that the loop has passed is a prefix.
use Rattle.ac_util.proofs.Prelude.{◌≡◌, ◌≤◌, false, length, AllWithin}
use Rattle.ac_automaton.specs.Prelude.{is_prefix}
use Rattle.ac_automaton.proofs.nfa.noncontiguous.sorted.is_shadowed.Given as goal

abbrev pub invariant-loop-left : goal.invariant-loop-left
invariant-loop-left g l = record {
  within : l.left ≤ length l.prefixes.items;
  gone : AllWithin (λ p. is_prefix l.ignores_case l.pattern p ≡ false) l.prefixes.items l.left
      (length l.prefixes.items);
}

abbrev pub decreases-loop-left : goal.decreases-loop-left
decreases-loop-left g l = l.left
