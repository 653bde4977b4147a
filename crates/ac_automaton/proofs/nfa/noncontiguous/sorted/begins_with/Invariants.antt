-- What is left of both strings begins alike if they do.
use Rattle.ac_util.proofs.Prelude.{◌≡◌, ◌≤◌, nat_eq, length, drop, starts_with}
use Rattle.ac_automaton.specs.Prelude.{plain}
use Rattle.ac_automaton.proofs.nfa.noncontiguous.sorted.begins_with.Given as goal

abbrev pub invariant-loop-at : goal.invariant-loop-at
invariant-loop-at l = record {
  long : length l.prefix ≤ length l.bytes;
  rest : starts_with nat_eq (plain l.ignores_case l.bytes) (plain l.ignores_case l.prefix)
      ≡ starts_with nat_eq (drop l.at (plain l.ignores_case l.bytes)) (drop l.at (plain l.ignores_case l.prefix));
}
