-- The patterns below the number are listed.
use Rattle.ac_util.proofs.Prelude.{◌≡◌, ◌≤◌, length, map, take, All, range_with_len}
use Rattle.ac_automaton.specs.Prelude.{GREATEST, IsHead, plain}
use Rattle.ac_automaton.proofs.nfa.noncontiguous.sorted.listed.Given as goal

abbrev pub invariant-loop-number : goal.invariant-loop-number
invariant-loop-number g l = record {
  bytes : map (λ m. m.bytes.now) l.listed.items ≡ take l.number l.patterns;
  numbers : map (λ m. m.number) l.listed.items ≡ range_with_len 0 l.number;
  heads : All (λ m. IsHead m.head (plain l.ignores_case m.bytes.now)) l.listed.items;
  short : All (λ m. length m.bytes.now ≤ GREATEST) l.listed.items;
  numbered : All (λ m. m.number ≤ GREATEST) l.listed.items;
}
