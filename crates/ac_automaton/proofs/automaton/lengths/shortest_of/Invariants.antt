-- The shortest so far and that of the patterns left give the shortest of all.
use Rattle.ac_util.proofs.Prelude.{◌≡◌, ◌≤◌, drop, min}
use Rattle.ac_automaton.specs.Prelude.{shortest_len, usize_max}
use Rattle.ac_automaton.proofs.automaton.lengths.shortest_of.Given as goal

abbrev pub invariant-loop-number : goal.invariant-loop-number
invariant-loop-number g l = record {
  fits : l.shortest ≤ usize_max;
  rest : min l.shortest (shortest_len (drop l.number l.patterns)) ≡ shortest_len l.patterns;
}
