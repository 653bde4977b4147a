-- The longest so far and that of the patterns left give the longest of all.
use Rattle.ac_util.proofs.Prelude.{◌≡◌, drop, max}
use Rattle.ac_automaton.specs.Prelude.{longest_len}
use Rattle.ac_automaton.proofs.automaton.lengths.longest_of.Given as goal

abbrev pub invariant-loop-number : goal.invariant-loop-number
invariant-loop-number g l = max l.longest (longest_len (drop l.number l.patterns)) ≡ longest_len l.patterns
