-- One more place is compared.
use Rattle.ac_util.proofs.Prelude.{rules}
use Rattle.ac_automaton.proofs.Prefixes.{starts_with-differs, starts_with-agrees}
use Rattle.ac_automaton.proofs.nfa.noncontiguous.sorted.begins_with.Goals as goal

pub returns-then-plain_byte : goal.returns-then-plain_byte
returns-then-plain_byte c = search (rules, starts_with-differs)

pub loop-at-preserved : goal.loop-at-preserved
loop-at-preserved c = search (rules, starts_with-agrees)
