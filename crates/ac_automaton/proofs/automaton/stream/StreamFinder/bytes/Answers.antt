use Rattle.ac_util.proofs.Prelude.{rules}
use Rattle.ac_automaton.proofs.StreamFilling.{buffer-shows}
use Rattle.ac_automaton.proofs.automaton.stream.StreamFinder.bytes.Goals as goal

pub returns : goal.returns
returns g c = search (rules, buffer-shows)
