use Rattle.ac_util.proofs.Prelude.{arith}
use Rattle.ac_automaton.specs.Util.{input_of}
use Rattle.ac_search.proofs.InOrder.{walk-apart}
use Rattle.ac_search.proofs.laws.matches_stand_apart.Goals as goal

pub returns : goal.returns
returns g c = walk-apart c.args.searcher.now.built (input_of c.args.input) c.requires (omega arith)
