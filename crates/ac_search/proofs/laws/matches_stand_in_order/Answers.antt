use Rattle.ac_util.proofs.Prelude.{arith}
use Rattle.ac_automaton.specs.Util.{input_of}
use Rattle.ac_search.proofs.InOrder.{walk-stands}
use Rattle.ac_search.proofs.laws.matches_stand_in_order.Goals as goal

pub returns : goal.returns
returns g c = walk-stands c.args.searcher.now.built (input_of c.args.input) (omega arith)
