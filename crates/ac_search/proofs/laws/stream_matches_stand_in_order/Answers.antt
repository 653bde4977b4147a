use Rattle.ac_util.proofs.Prelude.{arith}
use Rattle.ac_automaton.specs.Util.{whole_input}
use Rattle.ac_search.proofs.InOrder.{walk-apart, walk-stands}
use Rattle.ac_search.proofs.laws.stream_matches_stand_in_order.Goals as goal

pub returns-clause-in_order : goal.returns-clause-in_order
returns-clause-in_order g c bytes = walk-stands c.args.searcher.now.built (whole_input bytes) (omega arith)

pub returns-clause-apart : goal.returns-clause-apart
returns-clause-apart g c bytes some = walk-apart c.args.searcher.now.built (whole_input bytes) some (omega arith)
