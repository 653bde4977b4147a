use Rattle.ac_util.proofs.Prelude.{arith, length}
use Rattle.ac_automaton.specs.Util.{exchanged, whole_input}
use Rattle.ac_util.specs.Replacement.{is_whole}
use Rattle.ac_search.proofs.InOrder.{filtered, leaves-whole, walk-stands}
use Rattle.ac_search.proofs.laws.matches_and_gaps_make_the_whole.Goals as goal

pub returns-clause-bytes : goal.returns-clause-bytes
returns-clause-bytes c built bytes = leaves-whole bytes _ (walk-stands built (whole_input bytes) (omega arith))

pub returns-clause-text : goal.returns-clause-text
returns-clause-text c built text =
    leaves-whole text _ (filtered (is_whole text) 0 (length text) (exchanged built text)
    (walk-stands built (whole_input text) (omega arith)))

pub returns-clause-stream : goal.returns-clause-stream
returns-clause-stream c built bytes = leaves-whole bytes _ (walk-stands built (whole_input bytes) (omega arith))
