use Rattle.ac_util.proofs.Prelude.{rules}
use Rattle.ac_util.proofs.PiecesLemmas.{length-pieces}
use Rattle.ac_util.proofs.patterns.pieces.Pieces.len.Goals as goal

-- there is one bound more than there are pieces
pub returns : goal.returns
returns g c = search (rules, length-pieces)
