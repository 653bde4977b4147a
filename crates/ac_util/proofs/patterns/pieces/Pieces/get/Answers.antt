use Rattle.ac_util.proofs.Prelude.{rules}
use Rattle.ac_util.proofs.PiecesLemmas.{length-pieces}
use Rattle.ac_util.proofs.patterns.pieces.Pieces.get.Goals as goal

-- there is one bound more than there are pieces
pub piece-requires-clause-numbered : goal.piece-requires-clause-numbered
piece-requires-clause-numbered g c = search (rules, length-pieces)
