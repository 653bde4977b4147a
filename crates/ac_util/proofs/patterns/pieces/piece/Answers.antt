use Rattle.ac_util.proofs.Prelude.{rules}
use Rattle.ac_util.proofs.PiecesLemmas.{bounds-rise, piece-at}
use Rattle.ac_util.proofs.patterns.pieces.piece.Goals as goal

-- the piece lies within the items
pub offset_bounds-items-start : goal.offset_bounds-items-start
offset_bounds-items-start g c = search (rules, bounds-rise)

pub slice_bounds-result-count : goal.slice_bounds-result-count
slice_bounds-result-count g c = search (rules, bounds-rise)

pub slice_bounds-result-start : goal.slice_bounds-result-start
slice_bounds-result-start g c = search (rules, bounds-rise)

pub slice_bounds-result-end : goal.slice_bounds-result-end
slice_bounds-result-end g c = search (rules, bounds-rise)

pub returns : goal.returns
returns g c = search (rules, piece-at)
