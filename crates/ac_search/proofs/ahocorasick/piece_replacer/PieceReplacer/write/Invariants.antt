use Rattle.ac_search.specs.PieceReplacements.{steps_left}
use Rattle.ac_search.proofs.ReplacerLoops.{HasReplaced}
use Rattle.ac_search.proofs.ahocorasick.piece_replacer.PieceReplacer.write.Given as goal

-- so much was taken and written so far
abbrev pub invariant-loop-filled : goal.invariant-loop-filled
invariant-loop-filled g l = HasReplaced l.fn.self l.fn.piece.now l.fn.out l.out l.filled l.self l.piece.now

abbrev pub decreases-loop-filled : goal.decreases-loop-filled
decreases-loop-filled g l = steps_left l.self l.piece.now
