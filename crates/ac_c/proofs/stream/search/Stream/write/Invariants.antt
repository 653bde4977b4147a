use Rattle.ac_c.specs.Streams.{feeding_by}
use Rattle.ac_c.proofs.StreamSteps.{HasWritten}
use Rattle.ac_c.proofs.stream.search.Stream.write.Given as goal

-- so many matches were written so far
abbrev pub invariant-loop-filled : goal.invariant-loop-filled
invariant-loop-filled l =
    HasWritten l.fn.self l.fn.piece.now l.fn.out l.out l.filled (feeding_by l.self-inside.search l.self-inside.ended) l.piece.now
