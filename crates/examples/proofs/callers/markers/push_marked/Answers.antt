use Rattle.std.proofs.Common.{true, false, arith}
use Rattle.std.proofs.lemmas.Grind.{common_steps}
use Rattle.examples.proofs.MarkedPairs.{pairs-more}
use Rattle.examples.proofs.callers.markers.push_marked.Goals.{then-marks-pattern+in_ok-push, else-marks-pattern}
use Rattle.examples.proofs.callers.markers.push_marked.Goals as goal

-- a pair was added for the mark, or there is no mark
pub loop-pattern-preserved : goal.loop-pattern-preserved
loop-pattern-preserved c =
    let more = pairs-more c.args.number c.args.marks.now c.loop-pattern.pattern in
    elim c.if-marks-pattern.branch [
      | then-marks-pattern+in_ok-push w ↦ grind (arith, common_steps, more true w.if-marks-pattern.true)
      | else-marks-pattern w ↦ grind (arith, common_steps, more false w.if-marks-pattern.false)
    ]
