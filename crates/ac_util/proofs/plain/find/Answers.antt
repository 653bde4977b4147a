use Rattle.ac_util.proofs.Prelude.{rules, false≢true}
use Rattle.ac_util.proofs.PlainFind.{pattern_of-bytes_of, start_with, start_without, numbers_tried}
use Rattle.ac_util.proofs.plain.find.Goals as goal
use Rattle.ac_util.proofs.plain.find.Goals.{then-occurs, else-occurs}

-- the start after this one: what occurs at it was compared with the best
pub loop-start-preserved : goal.loop-start-preserved
loop-start-preserved c = search (rules, else-occurs, false≢true, pattern_of-bytes_of, start_with, start_without, then-occurs)

-- all numbers were tried
pub returns : goal.returns
returns c = search (rules, numbers_tried)
