use Rattle.ac_util.proofs.PlainFind.{IsBestOf, IsBelow, IsReached}
use Rattle.ac_util.proofs.plain.find.Given as goal

-- of the patterns before this one the best match is kept, and of this one that of the starts before this one
abbrev pub invariant-loop-start : goal.invariant-loop-start
invariant-loop-start l = IsBestOf l.kind l.query (IsReached l.number l.start) l.best

abbrev pub invariant-loop-number : goal.invariant-loop-number
invariant-loop-number l = IsBestOf l.kind l.query (IsBelow l.number) l.best
