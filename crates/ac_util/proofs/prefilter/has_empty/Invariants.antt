use Rattle.ac_util.proofs.Prelude.{◌≡◌, false, take, list_any}
use Rattle.ac_util.specs.Prelude.{is_empty}
use Rattle.ac_util.proofs.prefilter.has_empty.Given as goal

-- none of the patterns so far is empty
abbrev pub invariant-loop-number : goal.invariant-loop-number
invariant-loop-number g l = list_any is_empty (take l.number l.patterns) ≡ false
