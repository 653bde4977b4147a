use Rattle.ac_util.proofs.Prelude.{rules, length-map, get_or-map}
use Rattle.ac_util.proofs.LimitLemmas.{too_long-next, too_long-here}
use Rattle.ac_util.proofs.patterns.check_limits.Goals as goal

-- the pattern here is the first that is too long
pub returns-then-len-gt-MAX : goal.returns-then-len-gt-MAX
returns-then-len-gt-MAX g c = search (rules, get_or-map, length-map, too_long-here)

-- the pattern here isn't too long
pub loop-number-preserved : goal.loop-number-preserved
loop-number-preserved g c = search (rules, get_or-map, length-map, too_long-next)
