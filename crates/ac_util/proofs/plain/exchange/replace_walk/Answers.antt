use Rattle.ac_util.proofs.Prelude.{rules}
use Rattle.ac_util.proofs.PlainReplaced.{walk-IsReplaceable, walk-EndsBy}
use Rattle.ac_util.proofs.plain.exchange.replace_walk.Goals as goal

-- a walk's matches can be exchanged
pub replaced-requires-clause-each : goal.replaced-requires-clause-each
replaced-requires-clause-each c = search (rules, walk-IsReplaceable)

-- and are in order
pub replaced-requires-clause-apart : goal.replaced-requires-clause-apart
replaced-requires-clause-apart c = search (rules, walk-EndsBy)
