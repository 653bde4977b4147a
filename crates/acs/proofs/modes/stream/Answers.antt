use Rattle.std.proofs.Common.{rules}
use Rattle.acs.proofs.ModeEnds.{stream-printed}
use Rattle.acs.proofs.modes.stream.Goals as goal

-- the lines were printed, or a read or a write has failed
pub returns : goal.returns
returns g c = search (rules, stream-printed)
