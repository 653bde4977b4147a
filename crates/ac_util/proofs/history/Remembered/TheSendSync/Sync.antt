-- It may be shared with another thread, since it may be sent to one.
use denote.Param.Send.{IsSync, part_keyless}
use denote.RattleType.{RattleType}
use Rattle.ac_util.specs.contracts.history.Remembered.{the_row}
use Rattle.ac_util.proofs.history.Remembered.TheSendSync.Send.{send}

pub sync : (T : RattleType) → IsSync (the_row T)
sync T = record { shared = λ d b o κ q. part_keyless (the_row T) (send T) q d b o }
