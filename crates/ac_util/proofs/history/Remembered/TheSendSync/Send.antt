-- A remembered value isn't held, so it may be sent to another thread.
use denote.Param.Send.{IsSend, owning_send, sendable}
use denote.RattleType.{RattleType}
use Rattle.ac_util.specs.contracts.history.Remembered.{the_row, the_type}

pub send : (T : RattleType) → IsSend (the_row T)
send T = owning_send (the_type T) (search sendable, tt) (λ d. tt) (λ k x w. tt)
