-- A reader may go to another thread, since its searcher may be shared.
use denote.Struct.Struct.{exits_of}
use denote.Struct.Owning.{shape, fields, to}
use denote.Param.Send.{IsSend, AllSend, owning_send, struct_send, sendable}
use Rattle.std_alloc.proofs.SendSync.{quiet}
use Rattle.ac_c.specs.Ownership.{held_row}
use Rattle.ac_c.proofs.Ownership.Crosses.{part-Keyless, held_sync}
use Rattle.ac_c.specs.contracts.reader.Reader.{the_row, the_type}

pub send : IsSend the_row
send =
    let all : AllSend (fields the_type) = search sendable in
    owning_send the_type all (λ r. part-Keyless held_row held_sync r.at r.held r.lifetime r.parts)
    (λ k. quiet (to the_type) (exits_of k (fields the_type)) ((struct_send (shape the_type) all).leaving k))
