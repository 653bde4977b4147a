-- What a handle and a reader own says the same to every thread: a searcher may be sent, and be shared. Assumes nothing.
use Rattle.std.proofs.Common.{ℕ, [], ◌∷◌}
use mir.Raw.{raw}
use base.Shift.{Keyless}
use denote.Memory.{lone}
use denote.RattleType.{RattleType}
use denote.RawPtr.{Ptr}
use denote.Param.Send.{IsSend, IsSync}
use Rattle.std.specs.declared.option.Option.{Option}
use Rattle.std.specs.declared.option.Option.TheVariants.{None, Some}
use Rattle.std.specs.declared.alloc.Global.{Global}
use Rattle.std.proofs.Crossing as heap_crosses
use Rattle.std_alloc.proofs.SendSync.{lies, seen}
use Rattle.ac_c.proofs.handle.held.Held.TheSendSync as box_content
use Rattle.ac_c.specs.Ownership.{held_row, owns_held, part_owns}

pub held_send : IsSend held_row
held_send = box_content.the_send

pub held_sync : IsSync held_row
held_sync = box_content.the_sync

module _ (R : RattleType) where
  pub held-Keyless : IsSend R → (a : Global) (p : Ptr) (w : Option R.Denot) → Keyless (owns_held R a p w)
  held-Keyless s a p None = λ _. tt
  held-Keyless s a p (Some x) = (lies R s p x, heap_crosses.frees.frees a (raw (lone R.mir)) p)

  pub part-Keyless : IsSync R → (p : Ptr) (x : R.Denot) (lifetime parts : ℕ) → Keyless (part_owns R p x lifetime parts)
  part-Keyless y p x lifetime parts = ((λ e c. tt), seen R y p x (lifetime ∷ []))
