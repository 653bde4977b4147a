-- What a handle and a reader own. The value under a reader is shared for a lifetime of its own, and a reader is a part
-- of that lifetime's token.
use Rattle.std.specs.Prelude.{◌≡◌, ℕ, [], ◌∷◌}
use base.FractionLaws.{Counts}
use base.Fml.{Share, Fml, ftrue, fsep, fex, flft}
use denote.RattleType.{RattleType}
use denote.RawPtr.{Ptr, null_ptr}
use denote.Struct.Lending.{lent_at}
use Rattle.std.specs.declared.option.Option.{Option}
use Rattle.std.specs.declared.option.Option.TheVariants.{None, Some}
use Rattle.std.specs.declared.alloc.Global.{Global}
use Rattle.std.specs.contracts.impls.GlobalAllocator.TheImpl.{ghosts}
use Rattle.std_alloc.specs.Box.Ownership.{box_owns}
use Rattle.ac_c.specs.contracts.handle.held.Held as box_content

-- what a handle keeps on the heap
abbrev pub held_row : RattleType
held_row = box_content.the_row

module _ (R : RattleType) (a : Global) (p : Ptr) where
  -- a box on the heap of `Global` at this address
  abbrev pub boxed : R.Denot → Fml
  boxed = box_owns (ghosts.dealloc_token a) R p

  -- the box of a value; or nothing, and the address is null
  abbrev pub owns_held : Option R.Denot → Fml
  owns_held None = fex (p ≡ null_ptr) (λ _. ftrue)
  owns_held (Some x) = boxed x

-- so many parts in 2 ^ 63 of a lifetime's token
abbrev pub tokens : ℕ → ℕ → Fml
tokens lifetime parts = fex Share (λ e. fex (Counts 63 e parts) (λ _. flft (lifetime ∷ []) e))

-- these parts of the token, and the value that is lent for this lifetime
abbrev pub part_owns : (R : RattleType) → Ptr → R.Denot → ℕ → ℕ → Fml
part_owns R p x lifetime parts = fsep (tokens lifetime parts) (lent_at R p x (lifetime ∷ []))
