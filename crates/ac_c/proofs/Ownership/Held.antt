-- The two cases of an address that may be null. Assumes `Logic`.
use Rattle.ac_util.proofs.Prelude.{◌≡◌, ℕ, List, ◌∷◌, refl, subst}
use seplogic.Ra.Ura.{Ura}
use mir.Raw.{raw as bare}
use base.Logic.{ent, guard, via, never, fst∗, snd∗, guard_i}
use base.Fraction.{full_share}
use types.Logic.{Logic, sem}
use types.Kit.{Item, Goal, Seq, ‵, given, ◌$◌, drop, fpick, learn, use1}
use contract.Monad.{fact_use}
use denote.RattleType.{RattleType}
use denote.Memory.{lone}
use denote.RawPtr.{Ptr, block_ptr, null_ptr, lies_at, in_a_block, Testable}
use Rattle.std.specs.declared.alloc.Global.{Global}
use Rattle.std.specs.contracts.impls.GlobalAllocator.TheImpl.{ghosts}
use Rattle.std.proofs.GlobalToken.{dealloc_token-Testable}
use Rattle.std.specs.declared.option.Option.{Option}
use Rattle.std.specs.declared.option.Option.TheVariants.{None, Some}
use Rattle.ac_c.specs.Ownership.{boxed, owns_held}

module _ (R : RattleType) (a : Global) where
  -- the address of a box can be tested for null
  pub tested : {M : Type 1} {𝓤 : Ura M} (𝓛 : Logic 𝓤) (p : Ptr) (x : R.Denot) → ent 𝓤 (sem 𝓛 (boxed R a p x)) (guard 𝓤 (Testable p) (sem 𝓛 (boxed R a p x)))
  tested {𝓤 = 𝓤} 𝓛 p x =
      fact_use 𝓤 (Testable p) (via 𝓤 _ (snd∗ 𝓤 (sem 𝓛 (lies_at R full_share p x)) (sem 𝓛 (ghosts.dealloc_token a (bare (lone R.mir)) p))) (dealloc_token-Testable 𝓛 a (bare (lone R.mir)) p))
      (guard_i 𝓤 (Testable p) (sem 𝓛 (boxed R a p x)))

  module _ {M : Type 1} {𝓤 : Ura M} {𝓛 : Logic 𝓤} {K : Type 0} {Γ : List (Item 𝓤)} {G : Goal 𝓤 𝓛.H} where
    -- what is held is nothing at null, or a box at an address in a block
    pub either_held : K → (p : Ptr) (w : Option R.Denot) → (p ≡ null_ptr → w ≡ None → Seq K 𝓛 Γ G)
        → ((b o : ℕ) (x : R.Denot) → p ≡ block_ptr b o → w ≡ Some x → Testable (block_ptr b o) → Seq K 𝓛 (‵ (boxed R a (block_ptr b o) x) ∷ Γ) G) → Seq K 𝓛 (‵ (owns_held R a p w) ∷ Γ) G
    either_held t p None none one = fpick t (λ e. drop t $ none e refl)
    either_held t p (Some x) none one =
        use1 𝓛 (given (Testable p) (‵ (boxed R a p x))) (tested 𝓛 p x) $ learn t (λ u. in_a_block t p (λ q. boxed R a q x) (fst∗ 𝓤 (never 𝓤) (sem 𝓛 (ghosts.dealloc_token a (bare (lone R.mir)) null_ptr)))
        (λ b o e. one b o x e refl (subst Testable e u)))
