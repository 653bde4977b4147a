-- What a reader lends of its part: the value, for as long as the part is lent. Assumes `Logic`.
use Rattle.ac_util.proofs.Prelude.{ℕ, [], ◌∷◌}
use seplogic.Ra.Ura.{Ura}
use base.FractionLaws.{Counts}
use base.Logic.{ent, sep, upd_i, id⊢}
use base.Fml.{Lft, Share, Fml, ftrue, fsep, fseps, fex, fwand, fupd, fdead, fbor, flft}
use contract.BorrowLft.{meet_⊑_left}
use types.Logic.{Logic, sem}
use types.Kit.{‵, ◌⊛◌, ◌$◌, ◌∵◌, !, qed, by, move, keep, drop, use1, split, fsplit, fsplit3, fjoin, fpick, fpack, assume, suffices, updating, now, done}
use types.Tokens.{bor_open, obor_alter, bor_fracture}
use denote.Sharing.{ShrLaws, beside, one, held}
use denote.SharingLaws.{contraction}
use denote.Moves.{moves_from}
use denote.Steps.{nothing}
use denote.Struct.Lending.{in_block_says}
use denote.RattleType.{RattleType}
use denote.RawPtr.{Ptr, InBlock}
use contract.Monad.{fact}
use Rattle.ac_c.specs.Ownership.{tokens, part_owns}

module _ {M : Type 1} {𝓤 : Ura M} (𝓛 : Logic 𝓤) (a : ℕ) where
  open 𝓛 use {A}

  -- a share that counts so many parts is these parts
  tokens_in : (k : ℕ) (e : Share) → Counts 63 e k → ent 𝓤 (A.lft (a ∷ []) e) (sem 𝓛 (tokens a k))
  tokens_in k e c = qed 𝓛 (‵ (flft (a ∷ []) e) ∷ []) ∵ fpack ! (Counts 63 e k) (λ _. flft (a ∷ []) e) c $ fpack ! Share (λ s. fex (Counts 63 s k) (λ _. flft (a ∷ []) s)) e $ done !

-- t says what is lent, for a lifetime
module _ (t : Lft → Fml) (L : ShrLaws t) where
  -- parts of a lifetime's token, and what is lent for it
  abbrev pub Owns : ℕ → ℕ → Fml
  Owns a k = fsep (tokens a k) (t (a ∷ []))

  -- what is lent of these
  abbrev pub Lent : ℕ → Lft → Fml
  Lent a = beside (one (λ q. flft (a ∷ []) q)) (held (a ∷ []) t)

  module _ {M : Type 1} {𝓤 : Ura M} (𝓛 : Logic 𝓤) where
    open 𝓛 use {H, A}

    module _ (a k : ℕ) (κ : Lft) where
      -- once the loan has ended the parts are back
      again : (e : Share) → Counts 63 e k → ent 𝓤 (sem 𝓛 (t (a ∷ []))) (sem 𝓛 (fwand (fsep (fdead κ) (fseps (flft (a ∷ []) e ∷ []))) (fupd (Owns a k))))
      unfolding fseps
      again e c = qed 𝓛 (‵ (t (a ∷ [])) ∷ []) ∵ assume ! (‵ (fsep (fdead κ) (fsep (flft (a ∷ []) e) ftrue))) $ suffices ! (sem 𝓛 (Owns a k)) (upd_i 𝓤 (sem 𝓛 (Owns a k))) $
          fsplit3 ! $ move ! (1 ∷ []) $ use1 𝓛 (‵ (tokens a k)) (tokens_in 𝓛 a k e c) $ keep ! (0 ∷ 3 ∷ []) $ fjoin ! $ done !

      -- a borrow of the parts lends what they lend
      pub by_token : (q : Share) → ent 𝓤 (sep 𝓤 (A.bor κ (Owns a k)) (A.lft κ q)) (H.⇛ (sep 𝓤 (sem 𝓛 (Lent a κ)) (A.lft κ q)))
      unfolding fseps
      by_token q = qed 𝓛 (‵ (fbor κ (Owns a k)) ∷ ‵ (flft κ q) ∷ []) ∵ updating ! $ bor_open ! tt $ move ! (1 ∷ []) $ fsplit ! $ fpick ! (λ e. fpick ! (λ c. move ! (1 ∷ []) $
          use1 𝓛 (‵ (t (a ∷ [])) ⊛ ‵ (t (a ∷ []))) (contraction 𝓛 t L (a ∷ [])) $ split ! $
          use1 𝓛 (‵ (fwand (fsep (fdead κ) (fseps (flft (a ∷ []) e ∷ []))) (fupd (Owns a k)))) (again e c) $ nothing ! $ move ! (3 ∷ 0 ∷ []) $ fjoin ! $ move ! (3 ∷ 0 ∷ 1 ∷ []) $ obor_alter ! tt (flft (a ∷ []) e ∷ []) $
          use1 𝓛 (‵ (fbor κ (flft (a ∷ []) e)) ⊛ ‵ ftrue) (id⊢ 𝓤 _) $ split ! $ bor_fracture ! tt (λ r. flft (a ∷ []) r) e $ move ! (0 ∷ 3 ∷ []) $ fjoin ! $ now ! $ keep ! (0 ∷ 2 ∷ []) $ done !))

    -- what is lent of the parts is the value, for as long
    pub part_sees : (a : ℕ) (κ : Lft) → ent 𝓤 (sem 𝓛 (Lent a κ)) (sem 𝓛 (t κ))
    part_sees a κ = qed 𝓛 (‵ (Lent a κ) ∷ []) ∵ fsplit ! $ by ! (moves_from 𝓛 t L κ (a ∷ []) (a ∷ []) (meet_⊑_left (a ∷ []) κ))

-- the address of a part lies in a block
pub part_lies : {M : Type 1} {𝓤 : Ura M} (𝓛 : Logic 𝓤) (R : RattleType) (p : Ptr) (x : R.Denot) (a k : ℕ) → ent 𝓤 (sem 𝓛 (part_owns R p x a k)) (fact 𝓤 (InBlock p))
part_lies 𝓛 R p x a k = qed 𝓛 (‵ (part_owns R p x a k) ∷ []) ∵ fsplit ! $ drop ! $ fsplit ! $ keep ! (0 ∷ []) $ by ! (in_block_says 𝓛 p)
