-- `get` gives up the loan of the part for good, and has what it shares for as long.
use Rattle.ac_util.proofs.Prelude.{◌≡◌, ℕ, List, [], ◌∷◌, refl, sym, ap, ◌∙◌, ⊤}
use seplogic.Ra.Ura.{Ura}
use base.Fraction.{full_share}
use mir.Syntax.{named}
use mir.Val.{Val, vptr}
use base.Logic.{SProp, ent, sep, emp, guard_i}
use base.Fml.{Lft, Share, Fml, ftrue, fsep, fex, flft, fobs, fres, fauth, fbor}
use mathlib.Core.Option.{none}
use denote.Follow.{follows_so, such_by, follows_by}
use types.Logic.{Logic, sem}
use types.SemTy.{Body}
use types.Kit.{‵, raw, ◌⊛◌, given, later, at_ret, ◌$◌, ◌∵◌, !, qed, by, move, keep, drop, split, split3, join, group, fsplit, fsplit3, fjoin, fpick, fpack, learn, feq_i, rewrite, await, use0, use1, use2, done}
use types.Run.{stop, fld, load, of_opd, addr, first, blocks, exec, returns, enter}
use types.ByLocal.{alloc_all, pass_all, free_all, look_at, get, through, sets, sets_last, env}
use types.Part.{sub, whole, look_in}
use contract.Monad.{fact, fact_i, fact_use}
use contract.Running.{tables}
use denote.Exit.{no}
use denote.Laws.{shows}
use denote.Memory.{mem, cell_at, part_of}
use denote.Opens.{hide}
use denote.Ref.{MutRef, mut_vals, mut_Tells}
use denote.Shares.{closes_cut}
use denote.Signature.{Slot, plain, mut_ref_to}
use denote.RawPtr.{Ptr, InBlock, block_of, count_of, at_block}
use denote.Steps.{nothing, opens, peeks}
use denote.Struct.Lending.{lent_at, lent_at_shr_laws}
use denote.Struct.Owning.{shape, to}
use denote.Struct.Struct.{Struct}
use denote.Triple.Walked.{Stays, stay_dropped, walk_of, Goes-spent_ref}
use Rattle.core.proofs.alloc.Shapes.{after}
use Rattle.std.proofs.raw_atomic.Walks.{proved, leaves}
use Rattle.ac_c.specs.Ownership.{part_owns}
use Rattle.ac_c.proofs.Ownership.ReaderParts.{Lent, part_lies, part_sees, by_token}
use Rattle.ac_c.specs.Ownership.{held_row as R}
use Rattle.ac_c.proofs.Ownership.HeldLaws.{held_laws}
use Rattle.ac_c.specs.contracts.reader.Reader.{the_row as Row, the_type}
use Rattle.ac_c.proofs.reader.Reader.TheLaws.{lowers, lowered}
use Rattle.ac_c.specs.contracts.reader.Reader.get.{ended, clauses}
use Rattle.ac_c.specs.contracts.reader.Reader.get.Key.{name as #self}
use Rattle.ac_c.proofs.reader.Reader.get.Statement.{statement}
use Rattle.ac_c.proofs.reader.Reader.get.Code as code

abbrev self : Slot 1
self = mut_ref_to (0 ∷ []) tt (plain (λ _. Row))

abbrev hs : Stays (ended).signature.params (ended).kept
hs = (stay_dropped self no, tt)

abbrev Heap : Row.Denot → Fml
Heap h = part_owns R h.at h.held h.lifetime h.parts

abbrev Rest : Row.Denot → ℕ → ℕ → Fml
Rest h b o = fex (List Val) (λ us. fsep (cell_at full_share Row.mir us b o) ((Struct (shape the_type)).own_val (to the_type h) us))

back : {M : Type 1} {𝓤 : Ura M} (𝓛 : Logic 𝓤) (h : Row.Denot) (b o γ : ℕ) → ent 𝓤 (sep 𝓤 (sem 𝓛 (Heap h)) (sep 𝓤 (sem 𝓛 (Rest h b o)) (sem 𝓛 (fauth γ (Row.coded.code h))))) (sem 𝓛 (Body (mem Row) b o γ))
unfolding part_of
back 𝓛 h b o γ =
    qed 𝓛 (‵ (Heap h) ∷ ‵ (Rest h b o) ∷ ‵ (fauth γ (Row.coded.code h)) ∷ []) ∵ move ! (1 ∷ []) $ fpick ! (λ us. fsplit ! $ move ! (1 ∷ 2 ∷ []) $ fjoin ! $ move ! (1 ∷ 0 ∷ []) $ fjoin ! $
    fpack ! (List Val) (λ ws. fsep (cell_at full_share Row.mir ws b o) (Row.own_val h ws)) us $ fjoin ! $ fpack ! Row.Denot (λ z. fsep ((mem Row).own_at z b o) (fauth γ (Row.coded.code z))) h $ done !)

kept_of : {M : Type 1} {𝓤 : Ura M} (𝓛 : Logic 𝓤) (h : Row.Denot) (γ : ℕ) → ent 𝓤 (sem 𝓛 (fobs γ (Row.coded.code h))) (sem 𝓛 (follows_so Row Row γ none (λ _ _. ⊤) (λ v. v ≡ h)))
unfolding such_by follows_by
kept_of 𝓛 h γ =
    qed 𝓛 (‵ (fobs γ (Row.coded.code h)) ∷ []) ∵ use1 𝓛 (‵ (fres γ (Row.coded.code h))) (𝓛.names.obs-res γ (Row.coded.code h)) $
    fpack ! ((s : (Row.Denot → Row.Denot) × Row.Denot) × (Row.Denot → ⊤) × (s.1 ≡ h)) (λ s. follows_by Row.Denot Row.Denot Row.coded.code Row.coded.code γ none s.0.0 s.0.1) (((λ (w : Row.Denot). w), h), (λ w. tt), refl) $ done !

pub get_spec : {M : Type 1} → statement M
get_spec 𝓤 𝓛 𝓜 𝓡 wired =
    let H = 𝓛.H in let 𝓣 = tables 𝓤 H 𝓜 𝓡 𝓡.env in let c = clauses 𝓛 𝓜.mem 𝓡.returns in let fn = code.function in
    proved 𝓛 ended hs c 𝓜 𝓡 (Goes-spent_ref 𝓛 1 (0 ∷ []) tt (plain (λ _. Row)), tt) #self fn (code.unfolded 𝓤 H 𝓜 𝓡 wired)
    (λ κs. (mut_vals, tt)) (λ κs. (mut_Tells (named 0) κs.0 Row, tt)) (λ κs qs bounds a g are.
    let κ : Lft = κs.0 in let q : Share = qs.0 in let b : ℕ = a.0.ref_ptr.0 in let o : ℕ = a.0.ref_ptr.1 in let γ : ℕ = a.0.ghost_name in let h : Row.Denot = a.0.now in let p : Ptr = h.at in let x = h.held in
    let y : (walk_of 𝓛 ended hs c).Ghost = ((κs, qs, bounds, a, (vptr b o ∷ [], tt)), g) in let Post : Val → SProp 𝓤 = (walk_of 𝓛 ended hs c).post y in let there : Val = vptr (block_of p) (count_of p) in
    let t : Lft → Fml = lent_at R p x in let L = lent_at_shr_laws R held_laws.shr_laws p x in
    qed 𝓛 (((‵ (flft κ q) ⊛ ‵ ftrue) ⊛ ‵ ((MutRef (named 0) κ Row).own_val a.0 (vptr b o ∷ [])) ⊛ ‵ ftrue) ∷ raw ((c κs a).requires g) ∷ []) ∵
    split ! $ split ! $ move ! (2 ∷ []) $ split ! $ keep ! (0 ∷ 2 ∷ []) $
    enter ! 𝓣.C 𝓣.Λ fn (vptr b o ∷ []) Post $ alloc_all ! (λ l. pass_all ! refl ((tt, tt), tt) $ let Ev = env fn.locals l in
    fsplit3 ! $ move ! (1 ∷ 2 ∷ 3 ∷ []) $ opens ! tt Row b o (λ us. move ! (1 ∷ []) $ peeks ! Row _ (shows 𝓛 Row) h us (λ is. fsplit ! $ move ! (1 ∷ []) $
    use1 𝓛 (given (InBlock p) (‵ (Heap h))) (fact_use 𝓤 (InBlock p) (part_lies 𝓛 R p x h.lifetime h.parts) (guard_i 𝓤 (InBlock p) (sem 𝓛 (Heap h)))) $ learn ! (λ inb.
    let ev = lowers.val_is h us is ∙ ap (λ (r : Ptr). lowered (record h { at = r }) ∷ []) (at_block p inb) in
    -- [the part; what the fields own; the struct's cell; the open borrow, in three entries]
    rewrite ! 2 (λ (ws : List Val). ‵ (cell_at full_share Row.mir ws b o)) ev refl $ first ! $ blocks ! $
    sets ! (of_opd ! (load ! (through ! refl (fld ! refl (stop !))) (look_in ! 2 (sub ! 0 refl (whole !))))) refl (tt, tt) $ sets ! (of_opd ! (get ! refl)) refl (tt, tt) $
    sets_last ! (addr ! (through ! refl (stop !))) refl (tt, tt) $ exec ! 𝓣.C 𝓣.Λ Ev (after 1 fn.body) (at_ret Ev Post) $ sets ! (of_opd ! (get ! refl)) refl (tt, tt) $
    rewrite ! 2 (λ (ws : List Val). ‵ (cell_at full_share Row.mir ws b o)) (sym ev) refl $
    move ! (2 ∷ 1 ∷ []) $ fjoin ! $ fpack ! (List Val) (λ ws. fsep (cell_at full_share Row.mir ws b o) ((Struct (shape the_type)).own_val (to the_type h) ws)) us $
    move ! (2 ∷ 1 ∷ 0 ∷ 4 ∷ []) $ group ! 4 $
    use1 𝓛 (later (‵ (fbor κ (Heap h)) ⊛ ‵ (fbor κ (Rest h b o)) ⊛ ‵ (flft κ q))) (closes_cut 𝓛 κ q (Body (mem Row) b o γ) (Heap h) (Rest h b o) (sem 𝓛 (fauth γ (Row.coded.code h))) (back 𝓛 h b o γ)) $
    await ! tt $ split3 ! $ move ! (0 ∷ 2 ∷ []) $ use2 𝓛 (later (‵ (Lent t L h.lifetime κ) ⊛ ‵ (flft κ q))) (by_token t L 𝓛 h.lifetime h.parts κ q) $ await ! tt $ split ! $
    use1 𝓛 (‵ (t κ)) (part_sees t L 𝓛 h.lifetime κ) $ fsplit ! $ drop ! $ hide ! $ feq_i ! (List Val) (there ∷ []) (there ∷ []) refl $ fjoin ! $
    move ! (1 ∷ []) $ nothing ! $ move ! (1 ∷ 0 ∷ []) $ join ! $ move ! (3 ∷ []) $ use1 𝓛 (‵ (follows_so Row Row γ none (λ _ _. ⊤) (λ v. v ≡ h))) (kept_of 𝓛 h γ) $
    use0 𝓛 (raw (fact 𝓤 (x ≡ x))) (fact_i 𝓤 (x ≡ x) (emp 𝓤) refl) $ move ! (1 ∷ 0 ∷ []) $ join ! $ nothing ! $ nothing ! $ fjoin ! $
    returns ! (look_at ! 0 refl) $ free_all ! refl $ keep ! (2 ∷ 0 ∷ 3 ∷ 1 ∷ []) $ by ! (leaves 𝓛 ended hs c y there (record { ref_ptr = (block_of p, count_of p); now = x }) (tt, tt) (tt, tt)))))))
