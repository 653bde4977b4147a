-- The walk through `of`: one struct is made, and returned with what the lent value is.
use mathlib.Core.Path.{refl}
use mathlib.Core.List.{[], ◌∷◌}
use mir.MapTy.{inst_fn}
use mir.Syntax.{a_type, named}
use mir.Val.{vstruct, vcons, vnil}
use types.Kit.{‵, raw, ◌⊛◌, ◌$◌, ◌∵◌, !, qed, move, drop, split, suffices, done}
use types.Run.{no_more, and_then, returns, enter}
use types.Part.{agg}
use types.ByLocal.{alloc_all, pass_all, free_all, get, look_at, sets}
use denote.Exit.{yes}
use denote.Param.{layouts, param}
use denote.RattleType.{RattleType, owns}
use denote.Ref.{shr_vals, shr_Tells}
use denote.Shadow.{pure_i}
use denote.Signature.{plain, types_at}
use denote.Triple.Entry.{alive}
use denote.Triple.Walked.{says, stay_none_ref, Stays, walk_of, ends_at, Goes-none_ref}
use Rattle.std.proofs.raw_atomic.Walks.{proved}
use Rattle.ac_util.specs.declared.history.Remembered.{Remembered}
use Rattle.ac_util.specs.contracts.history.Remembered as remembered
use Rattle.ac_util.specs.contracts.history.Remembered.of as f
use Rattle.ac_util.proofs.history.Remembered.of.Statement.{statement}
use Rattle.ac_util.proofs.history.Remembered.of.Code as code

module _ (Y : RattleType) where
  -- the value that is lent
  abbrev lent : RattleType
  lent = param 0 Y

  -- the reference isn't given back
  abbrev stayed : Stays (f.ended Y).signature.params (f.ended Y).kept
  stayed = (stay_none_ref (0 ∷ []) tt (plain (λ _. lent)) yes, tt)

pub of_spec : {M : Type 1} → statement M
of_spec 𝓤 𝓛 𝓜 𝓡 wired Y laws =
    let c = f.clauses Y 𝓛 𝓜.mem 𝓡.returns in let v = vstruct (vcons (vstruct vnil) vnil) in
    proved 𝓛 (f.ended Y) (stayed Y) c 𝓜 𝓡 (Goes-none_ref 𝓛 2 (0 ∷ []) tt (plain (λ _. lent Y)) yes, tt)
    (f.Key.name (layouts (a_type ∷ []) (Y, tt))) (inst_fn (layouts (a_type ∷ []) (Y, tt)) code.function)
    (code.unfolded 𝓤 𝓛.H 𝓜 𝓡 wired (Y, tt)) (λ κs. (shr_vals, tt)) (λ κs. (shr_Tells (named 0) κs.0 (lent Y), tt)) (λ κs qs bounds a g are.
    let made : Remembered (lent Y).Denot = record { seal = record {}; value = a.0.now } in
    let y : (walk_of 𝓛 (f.ended Y) (stayed Y) c).Ghost = ((κs, qs, bounds, a, (shr_vals a.0, tt)), g) in
    qed 𝓛 ((raw (alive 𝓛 (f.ended Y).signature κs qs) ⊛ ‵ (owns (types_at (f.ended Y).signature.params κs) a y.0.4)) ∷ raw ((c κs a).requires g) ∷ []) ∵
    move ! (1 ∷ []) $ drop ! $ split ! $ enter ! _ _ _ _ _ $
    alloc_all ! (λ l. pass_all ! refl ((tt, tt), tt) $
    sets ! (agg ! (no_more !)) refl (tt, tt) $ sets ! (agg ! (and_then ! (get ! refl) (no_more !))) refl (tt, (tt, tt)) $
    returns ! (look_at ! 0 refl) $ free_all ! refl $
    suffices ! _ (ends_at 𝓛 (f.ended Y) (stayed Y) c y v made (tt, tt) (tt, tt)) $ says ! refl $
    pure_i ! ((remembered.the_row Y).own_val made (v ∷ [])) ((λ vss. (tt, ((λ uss. (tt, tt)), tt))), tt) (((vstruct vnil ∷ [], tt), (refl, ((tt, (refl, tt)), tt))), tt) $
    move ! (1 ∷ 2 ∷ 0 ∷ []) $ done !))
