-- The walk through `empty`: one struct is made, and returned as a history without bytes.
use mathlib.Core.Path.{refl}
use mathlib.Core.List.{[], ◌∷◌}
use mir.Val.{vstruct, vcons, vunit, vnil}
use types.Kit.{‵, raw, ◌⊛◌, ◌$◌, ◌∵◌, !, qed, move, drop, split, suffices, done}
use types.Run.{no_more, and_then, unit_lit, returns, enter}
use types.Part.{agg}
use types.ByLocal.{alloc_all, pass_all, free_all, look_at, sets}
use denote.RattleType.{owns}
use denote.Shadow.{pure_i}
use denote.Triple.Entry.{alive}
use denote.Triple.Walked.{says, walk_of, ends_at}
use Rattle.std.proofs.raw_atomic.Walks.{proved}
use Rattle.ac_util.specs.Prelude.{History}
use Rattle.ac_util.specs.contracts.history.History as history
use Rattle.ac_util.specs.contracts.history.History.empty as f
use Rattle.ac_util.proofs.history.History.empty.Statement.{statement}
use Rattle.ac_util.proofs.history.History.empty.Code as code

pub empty_spec : {M : Type 1} → statement M
empty_spec 𝓤 𝓛 𝓜 𝓡 wired =
    let c = f.clauses 𝓛 𝓜.mem 𝓡.returns in let y : (walk_of 𝓛 f.ended tt c).Ghost = ((tt, tt, tt, tt, tt), tt) in
    let made : History = record { seal = tt; bytes = [] } in let v = vstruct (vcons vunit vnil) in
    proved 𝓛 f.ended tt c 𝓜 𝓡 tt f.Key.name code.function (code.unfolded 𝓤 𝓛.H 𝓜 𝓡 wired) (λ κs. tt) (λ κs. tt)
    (λ κs qs bounds a g are.
    qed 𝓛 ((raw (alive 𝓛 f.signature tt tt) ⊛ ‵ (owns [] tt tt)) ∷ raw ((c tt tt).requires tt) ∷ []) ∵ move ! (1 ∷ []) $ drop ! $ split ! $
    enter ! _ _ _ _ _ $ alloc_all ! (λ l. pass_all ! refl tt $ sets ! (agg ! (and_then ! (unit_lit !) (no_more !))) refl (tt, (tt, tt)) $
    returns ! (look_at ! 0 refl) $ free_all ! refl $ suffices ! _ (ends_at 𝓛 f.ended tt c y v made tt tt) $ says ! refl $
    pure_i ! (history.the_row.own_val made (v ∷ [])) ((λ vss. (tt, (tt, tt))), tt) (((vunit ∷ [], tt), (refl, (refl, tt))), tt) $
    move ! (1 ∷ 2 ∷ 0 ∷ []) $ done !))
