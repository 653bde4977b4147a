use Rattle.ac_util.proofs.Prelude.{◌<◌, ◌++◌, ◌∷◌, [], List, ℕ, length, map, take, ap, sym, ◌∙◌, get_or, arith, Bor, length-map, get_or-map, take_more, common_steps}
use Rattle.ac_util.proofs.LimitLemmas.{limits-from_refusal, not_refused}
use Rattle.ac_util.proofs.patterns.Patterns.new.Goals as goal

-- the next pattern is one more piece
pub loop-pattern-preserved : goal.loop-pattern-preserved
loop-pattern-preserved g c =
    let all = map (λ (p : Bor (List ℕ)). p.now) c.args.patterns.now in
    let index = c.loop-pattern.pattern-index in
    let none : Bor (List ℕ) = record { ref_ptr = (0, 0); now = [] } in
    let within : index < length all = simp length-map (omega arith) in
    let same = get_or-map (λ (p : Bor (List ℕ)). p.now) c.args.patterns.now index none [] (omega arith) in
    c.in_ok-push.ensures
    ∙ ap (λ (ps : List (List ℕ)). ps ++ (get_or c.args.patterns.now index none).now ∷ []) c.loop-pattern.invariant
    ∙ sym (take_more all index [] within ∙ ap (λ (p : List ℕ). take index all ++ p ∷ []) same)

-- all were copied, and no limit is passed
pub invariant_of-result : goal.invariant_of-result
invariant_of-result g c = grind (arith, common_steps, length-map, limits-from_refusal, not_refused)
