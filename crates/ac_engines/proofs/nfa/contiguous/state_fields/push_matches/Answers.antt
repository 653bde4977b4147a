use Rattle.ac_util.proofs.Prelude.{rules, ◌∙◌, ℕ, ◌++◌, ◌∷◌, [], length, ap, refl, append_assoc, map-id}
use Rattle.std.specs.Slice.Iter.{iter_rest}
use Rattle.std.proofs.lemmas.Iterator.{YieldsList-from_map, YieldsList-from_slice}
use Rattle.std.proofs.lemmas.Iterator.Adapters.{items_from_extend}
use Rattle.ac_engines.proofs.PushedStates.{several-matches}
use Rattle.ac_engines.proofs.nfa.contiguous.state_fields.push_matches.Goals as goal

-- several stand after their count
pub returns-in_ok-extend-in_default : goal.returns-in_ok-extend-in_default
returns-in_ok-extend-in_default g c =
    let several = several-matches c.args.matches.now c.in_default.len_at_least in
    let listed = items_from_extend c.extend.result c.extend.ensures.ran
    (YieldsList-from_map _ (λ (n : ℕ). n) (YieldsList-from_slice c.args.matches.now
    (ap iter_rest c.map.ensures.source ∙ c.iter.ensures.rest)) refl (λ x r q k. search rules)) in
    rw several ((rw c.in_ok-extend-in_default.was at listed).0
    ∙ ap (λ matches. c.push-in_default.new.self.items ++ matches) (map-id c.args.matches.now)
    ∙ ap (λ items. items ++ c.args.matches.now) c.in_ok-push-in_default.ensures.items
    ∙ append_assoc c.args.words.now.items (length c.args.matches.now ∷ []) c.args.matches.now)
