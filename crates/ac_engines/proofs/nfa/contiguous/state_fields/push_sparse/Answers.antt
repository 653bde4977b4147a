use Rattle.ac_util.proofs.Prelude.{rules, ◌∙◌, ◌++◌, ◌∷◌, [], length, map, ap, refl, append_assoc}
use Rattle.ac_engines.specs.Prelude.{class_words, Edge}
use Rattle.std.specs.Slice.Iter.{iter_rest}
use Rattle.std.proofs.lemmas.Iterator.{YieldsList-from_map, YieldsList-from_slice}
use Rattle.std.proofs.lemmas.Iterator.Adapters.{items_from_extend}
use Rattle.ac_engines.proofs.PushedStates.{two-pushed}
use Rattle.ac_engines.proofs.nfa.contiguous.state_fields.push_sparse.Goals as goal

-- the targets stand after the classes
pub returns : goal.returns
returns g c =
    let listed = items_from_extend c.extend.result c.extend.ensures.ran
    (YieldsList-from_map _ (λ (e : Edge). e.target) (YieldsList-from_slice c.state_fields.inside.edges.now
    (ap iter_rest c.map.ensures.source ∙ c.iter.ensures.rest)) refl (λ x r q k. search rules)) in
    let classes = class_words (map (λ (e : Edge). e.class) c.state_fields.inside.edges.now) in
    let targets = map (λ (e : Edge). e.target) c.state_fields.inside.edges.now in
    let head = c.in_ok-push-2.ensures.items
    ∙ ap (λ items. items ++ c.state_fields.inside.failure ∷ []) c.in_ok-push.ensures.items in
    let before = c.in_ok-push_classes.ensures ∙ ap (λ items. items ++ classes) head
    ∙ two-pushed c.args.words.now.items classes (length c.state_fields.inside.edges.now) c.state_fields.inside.failure in
    rw (← c.state_fields.view_is) ((rw c.in_ok-extend.was at listed).0 ∙ ap (λ items. items ++ targets) before
    ∙ append_assoc c.args.words.now.items (length c.state_fields.inside.edges.now ∷ c.state_fields.inside.failure ∷ classes) targets)
