use Rattle.ac_util.proofs.Prelude.{◌≡◌, ◌∷◌, ◌∙◌, ◌++◌, ℕ, true, List, ap, arith, length, string_bytes, sym, subst, rules, common_steps}
use Rattle.ac_automaton.specs.Prelude.{AreInOrder, is_whole, whole_characters}
use Rattle.std.specs.Str.{IsCharBoundary}
use Rattle.std.proofs.lemmas.Str.{IsCharBoundary-start}
use Rattle.ac_util.proofs.Exchanges.{in_order-earlier, is_whole-ends, whole_characters-skip, whole_characters-take}
use Rattle.ac_automaton.proofs.Exchanged.{ended, turned}
use Rattle.ac_automaton.proofs.automaton.replace.replace_all.Goals as goal

-- all matches are left, and nothing was written
pub loop-found-init : goal.loop-found-init
loop-found-init g c = search (rules, IsCharBoundary-start)

-- the gap ends where the match begins, and both are at boundaries
pub range-requires-clause-start_le_end : goal.range-requires-clause-start_le_end
range-requires-clause-start_le_end g c =
    let order = subst (AreInOrder (length c.args.text.now) (length c.args.texts.now) c.loop-found.place)
    c.in-Some.ensures c.loop-found.invariant.1 in
    let low = order.0 in omega arith

pub range-requires-clause-start_boundary : goal.range-requires-clause-start_boundary
range-requires-clause-start_boundary g c = λ _. c.loop-found.invariant.0

pub range-requires-clause-end_boundary : goal.range-requires-clause-end_boundary
range-requires-clause-end_boundary g c =
    subst (IsCharBoundary c.args.text.now) (sym c.start.ensures) (is_whole-ends c.args.text.now c.in-Some.found
    (sym c.cuts_no_character.ensures ∙ c.if-cuts_no_character.true)).0

-- its pattern has a text
pub bounds-texts-as_usize : goal.bounds-texts-as_usize
bounds-texts-as_usize g c =
    let order = subst (AreInOrder (length c.args.text.now) (length c.args.texts.now) c.loop-found.place)
    c.in-Some.ensures c.loop-found.invariant.1 in
    let known = order.3 in omega arith

-- the gap and the text were written
pub loop-found-preserved-then-cuts_no_character : goal.loop-found-preserved-then-cuts_no_character
loop-found-preserved-then-cuts_no_character g c =
    let text = c.args.text.now in
    let texts = c.args.texts.now in
    let found = c.in-Some.found in
    let rest = (g.W.Walk.left c.next_match.new.self) in
    let gives = c.in-Some.ensures in
    let whole : is_whole text found ≡ true = sym c.cuts_no_character.ensures ∙ c.if-cuts_no_character.true in
    let order = subst (AreInOrder (length text) (length texts) c.loop-found.place) gives c.loop-found.invariant.1 in (
      subst (IsCharBoundary text) (sym c.end-place.ensures) (is_whole-ends text found whole).1,
      subst (λ (from : ℕ). AreInOrder (length text) (length texts) from rest) (sym c.end-place.ensures) order.4,
      turned text texts c.loop-found.place c.start.result c.as_usize.result c.end-place.result found
          (whole_characters text rest) _ _ _ _ _ _
          (ap (whole_characters text) gives ∙ whole_characters-take text found rest whole) c.loop-found.invariant.2 order.3
          c.start.ensures (c.as_usize.ensures.value ∙ c.pattern.ensures) c.end-place.ensures
          (c.in_ok-push_str.ensures.bytes
          ∙ ap (λ (gap : List ℕ). string_bytes c.loop-found.replaced ++ gap) c.range.ensures.value)
          c.in_ok-push_str-2.ensures.bytes,
    )

-- a match that cuts a character was passed over
pub loop-found-preserved : goal.loop-found-preserved
loop-found-preserved g c =
    let skip = whole_characters-skip c.args.text.now c.in-Some.found (g.W.Walk.left c.next_match.new.self)
    (sym c.cuts_no_character.ensures ∙ c.if-cuts_no_character.false) in
    let given : (g.W.Walk.left c.loop-found.walk) ≡ c.in-Some.found ∷ (g.W.Walk.left c.next_match.new.self) = c.in-Some.ensures in
    let order = subst (AreInOrder (length c.args.text.now) (length c.args.texts.now) c.loop-found.place) given
    c.loop-found.invariant.1 in (
      c.loop-found.invariant.0,
      in_order-earlier _ _ c.loop-found.place c.in-Some.found.end (g.W.Walk.left c.next_match.new.self) (omega (arith, order.0, order.1)) order.4,
      grind (arith, common_steps, skip),
    )

-- one match fewer is left, whether it cuts a character or not
pub loop-found-smaller-then-cuts_no_character : goal.loop-found-smaller-then-cuts_no_character
loop-found-smaller-then-cuts_no_character g c = grind (arith, common_steps)

pub loop-found-smaller : goal.loop-found-smaller
loop-found-smaller g c = grind (arith, common_steps)

-- what follows the last match was written
pub returns : goal.returns
returns g c =
    ended c.args.text.now c.args.texts.now c.loop-found.place _ _ _ _ _
    (ap (whole_characters c.args.text.now) c.in_default.ensures.0) c.loop-found.invariant.2
    c.in_ok-push_str-3.ensures.bytes c.range_from.ensures.value
