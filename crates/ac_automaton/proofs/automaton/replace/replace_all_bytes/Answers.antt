use Rattle.ac_util.proofs.Prelude.{◌∙◌, ℕ, arith, length, subst, sym, common_steps}
use Rattle.ac_automaton.specs.Prelude.{AreInOrder}
use Rattle.ac_automaton.proofs.Exchanged.{ended, turned}
use Rattle.ac_automaton.proofs.Exchanging.{slice_to_end}
use Rattle.ac_automaton.proofs.automaton.replace.replace_all_bytes.Goals as goal

-- the next match starts from the place on
pub slice_bounds-extend_from_slice-count : goal.slice_bounds-extend_from_slice-count
slice_bounds-extend_from_slice-count g c =
    let order = subst (AreInOrder (length c.args.haystack.now) (length c.args.texts.now) c.loop-found.place)
    c.in-Some.ensures c.loop-found.invariant.0 in
    let low = order.0 in let high = order.1 in let end = order.2 in omega arith

pub slice_bounds-extend_from_slice-start : goal.slice_bounds-extend_from_slice-start
slice_bounds-extend_from_slice-start g c =
    let order = subst (AreInOrder (length c.args.haystack.now) (length c.args.texts.now) c.loop-found.place)
    c.in-Some.ensures c.loop-found.invariant.0 in
    let low = order.0 in let high = order.1 in let end = order.2 in omega arith

pub slice_bounds-extend_from_slice-end : goal.slice_bounds-extend_from_slice-end
slice_bounds-extend_from_slice-end g c =
    let order = subst (AreInOrder (length c.args.haystack.now) (length c.args.texts.now) c.loop-found.place)
    c.in-Some.ensures c.loop-found.invariant.0 in
    let low = order.0 in let high = order.1 in let end = order.2 in omega arith

-- its pattern has a text
pub bounds-texts-as_usize : goal.bounds-texts-as_usize
bounds-texts-as_usize g c =
    let order = subst (AreInOrder (length c.args.haystack.now) (length c.args.texts.now) c.loop-found.place)
    c.in-Some.ensures c.loop-found.invariant.0 in
    let known = order.3 in omega arith

-- the gap and the text were written
pub loop-found-preserved : goal.loop-found-preserved
loop-found-preserved g c =
    let haystack = c.args.haystack.now in
    let texts = c.args.texts.now in
    let rest = (g.W.Walk.left c.next_match.new.self) in
    let gives = c.in-Some.ensures in
    let order = subst (AreInOrder (length haystack) (length texts) c.loop-found.place) gives c.loop-found.invariant.0 in (
      subst (λ (from : ℕ). AreInOrder (length haystack) (length texts) from rest) (sym c.end-place.ensures) order.4,
      turned haystack texts c.loop-found.place c.start.result c.as_usize.result c.end-place.result c.in-Some.found rest _ _
          _ _ _ _ gives c.loop-found.invariant.1 order.3 c.start.ensures (c.as_usize.ensures.value ∙ c.pattern.ensures)
          c.end-place.ensures c.in_ok-extend_from_slice.ensures.items c.in_ok-extend_from_slice-2.ensures.items,
    )

-- one match fewer is left
pub loop-found-smaller : goal.loop-found-smaller
loop-found-smaller g c = grind (arith, common_steps)

-- what follows the last match was written
pub returns : goal.returns
returns g c =
    ended c.args.haystack.now c.args.texts.now c.loop-found.place _ _ _ _ _ c.in_default.ensures.0
    c.loop-found.invariant.1 c.in_ok-extend_from_slice-3.ensures.items
    (slice_to_end c.args.haystack.now c.loop-found.place)
