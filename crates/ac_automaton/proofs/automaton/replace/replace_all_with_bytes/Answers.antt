use Rattle.ac_util.proofs.Prelude.{◌∙◌, ◌++◌, ℕ, [], List, ap, refl, sym, subst, length, of_calls, rules, arith, common_steps}
use Rattle.ac_automaton.specs.Prelude.{AreInOrder}
use Rattle.ac_automaton.proofs.Exchanging.{LeadsOn, leads-begin, leads-end, leads-end_refused, leads-out, leads-refused, leads-stop, leads-turn, slice_to_end, steps-refused}
use Rattle.ac_automaton.proofs.automaton.replace.replace_all_with_bytes.Given.{Over}
use Rattle.ac_automaton.proofs.automaton.replace.replace_all_with_bytes.Goals as goal
use Rattle.ac_automaton.proofs.automaton.replace.replace_all_with_bytes.Goals.{After-extend_from_slice-2, in_default, in-Some+in_ok-extend_from_slice+then-not-exchange}

-- all matches are left
pub loop-found-init : goal.loop-found-init
loop-found-init g c = search (rules, leads-begin)

-- the gap was refused
pub returns-in_err-extend_from_slice : goal.returns-in_err-extend_from_slice
returns-in_err-extend_from_slice g c =
    steps-refused c.from_residual.result _ _ _ c.from_residual.ensures.1 (leads-refused c.in-Some.found (g.W.Walk.left c.next_match.new.self)
    c.loop-found.invariant.2 c.in-Some.ensures c.extend_from_slice.new.self c.in_err-extend_from_slice.ensures.items)

-- the gap was appended, and the call asks to go on
pub loop-found-preserved : goal.loop-found-preserved
loop-found-preserved g c =
    let rest = g.W.Walk.left c.next_match.new.self in
    let texts = c.loop-found.invariant.1.0 in
    let order = subst (AreInOrder (length c.args.haystack.now) texts c.loop-found.place) c.in-Some.ensures
    c.loop-found.invariant.1.1 in (
      search (rules, of_calls),
      (texts, subst (λ (place : ℕ). AreInOrder (length c.args.haystack.now) texts place rest) (sym c.end-place.ensures) order.4),
      leads-turn c.in-Some.found rest c.loop-found.invariant.2 c.in-Some.ensures
          c.start.result c.start-in-Some.result c.end-place.result c.start.ensures
          c.start-in-Some.ensures c.end-place.ensures c.extend_from_slice.new.self
          c.in_ok-extend_from_slice.ensures.items c.exchange.new.self c.exchange.new.arg4 c.exchange.result
          (record { found = _; text = _; before = _; after = _; shows = (refl, refl, refl); called = c.exchange.ensures; leaves = refl })
          c.if-not-exchange.false,
    )

-- one match fewer is left
pub loop-found-smaller : goal.loop-found-smaller
loop-found-smaller g c = grind (arith, common_steps)

-- as far as the last match that was exchanged
leads-there : (g : Over) (c : After-extend_from_slice-2 g) → LeadsOn g.F.FnMut (λ d. d.items) c.args.haystack.now
    (g.W.Walk.left c.args.walk) c.args.exchange c.args.destination.now c.match-next_match.place [] c.match-next_match.exchange c.match-next_match.destination
leads-there g c =
    elim c.match-next_match.branch [
      | in_default w ↦ leads-out c.loop-found.invariant.2 w.in_default.ensures.0 w.place-is w.exchange-is
          w.destination-is
      | in-Some+in_ok-extend_from_slice+then-not-exchange w ↦ leads-out
          (leads-stop w.in-Some.found (g.W.Walk.left c.next_match.new.self) c.loop-found.invariant.2 w.in-Some.ensures
          w.start.result w.start-in-Some.result w.end-place.result w.start.ensures
          w.start-in-Some.ensures w.end-place.ensures w.extend_from_slice.new.self
          w.in_ok-extend_from_slice.ensures.items w.exchange.new.self w.exchange.new.arg4 w.exchange.result
          (record { found = _; text = _; before = _; after = _; shows = (refl, refl, refl); called = w.exchange.ensures; leaves = refl })
          w.if-not-exchange.true) refl w.place-is w.exchange-is w.destination-is
    ]

-- what follows the last match was refused
pub returns-in_err-extend_from_slice-2 : goal.returns-in_err-extend_from_slice-2
returns-in_err-extend_from_slice-2 g c =
    steps-refused c.from_residual-in_err-extend_from_slice-2.result _ _ _ c.from_residual-in_err-extend_from_slice-2.ensures.1 (leads-end_refused c.extend_from_slice-2.new.self
    (leads-there g (goal.at.returns-in_err-extend_from_slice-2 g c).After-extend_from_slice-2)
    c.in_err-extend_from_slice-2.ensures.items)

-- what follows the last match was appended
pub returns : goal.returns
returns g c =
    leads-end c.extend_from_slice-2.new.self (leads-there g (goal.at.returns g c).After-extend_from_slice-2)
    (c.in_ok-extend_from_slice-2.ensures.items
    ∙ ap (λ (rest : List ℕ). c.match-next_match.destination.items ++ rest) (slice_to_end c.args.haystack.now c.match-next_match.place))

pub slice_bounds-exchange-count : goal.slice_bounds-exchange-count
slice_bounds-exchange-count g c = grind (arith, common_steps)

pub slice_bounds-exchange-end : goal.slice_bounds-exchange-end
slice_bounds-exchange-end g c = grind (arith, common_steps)

pub slice_bounds-exchange-start : goal.slice_bounds-exchange-start
slice_bounds-exchange-start g c = grind (arith, common_steps)

pub slice_bounds-extend_from_slice-count : goal.slice_bounds-extend_from_slice-count
slice_bounds-extend_from_slice-count g c = grind (arith, common_steps)

pub slice_bounds-extend_from_slice-end : goal.slice_bounds-extend_from_slice-end
slice_bounds-extend_from_slice-end g c = grind (arith, common_steps)

pub slice_bounds-extend_from_slice-start : goal.slice_bounds-extend_from_slice-start
slice_bounds-extend_from_slice-start g c = grind (arith, common_steps)

pub slice_bounds-extend_from_slice-count-2 : goal.slice_bounds-extend_from_slice-count-2
slice_bounds-extend_from_slice-count-2 g c = grind (arith, common_steps)
