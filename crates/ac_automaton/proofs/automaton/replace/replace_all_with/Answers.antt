use Rattle.ac_util.proofs.Prelude.{◌≡◌, ◌∙◌, ◌++◌, ℕ, true, [], List, ap, arith, refl, sym, subst, length, of_calls, rules, string_bytes, common_steps}
use Rattle.ac_automaton.specs.Prelude.{AreInOrder, is_whole, whole_characters}
use Rattle.std.specs.Str.{IsCharBoundary}
use Rattle.std.proofs.lemmas.Str.{IsCharBoundary-start}
use Rattle.ac_util.proofs.Exchanges.{in_order-earlier, is_whole-ends, whole_characters-skip, whole_characters-take}
use Rattle.ac_automaton.proofs.Exchanging.{LeadsOn, leads-begin, leads-end, leads-end_refused, leads-out, leads-refused, leads-skip, leads-stop, leads-turn, steps-refused}
use Rattle.ac_automaton.proofs.automaton.replace.replace_all_with.Given.{Over}
use Rattle.ac_automaton.proofs.automaton.replace.replace_all_with.Goals as goal
use Rattle.ac_automaton.proofs.automaton.replace.replace_all_with.Goals.{After-push_str-2, in_default, in-Some+then-cuts_no_character+in_ok-push_str+then-not-exchange}

-- all matches are left
pub loop-found-init : goal.loop-found-init
loop-found-init g c = search (rules, IsCharBoundary-start, leads-begin)

-- the gap ends where the match begins, and both are at boundaries
pub range-requires-clause-start_le_end : goal.range-requires-clause-start_le_end
range-requires-clause-start_le_end g c =
    let order = subst (AreInOrder (length c.args.text.now) c.loop-found.invariant.2.0 c.loop-found.place) c.in-Some.ensures
    c.loop-found.invariant.2.1 in
    let low = order.0 in omega arith

pub range-requires-clause-start_boundary : goal.range-requires-clause-start_boundary
range-requires-clause-start_boundary g c = λ _. c.loop-found.invariant.1

pub range-requires-clause-end_boundary : goal.range-requires-clause-end_boundary
range-requires-clause-end_boundary g c =
    subst (IsCharBoundary c.args.text.now) (sym c.start.ensures) (is_whole-ends c.args.text.now c.in-Some.found
    (sym c.cuts_no_character.ensures ∙ c.if-cuts_no_character.true)).0

-- and so is its end
pub range-requires-then-cuts_no_character-clause-start_le_end : goal.range-requires-then-cuts_no_character-clause-start_le_end
range-requires-then-cuts_no_character-clause-start_le_end g c =
    let order = subst (AreInOrder (length c.args.text.now) c.loop-found.invariant.2.0 c.loop-found.place) c.in-Some.ensures
    c.loop-found.invariant.2.1 in
    let ordered = order.1 in omega arith

pub range-requires-then-cuts_no_character-clause-start_boundary : goal.range-requires-then-cuts_no_character-clause-start_boundary
range-requires-then-cuts_no_character-clause-start_boundary g c = λ _.
    subst (IsCharBoundary c.args.text.now) (sym c.start-then-cuts_no_character.ensures) (is_whole-ends c.args.text.now c.in-Some.found
    (sym c.cuts_no_character.ensures ∙ c.if-cuts_no_character.true)).0

pub range-requires-then-cuts_no_character-clause-end_boundary : goal.range-requires-then-cuts_no_character-clause-end_boundary
range-requires-then-cuts_no_character-clause-end_boundary g c =
    subst (IsCharBoundary c.args.text.now) (sym c.end-place.ensures) (is_whole-ends c.args.text.now c.in-Some.found
    (sym c.cuts_no_character.ensures ∙ c.if-cuts_no_character.true)).1

-- the gap was refused
pub returns-in_err-push_str : goal.returns-in_err-push_str
returns-in_err-push_str g c =
    let text = c.args.text.now in
    let rest = g.W.Walk.left c.next_match.new.self in
    steps-refused c.from_residual.result _ _ _ c.from_residual.ensures.1 (leads-refused c.in-Some.found (whole_characters text rest)
    c.loop-found.invariant.3 (ap (whole_characters text) c.in-Some.ensures
    ∙ whole_characters-take text c.in-Some.found rest (sym c.cuts_no_character.ensures ∙ c.if-cuts_no_character.true))
    c.push_str.new.self c.in_err-push_str.ensures.bytes)

-- the gap was appended, and the call asks to go on
pub loop-found-preserved-else-not-exchange : goal.loop-found-preserved-else-not-exchange
loop-found-preserved-else-not-exchange g c =
    let text = c.args.text.now in
    let texts = c.loop-found.invariant.2.0 in
    let found = c.in-Some.found in
    let rest = (g.W.Walk.left c.next_match.new.self) in
    let shown = c.range-then-cuts_no_character.ensures.value in
    let whole : is_whole text found ≡ true = sym c.cuts_no_character.ensures ∙ c.if-cuts_no_character.true in
    let order = subst (AreInOrder (length text) texts c.loop-found.place) c.in-Some.ensures c.loop-found.invariant.2.1 in (
      search (rules, of_calls),
      subst (IsCharBoundary text) (sym c.end-place.ensures) (is_whole-ends text found whole).1,
      (texts, subst (λ (place : ℕ). AreInOrder (length text) texts place rest) (sym c.end-place.ensures) order.4),
      leads-turn found (whole_characters text rest) c.loop-found.invariant.3
          (ap (whole_characters text) c.in-Some.ensures
          ∙ whole_characters-take text found rest whole)
          c.start.result c.start-then-cuts_no_character.result c.end-place.result c.start.ensures
          c.start-then-cuts_no_character.ensures c.end-place.ensures c.push_str.new.self
          (c.in_ok-push_str.ensures.bytes
          ∙ ap (λ (gap : List ℕ). string_bytes c.loop-found.destination ++ gap) c.range.ensures.value)
          c.exchange.new.self c.exchange.new.arg4 c.exchange.result (record { found = _; text = _; before = _; after = _; shows = (refl, shown, refl); called = c.exchange.ensures; leaves = refl }) c.if-not-exchange.false,
    )

-- a match that cuts a character was passed over
pub loop-found-preserved : goal.loop-found-preserved
loop-found-preserved g c =
    let text = c.args.text.now in
    let texts = c.loop-found.invariant.2.0 in
    let found = c.in-Some.found in
    let rest = (g.W.Walk.left c.next_match.new.self) in
    let order = subst (AreInOrder (length text) texts c.loop-found.place) c.in-Some.ensures c.loop-found.invariant.2.1 in (
      c.loop-found.invariant.0,
      c.loop-found.invariant.1,
      (
        texts,
        in_order-earlier (length text) texts c.loop-found.place found.end rest
            (let start = order.0 in let end = order.1 in omega arith) order.4,
      ),
      leads-skip c.loop-found.invariant.3
          (ap (whole_characters text) c.in-Some.ensures
          ∙ whole_characters-skip text found rest
          (sym c.cuts_no_character.ensures ∙ c.if-cuts_no_character.false)),
    )

-- one match fewer is left, whether it cuts a character or not
pub loop-found-smaller-else-not-exchange : goal.loop-found-smaller-else-not-exchange
loop-found-smaller-else-not-exchange g c = grind (arith, common_steps)

pub loop-found-smaller : goal.loop-found-smaller
loop-found-smaller g c = grind (arith, common_steps)

-- the last match ends where a character does
pub range_from-requires : goal.range_from-requires
range_from-requires g c = search (rules, in_default, in-Some+then-cuts_no_character+in_ok-push_str+then-not-exchange, is_whole-ends)

-- as far as the last match that was exchanged
leads-there : (g : Over) (c : After-push_str-2 g) → LeadsOn g.F.FnMut (λ d. string_bytes d) c.args.text.now (whole_characters c.args.text.now (g.W.Walk.left c.args.walk)) c.args.exchange
    c.args.destination.now c.match-next_match.place [] c.match-next_match.exchange c.match-next_match.destination
leads-there g c =
    let text = c.args.text.now in
    elim c.match-next_match.branch [
      | in_default w ↦ leads-out c.loop-found.invariant.3
          (ap (whole_characters text) w.in_default.ensures.0) w.place-is w.exchange-is
          w.destination-is
      | in-Some+then-cuts_no_character+in_ok-push_str+then-not-exchange w ↦
          let shown = w.range-then-cuts_no_character.ensures.value in
          leads-out (leads-stop w.in-Some.found (whole_characters text (g.W.Walk.left c.next_match.new.self)) c.loop-found.invariant.3
          (ap (whole_characters text) w.in-Some.ensures
          ∙ whole_characters-take text w.in-Some.found (g.W.Walk.left c.next_match.new.self)
          (sym w.cuts_no_character.ensures ∙ w.if-cuts_no_character.true))
          w.start.result w.start-then-cuts_no_character.result w.end-place.result w.start.ensures
          w.start-then-cuts_no_character.ensures w.end-place.ensures w.push_str.new.self
          (w.in_ok-push_str.ensures.bytes
          ∙ ap (λ (gap : List ℕ). string_bytes c.loop-found.destination ++ gap) w.range.ensures.value)
          w.exchange.new.self w.exchange.new.arg4 w.exchange.result (record { found = _; text = _; before = _; after = _; shows = (refl, shown, refl); called = w.exchange.ensures; leaves = refl }) w.if-not-exchange.true) refl w.place-is w.exchange-is w.destination-is
    ]

-- what follows the last match was refused
pub returns-in_err-push_str-2 : goal.returns-in_err-push_str-2
returns-in_err-push_str-2 g c =
    steps-refused c.from_residual-in_err-push_str-2.result _ _ _ c.from_residual-in_err-push_str-2.ensures.1 (leads-end_refused c.push_str-2.new.self
    (leads-there g (goal.at.returns-in_err-push_str-2 g c).After-push_str-2) c.in_err-push_str-2.ensures.bytes)

-- what follows the last match was appended
pub returns : goal.returns
returns g c =
    leads-end c.push_str-2.new.self (leads-there g (goal.at.returns g c).After-push_str-2) (c.in_ok-push_str-2.ensures.bytes
    ∙ ap (λ (rest : List ℕ). string_bytes c.match-next_match.destination ++ rest) c.range_from.ensures.value)
