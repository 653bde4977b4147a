use Rattle.ac_util.proofs.Prelude.{rules}
use Rattle.ac_automaton.specs.Prelude.{No}
use Rattle.ac_automaton.proofs.Places.{refused-by}
use Rattle.ac_automaton.proofs.OverlappingPieceSteps.{listing-begins, refused-empty, unrefused}
use Rattle.ac_automaton.proofs.automaton.overlapping_pieces.OverlappingPieceFinder.new.Goals as goal

pub returns-then-min_pattern_len-eq0 : goal.returns-then-min_pattern_len-eq0
returns-then-min_pattern_len-eq0 g c = search (rules, refused-empty)

pub returns-in_err-of : goal.returns-in_err-of
returns-in_err-of g c = search (rules, unrefused, refused-by)

pub invariant_of-result : goal.invariant_of-result
invariant_of-result g c =
    let shared = c.as_ref-lent.result.now in
    rw (c.in_ok-of.ensures.automaton, ← c.as_ref-lent.ensures) (listing-begins (g.A.Automaton.seen shared) c.in_ok-start.ensures.1
    c.in_ok-start.ensures.2 (g.met.A.Automaton.lists shared No c.in_ok-start.start) c.in_ok-of.ensures.stops c.new.ensures
    c.empty.ensures c.zero.ensures)

pub returns : goal.returns
returns g c = search (rules, unrefused)
