use Rattle.ac_util.proofs.Prelude.{subst}
use Rattle.ac_automaton.specs.Prelude.{PieceListing, TakesToItem}
use Rattle.ac_automaton.proofs.OverlappingPieceSteps.{lists-left, lists-more}
use Rattle.ac_automaton.proofs.automaton.overlapping_pieces.OverlappingPieceFinder.next.Goals as goal

pub returns-in-Some : goal.returns-in-Some
returns-in-Some g c = lists-left c.in-Some.ensures.gives c.in-Some.ensures.small c.args.piece.now.now

pub returns : goal.returns
returns g c =
    let none = c.in_default.ensures.gives in
    lists-more (none.all)
    (subst (λ (v : PieceListing). TakesToItem v c.args.piece.now.now c.read_on.new.self c.read_on.new.piece.now) (none.same)
    c.read_on.ensures)
    c.take_due-2.ensures.gives c.take_due-2.ensures.small
