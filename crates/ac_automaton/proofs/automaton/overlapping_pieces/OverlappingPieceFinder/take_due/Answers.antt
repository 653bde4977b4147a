use Rattle.ac_util.proofs.Prelude.{true, subst}
use Rattle.ac_automaton.specs.Prelude.{AutomatonView, GivesTaken, No, PieceListing, TakesDue, piece_listing, scan_of}
use Rattle.ac_automaton.specs.Finds.{between}
use Rattle.ac_automaton.proofs.OverlappingPieces.{gives-some, stands-some}
use Rattle.ac_automaton.proofs.automaton.overlapping_pieces.OverlappingPieceFinder.take_due.Given.{Over}
use Rattle.ac_automaton.proofs.automaton.overlapping_pieces.OverlappingPieceFinder.take_due.Goals.{In_ok-found}
use Rattle.ac_automaton.proofs.automaton.overlapping_pieces.OverlappingPieceFinder.take_due.Goals as goal

-- a match was taken of those that are left
module _ (g : Over) (c : In_ok-found g) where
  abbrev a : AutomatonView
  a = g.A.Automaton.seen c.self.inside.shared.automaton.value

  takes : TakesDue (record { scan = scan_of a No true; span = between 0 c.self.inside.reached.at }) c.self.inside.reached
      c.take_due.result c.take_due.new.reached
  takes = rw (c.scanner-scanner.ensures, c.core.ensures.automaton) at c.take_due.ensures

pub invariant_of-self-2 : goal.invariant_of-self-2
invariant_of-self-2 g c =
    let d = (goal.at.invariant_of-self-2 g c).In_ok-found in
    stands-some (a g d) c.self.invariant (takes g d) (c.in_ok-found.was) c.after-self-inside.ensures

pub returns-clause-gives : goal.returns-clause-gives
returns-clause-gives g c =
    let d = (goal.at.returns-clause-gives g c).In_ok-found in
    subst (λ (v : PieceListing). GivesTaken v c.in_ok-found.found
    (piece_listing (a g d).built c.self.inside.history.bytes c.after-self-inside.result.number)) c.self.view_is
    (gives-some (a g d) c.self.invariant (takes g d) (c.in_ok-found.was) c.after-self-inside.ensures)
