use Rattle.ac_util.proofs.Prelude.{◌≡◌, ap, sym, subst, ◌∙◌, List, ℕ, Option, Some, arith, rules, common_steps}
use Rattle.ac_automaton.specs.Prelude.{in_memory, IsListing, ListsNext, Overlapping, overlapping_by, Reached, Scan, scan_of, work_of}
use Rattle.ac_automaton.proofs.Overlapping.{lists-next, lists-past_end, listing-goes_on}
use Rattle.ac_automaton.proofs.automaton.overlap_iter.FindOverlappingIter.advance.Given.{Over}
use Rattle.ac_automaton.proofs.automaton.overlap_iter.FindOverlappingIter.advance.Goals.{After-self}
use Rattle.ac_automaton.proofs.automaton.overlap_iter.FindOverlappingIter.advance.Goals as goal

-- the listing, and how it is seen
module _ (g : Over) (c : After-self g) where
  abbrev s : Scan
  s =
      scan_of (g.A.Automaton.seen c.self.inside.scanner.automaton.now) c.self.inside.scanner.anchored c.self.inside.scanner.stops

  abbrev seen : Option Reached → Overlapping
  seen reached = overlapping_by s (in_memory c.self.inside.tape.bytes c.self.inside.scanner.span) reached (work_of c.self.inside.tape c.self.inside.looks)

  -- it goes on from where it has come to
  way : {reached : Option Reached} → c.self.inside.reached ≡ reached
      → IsListing s (in_memory c.self.inside.tape.bytes c.self.inside.scanner.span) reached (work_of c.self.inside.tape c.self.inside.looks)
  way is = search rules

pub returns-in_err-reached : goal.returns-in_err-reached
returns-in_err-reached g c = grind (arith, common_steps, lists-past_end (s g ((goal.at.returns-in_err-reached g c).After-self)) (c.self.inside).tape.bytes (c.self.inside).scanner.span (work_of (c.self.inside).tape (c.self.inside).looks) (way g ((goal.at.returns-in_err-reached g c).After-self) c.in_err-reached.was), way g ((goal.at.returns-in_err-reached g c).After-self) c.in_err-reached.was)

pub invariant_of-self : goal.invariant_of-self
invariant_of-self g c =
    let d = (goal.at.invariant_of-self g c).After-self in
    let inside = c.self.inside in
    let next = c.next_item-found in
    record {
      listing = subst (λ (bs : List ℕ). IsListing (s g d) (in_memory bs inside.scanner.span) (Some next.new.reached)
          (work_of next.new.tape next.new.looks)) (sym next.ensures.bytes)
          (listing-goes_on (s g d) inside.tape.bytes inside.scanner.span c.in_ok-reached.reached next.new.reached
          (work_of inside.tape inside.looks) (work_of next.new.tape next.new.looks) next.result
          (way g d c.in_ok-reached.was) next.ensures.moved next.ensures.scans);
      stops = c.self.invariant.stops;
      skips = c.self.invariant.skips;
    }

pub returns : goal.returns
returns g c =
    let d = (goal.at.returns g c).After-self in
    let inside = c.self.inside in
    let next = c.next_item-found in
    subst (λ (bs : List ℕ). ListsNext c.args.self.now next.result
    (overlapping_by (s g d) (in_memory bs inside.scanner.span) (Some next.new.reached)
    (work_of next.new.tape next.new.looks))) (sym next.ensures.bytes)
    (subst (λ (w : Overlapping). ListsNext w next.result (overlapping_by (s g d) (in_memory inside.tape.bytes inside.scanner.span) (Some next.new.reached)
    (work_of next.new.tape next.new.looks)))
    (ap (seen g d) (sym c.in_ok-reached.was) ∙ c.self.view_is)
    (lists-next (s g d) inside.tape.bytes inside.scanner.span c.in_ok-reached.reached next.new.reached
    (work_of inside.tape inside.looks) (work_of next.new.tape next.new.looks) next.result
    (way g d c.in_ok-reached.was) next.ensures.moved next.ensures.scans))
