use Rattle.ac_util.proofs.Prelude.{true, ◌≡◌, ℕ, ◌≤◌, List, false, ap, refl, sym, subst, ◌∙◌, Option, Some, rules, arith, common_steps}
use Rattle.ac_automaton.specs.Prelude.{input_of, No, Node, Span, given_by, in_memory, IsListing, Lists, nothing_done, Reached, Scan, scan_of, search_through}
use Rattle.ac_automaton.proofs.ListLoop.{arrived}
use Rattle.ac_automaton.proofs.Overlapping.{goes_on-start, iterator-served, listing-starts}
use Rattle.ac_automaton.proofs.automaton.overlap_iter.FindOverlappingIter.new.Given.{Over}
use Rattle.ac_automaton.proofs.automaton.overlap_iter.FindOverlappingIter.new.Goals.{After-open-tape, then-is_done, else-is_done}
use Rattle.ac_automaton.proofs.automaton.overlap_iter.FindOverlappingIter.new.Goals as goal

module _ (g : Over) (c : After-open-tape g) where
  abbrev s : Scan
  s =
      scan_of (g.A.Automaton.seen c.args.automaton.now) c.get_anchored-anchored.result true

  abbrev span : Span
  span = record { start = (input_of c.args.input).start; end = (input_of c.args.input).end }

  abbrev bytes : List ℕ
  bytes = (input_of c.args.input).haystack

  unanchored : s.anchored ≡ No
  unanchored = grind (arith, common_steps)

  lists : (u : Node) → s.stands c.in_ok-begun.begun u → Lists s.built s.anchored u (s.listed c.in_ok-begun.begun)
  lists u stands = grind (arith, common_steps)

  -- the span isn't past its end
  ordered : c.is_done.result ≡ false → span.start ≤ span.end
  ordered not_done = grind (arith, common_steps)

  -- how the listing begins: it has read nothing, and has given nothing
  record Begins (reached : Option Reached) : Type 0 where
    listing : IsListing s (in_memory bytes span) reached nothing_done
    given : given_by s.listed (search_through s (in_memory bytes span)) reached ≡ 0

  begins : Begins c.if-is_done.reached
  begins = elim c.if-is_done.branch [
    | then-is_done w ↦
        subst Begins (sym w.reached-is)
        (record {
          listing = record {
            standard = c.in_ok-begun.ensures.1;
            unanchored = unanchored;
            legal = c.args.input.end_within;
            begun = (c.is_done.ensures.0 w.if-is_done.true, refl);
          };
          given = refl;
        })
    | else-is_done w ↦
        let start = goes_on-start s bytes span c.in_ok-begun.begun c.in_ok-begun.ensures.2 lists c.in_ok-begun.ensures.1
        (ordered w.if-is_done.false) c.args.input.end_within in
        subst Begins (sym (w.reached-is ∙ ap (λ (r : Reached). Some r) (w.new.ensures
        ∙ ap (arrived s bytes span c.in_ok-begun.begun) w.start.ensures)))
        (record {
          listing = listing-starts s bytes span c.in_ok-begun.begun c.in_ok-begun.ensures.2 lists
              c.in_ok-begun.ensures.1 (ordered w.if-is_done.false) c.args.input.end_within unanchored;
          given = start.as_many;
        })
  ]

pub invariant_of-result : goal.invariant_of-result
invariant_of-result g c = search (rules, begins)

pub returns : goal.returns
returns g c = search (rules, begins, iterator-served, unanchored)
