use Rattle.ac_util.proofs.Prelude.{true, ◌≡◌, [], ap, sym, subst, ◌∙◌, inl, inr, Option, Some, MatchOption, rules, cases_lt, false≢true}
use Rattle.ac_automaton.specs.Prelude.{input_of, search_in, Span, Anchored, in_memory, Reached, Scan, scan_of}
use Rattle.ac_automaton.proofs.ListLoop.{arrived}
use Rattle.ac_automaton.proofs.Overlapping.{GoesOnFrom, by_state-served, gives-moved, goes_on-there, past_end-gives}
use Rattle.ac_automaton.proofs.automaton.overlap.try_find_overlapping.Given.{Over}
use Rattle.ac_automaton.proofs.automaton.overlap.try_find_overlapping.Goals.{After-open-tape, in-Some, in-None}
use Rattle.ac_automaton.specs.Overlaps.{given_by}
use Rattle.ac_automaton.proofs.automaton.overlap.try_find_overlapping.Goals as goal

pub returns-then-is_done : goal.returns-then-is_done
returns-then-is_done g c = search (rules, by_state-served, past_end-gives)

module _ (g : Over) (c : After-open-tape g) where
  abbrev s : Scan
  s =
      scan_of (g.A.Automaton.seen c.args.automaton.now) (input_of c.args.input).anchored true

  abbrev span : Span
  span = record { start = (input_of c.args.input).start; end = (input_of c.args.input).end }

  -- where the listing goes on
  goes_on : GoesOnFrom s (in_memory (input_of c.args.input).haystack span)
      (given_by s.listed (search_in s.built (input_of c.args.input)) c.args.state.now.reached) c.match-state.reached
  goes_on =
      let input = input_of c.args.input in
      let here = c.match-state.reached in
      let start = c.in_ok-start.start in
      let Goes : Option Reached → Type 0 =
      λ r. MatchOption r (here ≡ arrived s input.haystack span start input.start) (λ there. here ≡ there) in
      goes_on-there s input.haystack span start
      (subst (λ (a : Anchored). (g.A.Automaton.seen c.args.automaton.now).stands a start (Some [])) c.get_anchored-anchored.ensures
      c.in_ok-start.ensures.2)
      (λ u stands. g.met.A.Automaton.lists c.args.automaton.now input.anchored start u stands)
      (c.in_ok-start.ensures.1)
      (elim (cases_lt input.end input.start) [
        | inl past ↦ absurd (false≢true (sym c.if-is_done.false ∙ c.is_done.ensures.1 past))
        | inr ordered ↦ ordered
      ])
      c.args.input.end_within c.args.state.now.reached here c.requires.placed
      (elim c.match-state.branch [
        | in-Some w ↦ subst Goes (sym w.in-Some.is) w.reached-is
        | in-None w ↦
            subst Goes (sym w.in-None.is) (w.reached-is ∙ w.new-reached.ensures
            ∙ ap (arrived s input.haystack span start) w.start.ensures)
      ])

pub next_item-found-requires-clause-may : goal.next_item-found-requires-clause-may
next_item-found-requires-clause-may g c = search (rules, goes_on)

pub returns : goal.returns
returns g c =
    let o = (goal.at.returns g c).After-open-tape in
    let input = input_of c.args.input in (
      by_state-served (s g o).built input
          (rw (sym c.get_anchored-anchored.ensures) c.in_ok-start.ensures.0)
          (c.in_ok-start.ensures.1),
      gives-moved (s g o) (in_memory input.haystack (span g o)) c.args.state.now c.match-state.reached
          c.next_item-found.result c.next_item-found.new.reached (goes_on g o).as_many
          (rw (c.get_anchored-anchored.ensures, c.open-tape.ensures.tape, c.get_span.ensures) at c.next_item-found.ensures.moved),
    )
