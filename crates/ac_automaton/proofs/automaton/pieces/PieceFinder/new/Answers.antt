use Rattle.ac_util.proofs.Prelude.{◌≡◌, ◌∙◌, sym, ap, not, rules}
use Rattle.ac_automaton.specs.Prelude.{is_leftmost, MatchKind}
use Rattle.ac_automaton.proofs.Places.{refused-by}
use Rattle.ac_automaton.proofs.Pieces.{fed-begins}
use Rattle.ac_automaton.proofs.StreamBegins.{most-kept, not-leftmost}
use Rattle.ac_automaton.proofs.StreamRefusals.{not-refused, refused-empty}
use Rattle.ac_automaton.proofs.automaton.pieces.PieceFinder.new.Goals.{in-Standard, in_default}
use Rattle.ac_automaton.proofs.automaton.pieces.PieceFinder.new.Goals as goal

pub returns-then-min_pattern_len-eq0 : goal.returns-then-min_pattern_len-eq0
returns-then-min_pattern_len-eq0 g c = search (rules, refused-empty)

pub returns-in_err-of : goal.returns-in_err-of
returns-in_err-of g c = search (rules, not-refused, refused-by)

pub invariant_of-result : goal.invariant_of-result
invariant_of-result g c =
    let seen = g.A.Automaton.seen in let shared = c.as_ref-lent.result.now in
    let allowed = not-refused (seen shared).built c.in_ok-start.ensures.0
    (λ e. c.if-min_pattern_len-eq0.false (c.min_pattern_len.ensures ∙ e)) in
    let kind = (seen shared).built.kind in
    let stops : c.match-matches.matches ≡ not (is_leftmost kind) = elim c.match-matches.branch [
      | in-Standard w ↦
          w.matches-is ∙ ap (λ (k : MatchKind). not (is_leftmost k)) (sym w.in-Standard.is ∙ c.match_kind.ensures)
      | in_default w ↦
          w.matches-is
          ∙ sym (ap not (not-leftmost kind (λ standard. w.in_default.not-Standard (c.match_kind.ensures ∙ standard))))
    ] in
    let core = c.in_ok-of.ensures in
    rw (core.automaton, core.start, core.stops, ← c.as_ref-lent.ensures) (fed-begins (seen shared)
    c.in_ok-of.field-0.commits.value (rw (c.as_ref-lent.ensures) (core.commits)) allowed c.in_ok-start.start c.in_ok-start.ensures.1
    c.match-matches.matches c.most_kept.result stops (c.most_kept.ensures
    ∙ most-kept (seen shared).built _ _ stops c.max_pattern_len-longest.ensures) c.of-2.ensures c.zero.ensures c.empty.ensures)

pub returns : goal.returns
returns g c = search (rules, not-refused)
