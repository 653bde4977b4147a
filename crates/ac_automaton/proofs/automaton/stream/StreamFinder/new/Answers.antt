use Rattle.ac_util.proofs.Prelude.{◌≡◌, ◌∙◌, refl, length, sym, ap, arith, not, rules, common_steps}
use Rattle.ac_automaton.specs.Prelude.{buffer_len, is_leftmost, MatchKind}
use Rattle.ac_automaton.proofs.Places.{refused-by}
use Rattle.ac_automaton.proofs.StreamBegins.{buffer-begins, most-kept, not-leftmost, streams-begin}
use Rattle.ac_automaton.proofs.StreamRefusals.{not-refused, refused-empty}
use Rattle.ac_automaton.proofs.automaton.stream.StreamFinder.new.Given.{Over}
use Rattle.ac_automaton.proofs.automaton.stream.StreamFinder.new.Goals.{After-empty, in-Standard, in_default}
use Rattle.ac_automaton.proofs.automaton.stream.StreamFinder.new.Goals as goal

pub returns-then-min_pattern_len-eq0 : goal.returns-then-min_pattern_len-eq0
returns-then-min_pattern_len-eq0 g c = search (rules, refused-empty)

pub returns-in_err-resize : goal.returns-in_err-resize
returns-in_err-resize g c = search (rules, not-refused, refused-by)

-- the buffer is as long as it should be
long : (g : Over) (c : After-empty g)
    → length c.resize.new.self.items ≡ buffer_len (g.A.Automaton.seen c.args.automaton.now).built.patterns
long g c = grind (arith, common_steps)

pub invariant_of-result : goal.invariant_of-result
invariant_of-result g c =
    let allowed = not-refused (g.A.Automaton.seen c.args.automaton.now).built c.in_ok-start.ensures.0
    (λ e. c.if-min_pattern_len-eq0.false (c.min_pattern_len.ensures ∙ e)) in
    let kind = (g.A.Automaton.seen c.args.automaton.now).built.kind in
    let stops : c.match-matches.matches ≡ not (is_leftmost kind) = elim c.match-matches.branch [
      | in-Standard w ↦
          w.matches-is ∙ ap (λ (k : MatchKind). not (is_leftmost k)) (sym w.in-Standard.is ∙ c.match_kind.ensures)
      | in_default w ↦
          w.matches-is
          ∙ sym (ap not (not-leftmost kind (λ standard. w.in_default.not-Standard (c.match_kind.ensures ∙ standard))))
    ] in
    record {
      commits = c.commits.ensures;
      streams = streams-begin _ _ _ allowed c.in_ok-start.start c.in_ok-start.ensures.1 _ _ _ _ _ _ stops
          (c.most_kept.ensures ∙ most-kept (g.A.Automaton.seen c.args.automaton.now).built _ _ stops c.max_pattern_len-longest.ensures)
          c.of.ensures c.zero.ensures c.empty.ensures;
      buffered = buffer-begins (long g c) (let ok = c.resize.new.self.ok in let small = c.resize.new.self.small in omega arith) refl refl;
    }

pub returns : goal.returns
returns g c = search (rules, long, not-refused)
