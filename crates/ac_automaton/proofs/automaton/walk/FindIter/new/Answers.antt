use Rattle.ac_util.proofs.Prelude.{length, ap, rules, arith}
use Rattle.ac_automaton.specs.Prelude.{Span, Taped}
use Rattle.ac_automaton.proofs.WalkBegins.{kept-first, work-first}
use Rattle.ac_automaton.proofs.automaton.walk.FindIter.new.Goals as goal

-- the walk begins where its span does
pub invariant_of-result : goal.invariant_of-result
invariant_of-result g c =
    let starts = ap (λ (s : Span). s.start) c.get_span-span.ensures in
    let ends = ap (λ (s : Span). s.end) c.get_span-span.ensures in
    let bytes = ap (λ (t : Taped). length t.bytes) c.open-tape.ensures.tape in
    let within = c.args.input.end_within in
    let legal = c.args.input.start_within in
    record {
      whole = ap (λ (t : Taped). t.bytes) c.open-tape.ensures.tape;
      inside = omega arith;
      small = search rules;
      kept = kept-first c.open-tape.ensures.tape c.of.ensures c.open-tape.ensures.looks (omega arith) (omega arith) c.onward-onward.ensures;
    }

-- so all its matches are still to come
pub returns : goal.returns
returns g c =
    let starts = ap (λ (s : Span). s.start) c.get_span-span.ensures in
    search (rules, work-first g.A.Automaton.seen c.in_ok-finder.finder c.get_span-span.result c.onward-onward.result c.open-tape.ensures.tape c.open-tape.ensures.looks c.onward-onward.ensures)
