use Rattle.ac_util.proofs.Prelude.{◌≡◌, ◌∙◌, ◌+◌, ℕ, List, Some, None, Ok, Err, sym, ap, subst, slice_range, arith, rules, common_steps}
use Rattle.ac_automaton.specs.Prelude.{GivesMatch, PassesPiece, Streaming}
use Rattle.ac_automaton.proofs.Places.{refused-by}
use Rattle.ac_automaton.proofs.StreamExchanging.{exchange-fails, gap-fails, replaced-match}
use Rattle.ac_automaton.proofs.StreamExchanged.{fails-further, last-fails, last-flushed}
use Rattle.ac_automaton.proofs.automaton.stream_replace.exchange_read.Given.{Over}
use Rattle.ac_automaton.proofs.automaton.stream_replace.exchange_read.Goals.{After-bytes, After-exchange, After-pass-in-loop-found}
use Rattle.ac_automaton.proofs.automaton.stream_replace.exchange_read.Goals as goal

-- the bytes after the last match
module _ (g : Over) (c : After-bytes g) where
  after-last : c.bytes.result.now ≡ slice_range c.loop-found.finder.bytes c.loop-found.finder.kept c.next_read.new.self.kept
  after-last = search rules

pub returns-in_default-clause-exchanged : goal.returns-in_default-clause-exchanged
returns-in_default-clause-exchanged g c =
    let inv = c.loop-found.invariant in
    let passing = g.E.Exchange.passing in
    let passes = subst (λ (w : List ℕ). PassesPiece passing w
    (record { closure = c.loop-found.exchange; destination = c.loop-found.writer }) None
    (record { closure = c.pass.new.self; destination = c.pass.new.writer }))
    (after-last g (goal.at.returns-in_default-clause-exchanged g c).After-bytes) c.in_ok-pass.ensures.passes in
    last-flushed passing g.E.Exchange.calls _ _ _ _ _ inv.same inv.replaced c.in_default.ensures _ _ c.write_held.result passes
    c.write_held.ensures.passes c.write_held.ensures.clear

pub returns-in_err-pass-clause-exchanged : goal.returns-in_err-pass-clause-exchanged
returns-in_err-pass-clause-exchanged g c =
    let inv = c.loop-found.invariant in
    let passing = g.E.Exchange.passing in
    let e = c.in_err-pass.field-0.0 in
    let fails = subst (λ (w : List ℕ). PassesPiece passing w
    (record { closure = c.loop-found.exchange; destination = c.loop-found.writer }) (Some e)
    (record { closure = c.pass.new.self; destination = c.pass.new.writer }))
    (after-last g (goal.at.returns-in_err-pass-clause-exchanged g c).After-bytes) c.in_err-pass.ensures.passes in
    refused-by c.from_residual.result e _ _ c.from_residual.ensures.1
    (last-fails passing g.E.Exchange.calls _ _ _ _ _ inv.same inv.replaced c.in_default.ensures e _ fails)

-- what stands before a match that is given next
before-match : (g : Over) (c : After-pass-in-loop-found g) → c.bytes-in-loop-found.result.now
    ≡ slice_range c.loop-found.finder.bytes c.loop-found.finder.kept c.in-Some.found.start
before-match g c = search rules

pub returns-in_err-pass-2-clause-exchanged : goal.returns-in_err-pass-2-clause-exchanged
returns-in_err-pass-2-clause-exchanged g c =
    let passing = g.E.Exchange.passing in
    let calls = g.E.Exchange.calls in
    let v = c.loop-found.finder in
    let e = c.in_err-pass-2.field-0.0 in
    let m = c.in-Some.found in
    let gives : GivesMatch v m c.next_read.new.self = c.in-Some.ensures in
    let shown = before-match g (goal.at.returns-in_err-pass-2-clause-exchanged g c).After-pass-in-loop-found in
    let fails = subst (λ (w : List ℕ). PassesPiece passing w
    (record { closure = c.loop-found.exchange; destination = c.loop-found.writer }) (Some e)
    (record { closure = c.pass-in-loop-found.new.self; destination = c.pass-in-loop-found.new.writer })) shown
    c.in_err-pass-2.ensures.passes in
    refused-by c.from_residual-in_err-pass-2.result e _ _
    c.from_residual-in_err-pass-2.ensures.1
    (fails-further passing calls c.loop-found.invariant.same (record {
      given = gives.settled.given;
      place = gives.settled.place;
      settled = gives.settled.settled;
      steps = λ count from first done. gap-fails passing calls v first _ done m _ gives e _ fails;
    }) c.loop-found.invariant.replaced)

-- these bytes were passed on, and what is handed over is the match's slice
module _ (g : Over) (c : After-exchange g) where
  passes : c.bytes-in-loop-found.result.now
      ≡ slice_range c.loop-found.finder.bytes c.loop-found.finder.kept c.in-Some.found.start
      → PassesPiece g.E.Exchange.passing
      (slice_range c.loop-found.finder.bytes c.loop-found.finder.kept c.in-Some.found.start)
      (record { closure = c.loop-found.exchange; destination = c.loop-found.writer }) None
      (record { closure = c.pass-in-loop-found.new.self; destination = c.pass-in-loop-found.new.writer })
  passes shown = rw (sym shown) c.in_ok-pass-2.ensures.passes

  slice : c.bytes-in-loop-found-2.result.now
      ≡ slice_range c.loop-found.finder.bytes c.in-Some.found.start c.in-Some.found.end
  slice = search rules

pub loop-found-preserved : goal.loop-found-preserved
loop-found-preserved g c =
    let passing = g.E.Exchange.passing in
    let calls = g.E.Exchange.calls in
    let v = c.loop-found.finder in
    let m = c.in-Some.found in
    let gives : GivesMatch v m c.next_read.new.self = c.in-Some.ensures in
    let d = (goal.at.loop-found-preserved g c).After-exchange in
    let passed = passes g d (before-match g (goal.at.loop-found-preserved g c).After-pass-in-loop-found) in
    record {
      accepted = λ n accepts. c.exchange.ensures.still n
          (c.pass-in-loop-found.ensures.still n (c.loop-found.invariant.accepted n accepts));
      same = gives.same
          ∙ ap (λ (w : Streaming). record w { given = v.given + 1; kept = m.end }) c.loop-found.invariant.same
          ∙ ap (λ (n : ℕ). record c.args.finder.now { given = n; kept = m.end })
          (sym (ap (λ (w : Streaming). w.given) gives.same))
          ∙ ap (λ (k : ℕ). record c.args.finder.now { given = c.next_read.new.self.given; kept = k })
          (sym (ap (λ (w : Streaming). w.kept) gives.same));
      replaced = λ count from first done.
          replaced-match passing calls v first _ (c.loop-found.invariant.replaced count from first done) m _ gives
          (record { closure = c.pass-in-loop-found.new.self; destination = c.pass-in-loop-found.new.writer })
          passed _
          (subst (λ (w : List ℕ). calls m w
          (record { closure = c.pass-in-loop-found.new.self; destination = c.pass-in-loop-found.new.writer }) (Ok tt)
          (record { closure = c.exchange.new.self; destination = c.exchange.new.writer })) (slice g d)
          c.in_ok-exchange.ensures.calls);
    }

pub returns-in_err-exchange-clause-exchanged : goal.returns-in_err-exchange-clause-exchanged
returns-in_err-exchange-clause-exchanged g c =
    let passing = g.E.Exchange.passing in
    let calls = g.E.Exchange.calls in
    let v = c.loop-found.finder in
    let m = c.in-Some.found in
    let e = c.in_err-exchange.field-0.0 in
    let gives : GivesMatch v m c.next_read.new.self = c.in-Some.ensures in
    let d = (goal.at.returns-in_err-exchange-clause-exchanged g c).After-exchange in
    let passed = passes g d (before-match g (goal.at.returns-in_err-exchange-clause-exchanged g c).After-pass-in-loop-found) in
    refused-by c.from_residual-in_err-exchange.result e _ _ c.from_residual-in_err-exchange.ensures.1
    (fails-further passing calls c.loop-found.invariant.same (record {
      given = gives.settled.given;
      place = gives.settled.place;
      settled = gives.settled.settled;
      steps = λ count from first done.
          exchange-fails passing calls v first _ done m _ gives
          (record { closure = c.pass-in-loop-found.new.self; destination = c.pass-in-loop-found.new.writer })
          passed e _
          (subst (λ (w : List ℕ). calls m w
          (record { closure = c.pass-in-loop-found.new.self; destination = c.pass-in-loop-found.new.writer }) (Err e)
          (record { closure = c.exchange.new.self; destination = c.exchange.new.writer })) (slice g d)
          c.in_err-exchange.ensures.calls);
    }) c.loop-found.invariant.replaced)

pub bytes-requires-in-loop-found-clause-in_buffer : goal.bytes-requires-in-loop-found-clause-in_buffer
bytes-requires-in-loop-found-clause-in_buffer g c = grind (arith, common_steps)

pub bytes-requires-in-loop-found-clause-within : goal.bytes-requires-in-loop-found-clause-within
bytes-requires-in-loop-found-clause-within g c = grind (arith, common_steps)

pub bytes-requires-in-loop-found-2-clause-in_buffer : goal.bytes-requires-in-loop-found-2-clause-in_buffer
bytes-requires-in-loop-found-2-clause-in_buffer g c = grind (arith, common_steps)

pub bytes-requires-in-loop-found-2-clause-within : goal.bytes-requires-in-loop-found-2-clause-within
bytes-requires-in-loop-found-2-clause-within g c = grind (arith, common_steps)

pub returns-in_err-exchange-clause-accepted : goal.returns-in_err-exchange-clause-accepted
returns-in_err-exchange-clause-accepted g c = grind (arith, common_steps)

pub returns-in_err-pass-2-clause-accepted : goal.returns-in_err-pass-2-clause-accepted
returns-in_err-pass-2-clause-accepted g c = grind (arith, common_steps)
