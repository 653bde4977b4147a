use Rattle.std.proofs.Common.{◌∙◌, ◌+◌, ℕ, List, ap, arith, drop, subst, sym, rules}
use Rattle.ac_search.specs.Streams.{GivesMatch, Streaming, matches_so_far}
use Rattle.acs.specs.declared.run.Outcome.TheVariants.{Found}
use Rattle.acs.specs.Modes.{FailsToWrite}
use Rattle.acs.specs.Printed.{FailsToPrintSettled}
use Rattle.acs.proofs.Results.{refused-by}
use Rattle.acs.proofs.Streaming.{next-stops, read-printed, read-printing, text-stops}
use Rattle.acs.proofs.output.print_read.Goals as goal

-- the line of one more match is in the text, or was written with it
pub loop-m-preserved : goal.loop-m-preserved
loop-m-preserved g c =
    let gives : GivesMatch c.loop-m.finder c.in-Some.m c.next_read.new.self = c.in-Some.ensures in
    record {
      same = gives.same
          ∙ ap (λ (u : Streaming). record u { given = c.loop-m.finder.given + 1; kept = c.in-Some.m.end })
          c.loop-m.invariant.same
          ∙ ap (λ (n : ℕ). record c.args.finder.now { given = n; kept = c.in-Some.m.end })
          (sym (ap (λ (u : Streaming). u.given) gives.same))
          ∙ ap (λ (k : ℕ). record c.args.finder.now { given = c.next_read.new.self.given; kept = k })
          (sym (ap (λ (u : Streaming). u.kept) gives.same));
      onward = (let one = ap (λ (u : Streaming). u.given) gives.same in let o = c.loop-m.invariant.onward in omega arith);
      printing = λ old h.
          c.in_ok-print_line.ensures (matches_so_far c.next_read.new.self)
          (drop c.next_read.new.self.given (matches_so_far c.next_read.new.self)) old Found
          (read-printing gives (c.loop-m.invariant.printing old h));
    }

-- the line of the next match could not be printed
pub returns-in_err-print_line : goal.returns-in_err-print_line
returns-in_err-print_line g c old h =
    let told = g.W.Sink.told in
    let v = c.loop-m.finder in
    let fault = c.in_err-print_line.field-0.0 in
    refused-by c.from_residual.result fault _ (FailsToPrintSettled c.args.finder.now old (told c.print_line.new.writer))
    c.from_residual.ensures.1
    (subst (λ (u : Streaming). FailsToPrintSettled u old (told c.print_line.new.writer) fault) c.loop-m.invariant.same
    (next-stops c.in-Some.ensures (c.loop-m.invariant.printing old h) c.in_err-print_line.ensures))

-- the text could not be written
pub returns-in_err-write_all : goal.returns-in_err-write_all
returns-in_err-write_all g c old h =
    let told = g.W.Sink.told in
    let fault = c.in_err-write_all.field-0.0 in
    refused-by c.from_residual-in_err-write_all.result fault _
    (FailsToPrintSettled c.args.finder.now old (told c.write_all.new.writer)) c.from_residual-in_err-write_all.ensures.1
    (subst (λ (u : Streaming). FailsToPrintSettled u old (told c.write_all.new.writer) fault) c.loop-m.invariant.same
    (text-stops c.in_default.ensures (c.loop-m.invariant.printing old h)
    (subst (λ (bytes : List ℕ). FailsToWrite (told c.loop-m.writer) (told c.write_all.new.writer) bytes fault)
    c.deref.ensures.value c.in_err-write_all.ensures)))

-- no match is left that needs no read, and the text is written
pub returns : goal.returns
returns g c old h = search (rules, read-printed)
