use Rattle.std.proofs.Common.{rules}
use Rattle.acs.specs.Lines.{lines}
use Rattle.acs.specs.Modes.{FailsToPrint}
use Rattle.acs.proofs.Results.{refused-by}
use Rattle.acs.proofs.Printing.{printing-begins}
use Rattle.acs.proofs.output.print_all.Goals as goal

-- at first all matches are still to come
pub loop-m-init : goal.loop-m-init
loop-m-init g c = search (rules, printing-begins)

-- the line of one more match is printed
pub loop-m-preserved : goal.loop-m-preserved
loop-m-preserved g c =
    let goes = c.in-Some.ensures.goes.on c.loop-m.invariant.is_finite in
    record {
      can_next = goes.0;
      is_finite = goes.1;
      printing = λ rest gives.
          c.in_ok-print_line.ensures (rest c.args.matches) (rest c.next.new.self) (g.W.Sink.told c.args.writer.now) c.loop-m.outcome
          (rw (gives _ _ _ c.in-Some.ensures.steps) at (c.loop-m.invariant.printing rest gives));
    }

-- the next line could not be printed
pub returns-in_err-print_line : goal.returns-in_err-print_line
returns-in_err-print_line g c rest gives =
    let told = g.W.Sink.told in
    refused-by c.from_residual.result c.in_err-print_line.field-0.0 _
    (FailsToPrint (told c.args.writer.now) (told c.print_line.new.writer) (lines (rest c.args.matches)))
    c.from_residual.ensures.1
    (c.in_err-print_line.ensures (rest c.args.matches) (rest c.next.new.self) (told c.args.writer.now) c.loop-m.outcome
    (rw (gives _ _ _ c.in-Some.ensures.steps) at (c.loop-m.invariant.printing rest gives)))

-- the last text could not be written
pub returns-in_err-print_end : goal.returns-in_err-print_end
returns-in_err-print_end g c rest gives =
    let told = g.W.Sink.told in
    refused-by c.from_residual-in_err-print_end.result c.in_err-print_end.field-0.0 _
    (FailsToPrint (told c.args.writer.now) (told c.print_end.new.writer) (lines (rest c.args.matches)))
    c.from_residual-in_err-print_end.ensures.1
    (c.in_err-print_end.ensures (rest c.args.matches) (told c.args.writer.now) c.loop-m.outcome
    (rw c.deref.ensures.value (rw (gives _ _ _ c.in-None.ensures.steps).0 at (c.loop-m.invariant.printing rest gives))))

-- no match is left, and the last text is written
pub returns : goal.returns
returns g c rest gives =
    c.in_ok-print_end.ensures (rest c.args.matches) (g.W.Sink.told c.args.writer.now) c.loop-m.outcome
    (rw c.deref.ensures.value (rw (gives _ _ _ c.in-None.ensures.steps).0 at (c.loop-m.invariant.printing rest gives)))
