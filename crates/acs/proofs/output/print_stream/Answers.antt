use Rattle.std.proofs.Common.{refl, arith}
use Rattle.std.proofs.lemmas.Grind.{common_steps}
use Rattle.acs.specs.Faults.{stream_fault_of}
use Rattle.acs.proofs.Results.{refused-by}
use Rattle.acs.proofs.Streaming.{given-more, line-printed, line-stops, print-begins, print-stops, printed-more, read-stops, stream-ends}
use Rattle.acs.proofs.output.print_stream.Goals as goal

-- at first nothing was read
pub loop-item-init : goal.loop-item-init
loop-item-init g c =
    grind (
      arith,
      common_steps,
      print-begins g.R.Source.empty_means_end c.args.finder.now (g.R.Source.told c.args.reader.now) (g.W.Sink.told c.args.writer.now) c.requires,
    )

-- a read has failed
pub returns-in_err-m : goal.returns-in_err-m
returns-in_err-m g c =
    let fails = rw c.in_err-m.was at c.in-Some.ensures in
    refused-by c.from_residual.result (stream_fault_of c.in_err-m.field-0.0) _ _ c.from_residual.ensures.1
    (read-stops c.loop-item.invariant fails refl)

-- the line of the next match could not be printed
pub returns-in_err-print_line : goal.returns-in_err-print_line
returns-in_err-print_line g c =
    let gives = rw c.in_ok-m.was at c.in-Some.ensures in
    refused-by c.from_residual-in_err-print_line.result _ _ _ c.from_residual-in_err-print_line.ensures.1
    (line-stops c.loop-item.invariant gives c.in_err-print_line.ensures)

-- what was read for the next match, and the lines of all that need no further read
pub loop-item-smaller : goal.loop-item-smaller
loop-item-smaller g c =
    let gives = rw c.in_ok-m.was at c.in-Some.ensures in
    given-more c.loop-item.invariant gives
    (c.in_ok-print_read.ensures _ (line-printed c.loop-item.invariant gives c.in_ok-print_line.ensures))

pub loop-item-preserved : goal.loop-item-preserved
loop-item-preserved g c =
    let gives = rw c.in_ok-m.was at c.in-Some.ensures in
    printed-more c.loop-item.invariant gives
    (c.in_ok-print_read.ensures _ (line-printed c.loop-item.invariant gives c.in_ok-print_line.ensures))

-- their lines could not be printed
pub returns-in_err-print_read : goal.returns-in_err-print_read
returns-in_err-print_read g c =
    let gives = rw c.in_ok-m.was at c.in-Some.ensures in
    refused-by c.from_residual-in_err-print_read.result _ _ _ c.from_residual-in_err-print_read.ensures.1
    (print-stops c.loop-item.invariant gives
    (c.in_err-print_read.ensures _ (line-printed c.loop-item.invariant gives c.in_ok-print_line.ensures)))

-- the end was met
pub returns : goal.returns
returns g c = stream-ends c.loop-item.invariant _ _ c.in_default.ensures
