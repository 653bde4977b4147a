use Rattle.std.proofs.Common.{◌-◌}
use Rattle.acs.proofs.Streaming.{IsPrintingStream}
use Rattle.acs.proofs.output.print_stream.Given as goal
use Rattle.ac_search.specs.Patterns.{usize_max}

-- the lines of all matches so far are written
abbrev pub invariant-loop-item : goal.invariant-loop-item
invariant-loop-item g l =
    IsPrintingStream g.R.Source.empty_means_end l.fn.finder.built l.finder (g.R.Source.told l.fn.reader) (g.R.Source.told l.reader)
    (g.W.Sink.told l.fn.writer) (g.W.Sink.told l.writer) l.text.items l.outcome

abbrev pub decreases-loop-item : goal.decreases-loop-item
decreases-loop-item g l = usize_max - l.finder.given
