use Rattle.std.proofs.Common.{◌-◌, ◌≤◌}
use Rattle.examples.specs.Callers.{stars}
use Rattle.ac_search.specs.Device.{WritesAll}
use Rattle.examples.proofs.callers.redactor.write_stars.Given as goal

abbrev pub invariant-loop-left : goal.invariant-loop-left
invariant-loop-left g l =
    record {
      few : l.left ≤ l.count;
      written : WritesAll (g.W.Sink.told l.fn.writer) (g.W.Sink.told l.writer) (stars (l.count - l.left));
    }

abbrev pub decreases-loop-left : goal.decreases-loop-left
decreases-loop-left g l = l.left
