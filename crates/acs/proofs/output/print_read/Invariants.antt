use Rattle.std.proofs.Common.{◌≡◌, ◌-◌, ◌≤◌, length}
use Rattle.ac_search.specs.Device.{Writing}
use Rattle.ac_search.specs.Streams.{matches_so_far}
use Rattle.acs.specs.declared.run.Outcome.TheVariants.{Found}
use Rattle.acs.specs.Printed.{PrintsSoFar}
use Rattle.acs.proofs.output.print_read.Given as goal

-- whatever was printed before, the lines of some more matches are printed
abbrev pub invariant-loop-m : goal.invariant-loop-m
invariant-loop-m g l =
    let told = g.W.Sink.told in
    record {
      same : l.finder ≡ record l.fn.finder { given = l.finder.given; kept = l.finder.kept };
      onward : l.fn.finder.given ≤ l.finder.given;
      printing : (old : Writing) → PrintsSoFar l.fn.finder old (told l.fn.writer) l.fn.text.items Found
          → PrintsSoFar l.finder old (told l.writer) l.text.items Found;
    }

abbrev pub decreases-loop-m : goal.decreases-loop-m
decreases-loop-m g l = length (matches_so_far l.finder) - l.finder.given
