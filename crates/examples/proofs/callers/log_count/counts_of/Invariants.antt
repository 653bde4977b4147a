use Rattle.std.proofs.Common.{◌-◌, length}
use Rattle.examples.specs.Callers.{CountsEach}
use Rattle.ac_search.specs.Patterns.{usize_max}
use Rattle.ac_search.specs.StreamLoops.{given_matches, IsUnderway}
use Rattle.examples.proofs.callers.log_count.counts_of.Given as goal

abbrev pub invariant-loop-item : goal.invariant-loop-item
invariant-loop-item g l =
    record {
      underway : IsUnderway g.R.Source.empty_means_end l.searcher.built (g.R.Source.told l.fn.log) (g.R.Source.told l.log)
          l.finder;
      counted : CountsEach (length l.searcher.built.patterns) l.matches.items (given_matches l.searcher.built l.finder);
    }

-- no more matches are given than usize counts
abbrev pub decreases-loop-item : goal.decreases-loop-item
decreases-loop-item g l = usize_max - l.finder.given
