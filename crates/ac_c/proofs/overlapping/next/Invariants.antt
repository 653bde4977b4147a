use Rattle.ac_util.proofs.Prelude.{◌≡◌, length}
use Rattle.ac_c.specs.Steps.{ListingStandsAt}
use Rattle.ac_c.proofs.overlapping.next.Given as goal

-- the listing stands at the cursor, which hasn't moved
abbrev pub invariant-loop-found : goal.invariant-loop-found
invariant-loop-found l =
    record {
      stands : ListingStandsAt l.items l.here;
      same : l.items.search ≡ l.fn.items.search;
      here : l.here ≡ l.fn.here;
    }

abbrev pub decreases-loop-found : goal.decreases-loop-found
decreases-loop-found l = length l.items.rest
