use Rattle.ac_util.proofs.Prelude.{◌≡◌, ◌≤◌, drop}
use Rattle.ac_c.specs.Batches.{listing_from}
use Rattle.ac_c.specs.Steps.{ListingStandsAt}
use Rattle.ac_c.proofs.overlapping.pass.Given as goal

-- the listing stands at the cursor, and as many as there were turns were passed over
abbrev pub invariant-loop : goal.invariant-loop
invariant-loop l =
    record {
      stands : ListingStandsAt l.items l.here;
      same : l.items.search ≡ l.fn.items.search;
      passed : listing_from l.fn.items.search l.here
          ≡ drop (l.counter) (listing_from l.fn.items.search l.fn.here);
      onward : l.fn.here.at ≤ l.here.at;
    }
