use Rattle.ac_util.proofs.Prelude.{◌≡◌, ◌≤◌, ◌++◌, drop, length, map, take}
use Rattle.ac_c.specs.Batches.{listing_from}
use Rattle.ac_c.specs.Searches.{match_of}
use Rattle.ac_c.specs.Steps.{ListingStandsAt}
use Rattle.ac_c.proofs.overlapping.fill.Given as goal

-- the listing stands at the cursor; what was written so far and what is due are what was due before; and the rest of
-- `out` is as it was
abbrev pub invariant-loop-filled : goal.invariant-loop-filled
invariant-loop-filled l =
    record {
      stands : ListingStandsAt l.items l.here;
      same : l.items.search ≡ l.fn.items.search;
      given : map match_of (take l.filled l.out) ++ listing_from l.fn.items.search l.here
          ≡ listing_from l.fn.items.search l.fn.here;
      kept : drop l.filled l.out ≡ drop l.filled l.fn.out;
      length : length l.out ≡ length l.fn.out;
      onward : l.fn.here.at ≤ l.here.at;
    }
