use Rattle.ac_util.proofs.Prelude.{◌≡◌, ◌+◌, ◌-◌, ◌≤◌, flat_map, range_with_len}
use Rattle.ac_util.specs.Prelude.{places_ending_at}
use Rattle.ac_util.proofs.PlainListing.{occurring}
use Rattle.ac_util.proofs.plain.list.listing.Given as goal

-- what occurs at the ends before this one was found
abbrev pub invariant-loop-end : goal.invariant-loop-end
invariant-loop-end l = record {
  found : l.found.items ≡ occurring l.query
      (flat_map (places_ending_at l.query) (range_with_len l.query.low (l.end - l.query.low)));
  few : l.end - l.query.low ≤ l.query.high + 1 - l.query.low;
}
