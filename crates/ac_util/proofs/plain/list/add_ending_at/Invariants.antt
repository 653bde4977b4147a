use Rattle.ac_util.proofs.Prelude.{◌≡◌, ◌++◌, ◌+◌, ◌-◌, ◌≤◌, flat_map, range_with_len}
use Rattle.ac_util.specs.Prelude.{places_at}
use Rattle.ac_util.proofs.PlainListing.{occurring}
use Rattle.ac_util.proofs.plain.list.add_ending_at.Given as goal

-- what occurs at the starts before this one was added
abbrev pub invariant-loop-start : goal.invariant-loop-start
invariant-loop-start l = record {
  added : l.found.items ≡ l.initial.found.items ++ occurring l.query
      (flat_map (places_at l.query l.end) (range_with_len l.query.low (l.start - l.query.low)));
  few : l.start - l.query.low ≤ l.end + 1 - l.query.low;
}
