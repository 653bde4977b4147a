use Rattle.ac_util.proofs.Prelude.{◌+◌, ◌-◌, [], arith, ap, rules}
use Rattle.ac_util.specs.Prelude.{places_ending_at, Search}
use Rattle.ac_util.proofs.PlainListing.{added_more, all-from_ends}
use Rattle.ac_util.proofs.plain.list.listing.Goals as goal

-- one more end
pub loop-end-preserved : goal.loop-end-preserved
loop-end-preserved c =
    let low = ap (λ (q : Search). q.low) c.query.view_is in
    let high = ap (λ (q : Search). q.high) c.query.view_is in
    record {
      found =
          added_more c.args.query.now (places_ending_at c.args.query.now) c.args.query.now.low
          (c.loop-end.end - c.args.query.now.low)
          ((c.loop-end.end + 1) - c.args.query.now.low) c.loop-end.end
          [] c.loop-end.found.items c.add_ending_at.new.found.items (omega arith)
          (omega arith) c.loop-end.invariant.found c.in_ok-add_ending_at.ensures;
      few = omega arith;
    }

-- all ends were tried
pub returns : goal.returns
returns c = search (rules, all-from_ends)
