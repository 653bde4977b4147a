use Rattle.ac_util.proofs.Prelude.{◌+◌, ◌-◌, arith, ap}
use Rattle.ac_util.specs.Prelude.{places_at, Search}
use Rattle.ac_util.proofs.PlainListing.{added_more}
use Rattle.ac_util.proofs.plain.list.add_ending_at.Goals as goal

-- one more start
pub loop-start-preserved : goal.loop-start-preserved
loop-start-preserved c =
    let low = ap (λ (q : Search). q.low) c.query.view_is in
    record {
      added =
          added_more c.args.query.now (places_at c.args.query.now c.args.end) c.args.query.now.low
          (c.loop-start.start - c.args.query.now.low)
          ((c.loop-start.start + 1) - c.args.query.now.low) c.loop-start.start
          c.args.found.now.items c.loop-start.found.items c.add_at.new.found.items (omega arith)
          (omega arith) c.loop-start.invariant.added c.in_ok-add_at.ensures;
      few = omega arith;
    }
