use Rattle.std.proofs.Common.{◌≡◌, ◌∙◌, arith}
use Rattle.std.specs.Slice.Iter.{chunks_exact_rest, chunks_exact_size}
use Rattle.ac_search.specs.Patterns.{bytes_of}
use Rattle.acs.specs.Requests.{side}
use Rattle.acs.proofs.Pairs.{side-pair, gathered-more}
use Rattle.acs.proofs.request.side_of.Goals as goal

-- one more pair
pub loop-pair-preserved : goal.loop-pair-preserved
loop-pair-preserved g c =
    let steps = c.in-Some.ensures.steps in
    let size : chunks_exact_size c.next.new.self ≡ 2 = steps.0 ∙ c.loop-pair.invariant.size in
    let rest = chunks_exact_rest c.loop-pair.pair-iterator in
    let later = chunks_exact_rest c.next.new.self in
    record {
      can_next = omega arith;
      is_finite = tt;
      size = size;
      gathered =
          gathered-more c.loop-pair.side.items c.push.new.self.items c.as_bytes.result
          (side c.args.second (bytes_of rest)) (side c.args.second (bytes_of later)) _ c.in_ok-push.ensures.items
          (side-pair c.args.second c.from.result rest c.in-Some.pair.now later _ _ c.from.ensures steps.1.0
          (steps.1.1 ∙ c.loop-pair.invariant.size) c.as_bytes.ensures.value) c.loop-pair.invariant.gathered;
    }
