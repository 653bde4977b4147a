use Rattle.std.proofs.Common.{◌≡◌, ◌+◌, ◌∙◌, refl, arith, rules}
use Rattle.std.specs.Slice.Iter.{chunks_exact_size}
use Rattle.acs.proofs.PairLimits.{first-short, limit_refusal-few, limit_refusal-many}
use Rattle.acs.proofs.Results.{not_refused}
use Rattle.acs.proofs.request.check_firsts.Goals as goal

-- there are more pairs than pattern numbers
pub returns-then-words-gt-LIMIT : goal.returns-then-words-gt-LIMIT
returns-then-words-gt-LIMIT c = rw (limit_refusal-many c.args.words.now c.if-words-gt-LIMIT.true) refl

-- all pairs are still to come
pub loop-pair-init : goal.loop-pair-init
loop-pair-init c = search (rules, limit_refusal-few)

-- the first word of this pair is short
pub loop-pair-preserved : goal.loop-pair-preserved
loop-pair-preserved c =
    let steps = c.in-Some.ensures.steps in
    let size : chunks_exact_size c.next.new.self ≡ 2 = steps.0 ∙ c.loop-pair.invariant.size in
    let left = c.loop-pair.invariant.left in
    record {
      can_next = omega arith;
      is_finite = tt;
      size = size;
      left = (
        left.0 + 1,
        left.1 ∙ first-short left.0 _ c.in-Some.pair.now _ steps.1.0 (steps.1.1 ∙ c.loop-pair.invariant.size)
            (not_refused _ _ _ c.in_ok-check_limits.ensures),
      );
    }
