use Rattle.ac_util.proofs.Prelude.{◌≡◌, ◌++◌, ◌∙◌, ℕ, subst, Some, Option, rules, arith, common_steps}
use Rattle.ac_util.specs.Prelude.{from, MatchKind, next_match, Occurrence, Search, walk}
use Rattle.ac_util.proofs.PlainWalk.{walk_from, next-EndsWithin, room-falls, taken, begun}
use Rattle.ac_util.proofs.plain.walks.walk.Goals as goal

-- nothing is taken yet
pub loop-next-init : goal.loop-next-init
loop-next-init c = search (rules, begun, next-EndsWithin)

-- the match that is looked for is the next one from the end of this one
follows : (kind : MatchKind) (q w : Search) (end low last : ℕ) (next : Option Occurrence)
    → next ≡ next_match kind w (Some last) → w ≡ from q low → low ≡ end → last ≡ end
    → next_match kind (from q end) (Some end) ≡ next
follows kind q w end low last next e f g h = grind (arith, common_steps)

-- it ends later than this one
pub loop-next-smaller : goal.loop-next-smaller
loop-next-smaller c = search (rules, follows, room-falls)

-- this match is taken, and the walk goes on from the next
pub loop-next-preserved : goal.loop-next-preserved
loop-next-preserved c =
    let next =
    follows c.args.kind c.args.query.now c.from.result c.in-Some.found.end c.end.result c.end-in-Some.result
    c.next_match-next-in-Some.result c.next_match-next-in-Some.ensures c.from.ensures c.end.ensures
    c.end-in-Some.ensures in
    record {
      parts =
          taken c.args.kind c.args.query.now c.loop-next.matches.items c.push.new.self.items c.in-Some.found
          c.next_match-next-in-Some.result c.in_ok-push.ensures.items next
          ∙ subst (λ (r : Option Occurrence). c.loop-next.matches.items
          ++ walk_from c.args.kind c.args.query.now r ≡ walk c.args.kind c.args.query.now) c.in-Some.is
          c.loop-next.invariant.parts;
      within = next-EndsWithin c.args.kind (from c.args.query.now c.in-Some.found.end)
          (Some c.in-Some.found.end) c.next_match-next-in-Some.result next;
    }
