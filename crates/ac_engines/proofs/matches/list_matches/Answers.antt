use Rattle.ac_util.proofs.Prelude.{ap, sym, ◌∙◌, ℕ}
use Rattle.ac_engines.specs.Prelude.{is_due}
use Rattle.ac_engines.proofs.Listing.{has-first, may-begin, none-listed, one-more}
use Rattle.ac_engines.proofs.matches.list_matches.Goals as goal

-- nothing is listed at first
pub loop-pattern-init : goal.loop-pattern-init
loop-pattern-init g c =
    let at = c.requires.state in
    record {
      may = may-begin c.args.nfa.now c.args.sid at.node (at.are_nodes.stands c.args.sid at.node at.named);
      listed = λ nodes u h named.
          rw (c.depth-depth.ensures nodes u h named, c.clear.ensures.items)
          (none-listed c.args.nfa.now c.args.sid u (h.stands c.args.sid u named) c.args.anchored);
    }

-- a match is a pattern
pub pattern_len-requires : goal.pattern_len-requires
pattern_len-requires g c = record {
  numbered = (has-first c.args.nfa.now c.loop-pattern.rest _ _ c.loop-pattern.invariant.may c.in-Some.ensures.taken
      (λ may. c.in-Some.ensures.state c.args.anchored may.state)).numbered;
}

-- one that counts is listed
pub loop-pattern-preserved : goal.loop-pattern-preserved
loop-pattern-preserved g c =
    let first = has-first c.args.nfa.now c.loop-pattern.rest _ _ c.loop-pattern.invariant.may c.in-Some.ensures.taken
    (λ may. c.in-Some.ensures.state c.args.anchored may.state) in
    record {
      may = first.may;
      listed = λ nodes u h named.
          rw (c.in_ok-push.ensures.items)
          (one-more c.args.nfa.now c.args.anchored c.depth-depth.result u c.loop-pattern.matches.items c.loop-pattern.rest
          (c.loop-pattern.invariant.listed nodes u h named)
          _ _ c.in-Some.ensures.taken
          (ap (λ (n : ℕ). is_due c.args.anchored n c.depth-depth.result) (sym c.pattern_len.ensures) ∙ sym c.is_due.ensures ∙ c.if-not-is_due.false));
    }
