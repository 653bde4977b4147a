use Rattle.std.proofs.Common.{◌∙◌, ap, flat_map}
use Rattle.std.proofs.lemmas.Iterator.Consumers.{YieldsList-at, YieldsList-end, YieldsList-from_enumerate}
use Rattle.std.proofs.lemmas.Iterator.Splits.{YieldsList-from_lines}
use Rattle.examples.specs.Callers.{numbered_markers}
use Rattle.examples.proofs.MarkedPairs.{lines-more}
use Rattle.examples.proofs.callers.markers.markers_in.Goals as goal

-- the pairs of a line were added
pub loop-number-preserved : goal.loop-number-preserved
loop-number-preserved c =
    lines-more (λ x. (x.0, x.1.now)) c.args.searcher.now.built c.loop-number.yielded (c.in-Some.number, c.in-Some.line)
    c.deref.result.now _ _ c.loop-number.invariant (c.deref.ensures.value ∙ c.in_ok-marks.ensures) c.in_ok-push_marked.ensures

-- and there are no more lines
pub returns : goal.returns
returns c =
    let lines = YieldsList-from_lines c.args.log.now c.lines.ensures.rest in
    let source = YieldsList-at c.enumerate-number-items.ensures.source lines in
    let numbered = YieldsList-from_enumerate source c.enumerate-number-items.ensures.count in
    let end = YieldsList-end (YieldsList-at c.into_iter-number-iterator.ensures.into_iter_gives numbered) c.loop-number.yielded _
    c.loop-number.yielded_by _ _ c.in-None.is c.next.ensures.steps in
    c.loop-number.invariant ∙ ap (flat_map (numbered_markers c.args.searcher.now.built)) end.0
