use Rattle.std.proofs.Common.{◌≡◌, ◌∙◌, ℕ, ◌+◌, ◌-◌, ◌<◌, ◌≤◌, List, ◌++◌, ap, arith, subst}
use Rattle.std.proofs.lemmas.List.{replicate-append-replicate}
use Rattle.examples.specs.Callers.{stars}
use Rattle.ac_search.specs.Device.{WritesBeginning}
use Rattle.examples.proofs.callers.redactor.write_stars.Goals as goal

-- stars that were written, the one that wasn't, and those that were to follow are all of them
all-stars : (count left : ℕ) → left ≤ count → 0 < left → (stars (count - left) ++ stars 1) ++ stars (left - 1) ≡ stars count
all-stars count left few some =
    ap (λ (s : List ℕ). s ++ stars (left - 1)) (replicate-append-replicate (count - left) 1 42)
    ∙ replicate-append-replicate (count - left + 1) (left - 1) 42
    ∙ ap stars (omega arith)

pub returns-in-Err : goal.returns-in-Err
returns-in-Err g c =
    let old = g.W.Sink.told c.args.writer.now in
    let now = g.W.Sink.told c.loop-left.writer in
    let new = g.W.Sink.told c.write_all.new.writer in
    let left = c.loop-left.left in
    let failed = c.pieces_join.ensures.failed now new (stars 1) _ c.in-Err.ensures in
    let begun = c.pieces_join.ensures.begun old now new (stars (c.args.count - left)) (stars 1) c.loop-left.invariant.written failed in
    let longer = c.pieces_join.ensures.longer old new (stars (c.args.count - left) ++ stars 1) (stars (left - 1)) begun in
    subst (WritesBeginning old new) (all-stars c.args.count left c.loop-left.invariant.few (omega arith)) longer
