use Rattle.ac_util.proofs.Prelude.{[], ◌∙◌, ap, sym, arith, get_or_from_slice_get, common_steps}
use Rattle.ac_util.specs.Prelude.{is_empty}
use Rattle.std.proofs.lemmas.List.Folds.{list_any_at, list_any_more}
use Rattle.ac_util.proofs.Marks.{is_empty-length}
use Rattle.ac_util.proofs.prefilter.has_empty.Goals as goal

-- this pattern is empty
pub returns-then-is_empty : goal.returns-then-is_empty
returns-then-is_empty g c =
    let patterns = c.args.patterns.now in
    let number = c.loop-number.number in
    let pattern = get_or_from_slice_get patterns number c.get.result.now [] c.get.ensures.value in
    sym (list_any_at is_empty patterns number [] (omega arith)
    (ap is_empty pattern ∙ is_empty-length c.get.result.now ∙ sym c.is_empty.ensures ∙ c.if-is_empty.true))

-- this one is not either
pub loop-number-preserved : goal.loop-number-preserved
loop-number-preserved g c = grind (arith, common_steps, get_or_from_slice_get (c.args.patterns.now) (c.loop-number.number) c.get.result.now [] c.get.ensures.value, list_any_more is_empty (c.args.patterns.now) (c.loop-number.number) [] (omega arith), is_empty-length c.get.result.now)
