use Rattle.ac_util.proofs.Prelude.{[], length-set, refl, arith, get_or_from_slice_get, common_steps}
use Rattle.ac_util.specs.Prelude.{plain_byte}
use Rattle.std.proofs.Math.Bool.{or-false}
use Rattle.std.proofs.lemmas.List.Folds.{list_any_more}
use Rattle.ac_util.proofs.ClassLists.{none_marked}
use Rattle.ac_util.proofs.Marks.{begins_with-first, begins_with-none, marked_more}
use Rattle.ac_util.proofs.prefilter.first_marks.Goals as goal
use Rattle.ac_util.proofs.prefilter.first_marks.Goals.{in-Some, in_default}

-- no byte is marked, and no pattern was read
pub loop-number-init : goal.loop-number-init
loop-number-init g c = record { whole = refl; marked = λ b. none_marked 256 (plain_byte c.args.ignores_case b) }

-- the next pattern's first byte is marked too
pub loop-number-preserved : goal.loop-number-preserved
loop-number-preserved g c = grind (arith, common_steps, get_or_from_slice_get (c.args.patterns.now) (c.loop-number.number) c.get.result.now [] c.get.ensures.value, in-Some, marked_more, begins_with-first, in_default, or-false, begins_with-none, length-set, list_any_more)
