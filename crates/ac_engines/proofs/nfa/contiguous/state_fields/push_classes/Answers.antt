use Rattle.ac_util.proofs.Prelude.{◌∙◌, arith, common_steps}
use Rattle.std.specs.Slice.Iter.{chunks_rest}
use Rattle.ac_engines.proofs.PushingClasses.{next-classes, no-classes}
use Rattle.ac_engines.proofs.nfa.contiguous.state_fields.push_classes.Goals as goal

-- the next four are pushed
pub loop-four-preserved : goal.loop-four-preserved
loop-four-preserved g c = grind (arith, common_steps, next-classes c.loop-four.words.items c.push.new.self.items (chunks_rest c.loop-four.four-iterator) c.in-Some.four.now (chunks_rest c.next.new.self) c.class_word.result c.in_ok-push.ensures.items c.class_word.ensures (c.in-Some.ensures.steps).1.0 (rw (c.loop-four.invariant.by_four) at (c.in-Some.ensures.steps).1.1))

-- none are left
pub returns : goal.returns
returns g c =
    no-classes c.loop-four.words.items (chunks_rest c.loop-four.four-iterator) c.in-None.ensures.steps.1.0
    ∙ c.loop-four.invariant.pushed
