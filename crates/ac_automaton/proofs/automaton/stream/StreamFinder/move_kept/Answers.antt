use Rattle.ac_util.proofs.Prelude.{◌-◌, ◌∙◌, ap, refl, arith, take, common_steps}
use Rattle.ac_automaton.specs.Prelude.{Streaming}
use Rattle.ac_automaton.proofs.StreamFilling.{buffer-open}
use Rattle.ac_automaton.proofs.StreamMoving.{kept-moved, streams-moved}
use Rattle.ac_automaton.proofs.automaton.stream.StreamFinder.move_kept.Goals as goal

-- the search stands where it did
pub invariant_of-self : goal.invariant_of-self
invariant_of-self g c =
    let from = c.self.inside.kept - c.self.inside.front in
    record {
      commits = c.self.invariant.commits;
      streams = streams-moved _ _ _ _ c.self.invariant.streams (ap (λ (v : Streaming). v.phase) c.self.view_is ∙ c.requires.goes_on) _
          (grind (arith, common_steps))
          (ap (take (c.self.inside.filled - from)) c.copy_within.ensures.items ∙ kept-moved _ _ _ _ c.self.invariant.streams);
      buffered = buffer-open (grind (arith, common_steps)) refl refl
          (ap (λ (v : Streaming). v.phase) c.self.view_is ∙ c.requires.goes_on) c.self.invariant.buffered;
    }
