use Rattle.ac_util.proofs.Prelude.{◌∙◌, refl, ap, arith, common_steps}
use Rattle.ac_automaton.specs.Prelude.{Streaming}
use Rattle.ac_automaton.proofs.Places.{written-whole}
use Rattle.ac_automaton.proofs.StreamFilling.{buffer-closed, given-as, streams-closed}
use Rattle.ac_automaton.proofs.automaton.stream.StreamFinder.close.Goals as goal

-- nothing stands in the buffer after the bytes that are kept
pub invariant_of-self : goal.invariant_of-self
invariant_of-self g c =
    let e = c.self.view_is ∙ c.move_kept.ensures in
    let within = c.self.invariant.streams.filled in
    record {
      commits = c.self.invariant.commits;
      streams = streams-closed _ _ _ _ c.self.invariant.streams (ap (λ (v : Streaming). v.phase) e ∙ c.requires.goes_on) _
          (grind (arith, common_steps, written-whole)) (grind (arith, common_steps, written-whole))
          (given-as c.args.self.now _ c.args.self.now.kept e c.requires.settled) c.args.phase c.requires.closed;
      buffered = buffer-closed (grind (arith, common_steps, written-whole)) refl refl (grind (arith, common_steps, written-whole))
          c.self.invariant.buffered;
    }
