use Rattle.ac_util.proofs.Prelude.{◌∙◌, ap, length, sym, refl, rules}
use Rattle.ac_automaton.specs.Prelude.{Streaming}
use Rattle.ac_automaton.proofs.StreamFilling.{buffer-closed}
use Rattle.ac_automaton.proofs.StreamMoving.{streams-cleared}
use Rattle.ac_automaton.proofs.automaton.stream.StreamFinder.clear.Goals as goal

-- the search stands where it did, with nothing in its buffer
pub invariant_of-self : goal.invariant_of-self
invariant_of-self g c =
    let e = c.self.view_is in
    record {
      commits = c.self.invariant.commits;
      streams = streams-cleared _ _ _ _ c.self.invariant.streams (ap (λ (v : Streaming). v.phase) e ∙ c.requires.ended)
          (ap (λ (v : Streaming). v.kept) e ∙ c.requires.none ∙ sym (ap (λ (v : Streaming). length v.bytes) e)) _;
      buffered = buffer-closed (search rules) refl refl (search rules) c.self.invariant.buffered;
    }
