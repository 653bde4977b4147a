-- The number is the head of the bytes before the depth.
use Rattle.ac_util.proofs.Prelude.{◌≡◌, ◌<◌, ◌^◌}
use Rattle.ac_automaton.specs.Prelude.{plain, head_of}
use Rattle.ac_automaton.proofs.PatternHeads.{AreSmall}
use Rattle.ac_automaton.proofs.nfa.noncontiguous.sorted.head_of.Given as goal

abbrev pub invariant-loop-depth : goal.invariant-loop-depth
invariant-loop-depth l = record {
  value : l.head ≡ head_of l.depth (plain l.ignores_case l.bytes);
  small : AreSmall l.depth (plain l.ignores_case l.bytes);
  bound : l.head < 256 ^ l.depth;
}
