use Rattle.ac_util.proofs.Prelude.{◌≡◌, ℕ, ◌<◌, length, slice_index}
use Rattle.ac_automaton.specs.Prelude.{IsRootEntry}
use Rattle.ac_automaton.proofs.nfa.noncontiguous.root.root_of.Given as goal

-- the bytes below this one have their entries
abbrev pub invariant-loop-byte : goal.invariant-loop-byte
invariant-loop-byte g l = record {
  whole : length l.root.items ≡ l.byte;
  entries : (b : ℕ) → b < l.byte → IsRootEntry l.trie.transitions.now l.trie.states.now b (slice_index l.root.items b);
}
