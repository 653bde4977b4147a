use Rattle.ac_util.proofs.Prelude.{◌≡◌, ℕ, ◌*◌, drop, length}
use Rattle.ac_engines.specs.Prelude.{BeginsWith, FAIL, Sparse, PackedState, target_by}
use Rattle.ac_engines.proofs.nfa.contiguous.state.State.sparse_target.Given as goal

-- the class isn't that of the transitions before those of the next word
abbrev pub invariant-loop-index : goal.invariant-loop-index
invariant-loop-index l =
    (classes : ℕ) (s : PackedState) → BeginsWith l.self.words.now Sparse classes s → l.transitions ≡ length s.edges
    → target_by FAIL s.edges l.class ≡ target_by FAIL (drop (4 * l.index) s.edges) l.class
