use Rattle.ac_util.proofs.Prelude.{◌≡◌, ℕ, ◌<◌, ◌+◌, ◌-◌}
use Rattle.ac_engines.specs.Prelude.{class_at, Node, ContiguousView, IsContiguousState}
use Rattle.ac_engines.proofs.Follow.{WalkGoesOnward}
use Rattle.ac_engines.proofs.nfa.contiguous.step.follow.Given as goal

-- whatever the words were packed from, the walk is on the way to where the byte leads
abbrev pub invariant-loop-next : goal.invariant-loop-next
invariant-loop-next l =
    (p : ContiguousView) (b : ℕ) (u : Node) → p.words ≡ l.words → b < 256 → l.class ≡ class_at p.classes b
    → IsContiguousState p l.anchored l.fn.from u → WalkGoesOnward p l.anchored b u l.fn.looks l.looks l.at

abbrev pub decreases-loop-next : goal.decreases-loop-next
decreases-loop-next l = 18446744073709551617 + l.fn.looks.looks - l.looks.looks
