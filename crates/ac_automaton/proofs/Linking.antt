-- Where an output link leads: to the first state along the failure targets that has patterns.
use Rattle.ac_util.proofs.Prelude.{◌≢◌, ℕ, ◌<◌, ◌≤◌, List, [], ◌∷◌, length, refl, arith, Some, None, rules, common_steps}
use Rattle.ac_automaton.specs.Prelude.{AreStates, DEAD, LinkIsDue, Links, TrieView, fallback, Represents, State, state_at, state_patterns}
use Rattle.ac_util.proofs.Advance.{append_nil_left}
use Rattle.ac_util.proofs.Found.{matches-failure}

-- a state has patterns exactly if its range of them isn't empty
pub state_patterns-some : (order : List ℕ) (t : State) → t.patterns < t.patterns_end
    → t.patterns_end ≤ length order → state_patterns order t ≢ []
state_patterns-some order t l within none = grind (arith, common_steps)

module _ (g : TrieView) (states : List State) where
  -- only patterns that equal its string end at the start
  pub link-start : (fail : ℕ) → LinkIsDue g (length states) [] fail → Links g (length states) (Some []) DEAD
  link-start fail due = grind (arith, common_steps)

  -- the failure target as a state
  target : (u : List ℕ) (fail : ℕ) → AreStates g states → LinkIsDue g (length states) u fail
      → fail < length states
      → Represents g fail (fallback g.kind g.patterns (Some u)) (state_at states fail)
  target u fail a due l = a.each fail (fallback g.kind g.patterns (Some u)) l due.fails

  -- a failure target of the start that comes before it is dead
  dead_target : (fail : ℕ) → AreStates g states → LinkIsDue g (length states) [] fail → fail < length states
      → Represents g fail None (state_at states fail)
  dead_target fail a due l = a.each fail None l (due.start refl l).1

  -- a failure target that has patterns is linked
  pub link-here : (u : List ℕ) (fail : ℕ) → AreStates g states → LinkIsDue g (length states) u fail
      → fail < length states
      → (state_at states fail).patterns < (state_at states fail).patterns_end
      → Links g (length states) (Some u) fail
  link-here [] fail a due l some = search (rules, dead_target, state_patterns-some)
  link-here (x ∷ u) fail a due l some =
      grind (arith, common_steps, target (x ∷ u) fail a due l, state_patterns-some, append_nil_left, matches-failure)

  -- and of another target its output link
  pub link-beyond : (u : List ℕ) (fail : ℕ) → AreStates g states → LinkIsDue g (length states) u fail
      → fail < length states
      → (state_at states fail).patterns_end ≤ (state_at states fail).patterns
      → Links g (length states) (Some u) (state_at states fail).output_link
  link-beyond [] fail a due l none = search (rules, dead_target, link-start)
  link-beyond (x ∷ u) fail a due l none = grind (arith, common_steps, target (x ∷ u) fail a due l, matches-failure)
