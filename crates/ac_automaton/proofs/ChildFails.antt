-- The failure target of a child.
use Rattle.ac_util.proofs.Prelude.{◌≡◌, ◌≢◌, ℕ, ◌+◌, Bool, true, List, [], ◌∷◌, ◌++◌, length, sym, subst, arith, Some, None, slice_get, rules, length_push}
use Rattle.ac_automaton.specs.Prelude.{equal_to, is_leftmost, MatchKind, No, step, byte_at, grown_view, HasChild, HasState, Keyed, fallback, nodes_of, QueuedState, State, Transition, word}
use Rattle.ac_automaton.proofs.Branching.{word-length}
use Rattle.ac_automaton.proofs.Misses.{fallback-child, fallback-pattern, fallback-start}
use Rattle.ac_automaton.proofs.Ranges.{equal_to-some, equal_to-none}

module _ {kind : MatchKind} {ignores_case : Bool} {patterns : List (List ℕ)} {sorted : List Keyed}
    {states : List State} {transitions : List Transition}
    {queue : List QueuedState} {p : QueuedState} {place b : ℕ}
    (h : HasChild kind ignores_case patterns sorted states transitions queue p place b) where
  -- the string has as many bytes as the state is deep
  long : length (word sorted p) ≡ p.depth
  long = word-length h.waits

  -- and that of the child one more
  longer : length (word sorted p ++ b ∷ []) ≡ p.depth + 1
  longer = omega (arith, length_push (word sorted p) b, long)

  -- under a leftmost kind a child that is a pattern fails to the dead state
  pub fail-pattern : is_leftmost kind ≡ true → byte_at sorted (p.depth + 1) place ≡ None
      → slice_get (nodes_of sorted queue) 0 ≡ Some (fallback kind patterns (Some (word sorted p ++ b ∷ [])))
  fail-pattern leftmost ends = search (rules, equal_to-some, fallback-pattern, longer)

  -- where the first pattern goes on, none is the string of the child
  no-pattern : (is_leftmost kind ≡ true → byte_at sorted (p.depth + 1) place ≢ None) → is_leftmost kind ≡ true
      → equal_to kind patterns (word sorted p ++ b ∷ []) ≡ []
  no-pattern goes_on leftmost =
      equal_to-none kind patterns sorted h.order (word sorted p ++ b ∷ []) place h.to h.range
      (subst (λ (n : ℕ). byte_at sorted n place ≢ None) (sym longer) (goes_on leftmost))

  -- else a child of the start fails as the start does
  pub fail-start : (is_leftmost kind ≡ true → byte_at sorted (p.depth + 1) place ≢ None) → p.depth ≡ 0
      → slice_get (nodes_of sorted queue) p.fail ≡ Some (fallback kind patterns (Some (word sorted p ++ b ∷ [])))
  fail-start goes_on start = search (rules, long, fallback-start, no-pattern)

  -- any other child fails to where the byte leads from the failure target of its parent
  pub fail-step : (is_leftmost kind ≡ true → byte_at sorted (p.depth + 1) place ≢ None) → p.depth ≢ 0
      → step kind patterns No (fallback kind patterns (Some (word sorted p))) b
      ≡ fallback kind patterns (Some (word sorted p ++ b ∷ []))
  fail-step goes_on deep = search (rules, long, fallback-child, no-pattern)

  -- the failure target of a state that isn't the start is among the states
  pub fail-state : p.depth ≢ 0
      → HasState (grown_view kind ignores_case patterns sorted transitions queue) states p.fail
      (fallback kind patterns (Some (word sorted p)))
  fail-state deep = record { meant = h.meant; there = h.near deep; named = h.waits.fails }
