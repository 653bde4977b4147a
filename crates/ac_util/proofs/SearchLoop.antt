-- A search that reads byte by byte: what it has picked so far stays the pick.
use Rattle.ac_util.proofs.Prelude.{◌≡◌, ℕ, ◌+◌, ◌<◌, ◌≤◌, true, List, [], ◌∷◌, length, ◌⊎◌, inl, inr, arith, Option, Some, None, rules, common_steps}
use Rattle.ac_util.specs.Prelude.{credit, ending, is_leftmost, looks_by, MatchKind, Node, Occurrence, pick, plain_patterns, reached, Search, Standard, step, text}
use Rattle.ac_util.specs.declared.search.Anchored.{Anchored}
use Rattle.ac_util.proofs.Failures.{looks-paid}
use Rattle.ac_util.proofs.OneLonger.{pick-longer_stays, pick-longer_becomes, first-longer_stays, first-longer_becomes, pick-dead, first-dead, found_at_end}
use Rattle.ac_util.proofs.Spans.{longer_by, one_longer}

-- a search by this order over an automaton of this kind, which has picked r, can go on: it prefers what starts
-- first, as the automaton does, or it stops at the first match and has none yet
abbrev pub SearchGoesOn : MatchKind → MatchKind → Option Occurrence → Type 0
SearchGoesOn kind order r = ((is_leftmost kind ≡ true) × (order ≡ kind)) ⊎ ((order ≡ Standard) × (r ≡ None))

module _ (kind order : MatchKind) (q : Search) (ordered : q.low ≤ q.high)
    (room : q.high < length q.haystack) where
  -- without a match at the new end the pick stays
  pub pick-goes_on : SearchGoesOn kind order (pick order q) → found_at_end kind (one_longer q) ≡ []
      → pick order (one_longer q) ≡ pick order q
  pick-goes_on (inl leftmost) none = search (rules, pick-longer_stays)
  pick-goes_on (inr first) none = search (rules, first-longer_stays)

  -- with one it is the first of them
  pub pick-found : SearchGoesOn kind order (pick order q) → (i : ℕ) (rest : List ℕ)
      → found_at_end kind (one_longer q) ≡ i ∷ rest
      → pick order (one_longer q) ≡ Some (ending (one_longer q) i)
  pick-found (inl leftmost) i rest e = search (rules, pick-longer_becomes)
  pick-found (inr first) i rest e = search (rules, first-longer_becomes)

-- from the dead node on the pick stays
pub pick-stays_dead : (kind order : MatchKind) (q : Search) (n : ℕ) → q.low ≤ q.high
    → q.high + n ≤ length q.haystack
    → reached kind (plain_patterns q) q.anchored (text q) ≡ None → SearchGoesOn kind order (pick order q)
    → pick order (longer_by q n) ≡ pick order q
pick-stays_dead kind order q n ordered room dead (inl leftmost) = search (rules, pick-dead)
pick-stays_dead kind order q n ordered room dead (inr first) = search (rules, first-dead)

-- a step's looks are paid by the length of its node and what the byte brings
pub step-paid : (most : ℕ) (kind : MatchKind) (patterns : List (List ℕ)) (anchored : Anchored) (u : Node)
    (b : ℕ) → (most ≡ 1) ⊎ (most ≡ 2)
    → looks_by most kind patterns anchored u b + credit most (step kind patterns anchored u b)
    ≤ credit most u + most
step-paid most kind patterns anchored u b (inl one) = grind (arith, common_steps)
step-paid most kind patterns anchored u b (inr two) = search (rules, looks-paid)
