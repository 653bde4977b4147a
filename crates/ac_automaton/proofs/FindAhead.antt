-- A find that reads on from match to match: what is picked where it has come to.
use Rattle.ac_util.proofs.Prelude.{◌≡◌, ◌≢◌, ◌⊎◌, ℕ, zero, suc, ◌+◌, ◌-◌, ◌<◌, ◌≤◌, Bool, true, false, IsTrue, ◌↔◌, List, [], length, refl, ap, sym, ◌∙◌, inl, inr, arith, Option, Some, None, option_map, slice_get, IfSome, max, rules, subst, common_steps}
use Rattle.ac_automaton.specs.Prelude.{Anchored, Built, is_leftmost, MatchKind, Node, Occurrence, order_of, pick, Span, Standard, found_at, in_memory, IsDecided, matches_of, NoMatchBetween, place_of, Scan, first_given, Leaves, Given, Position}
use Rattle.std.specs.Option.{option_or}
use Rattle.ac_util.proofs.SearchLoop.{SearchGoesOn}
use Rattle.ac_automaton.proofs.FindLoop.{dead-stays, found-end, goes_on-by, goes_on-none, node_at, order, picked-final, picked-newly, picked-still, q, up_to}

module _ (s : Scan) (stops : Bool) (bytes : List ℕ) (span : Span) where
  abbrev node : ℕ → Node
  node = node_at s stops bytes span

  abbrev picked_to : ℕ → Option Occurrence
  picked_to k = pick (order s stops bytes span) (up_to s stops bytes span k)

  -- a node without matches finds none
  pub found-nothing : (k : ℕ) → matches_of s.built s.anchored (node k) ≡ [] → found_at s.built s.anchored (node k) k ≡ None
  found-nothing k none = ap (λ (ms : List ℕ). option_map (place_of s.built k) (slice_get ms 0)) none

  -- what was picked where it began to read ahead stays picked as long as no match is reached
  module _ {from at : ℕ} (ordered : span.start ≤ from) (inside : at ≤ length bytes)
      (r : Option Occurrence) (goes : SearchGoesOn s.built.kind (order s stops bytes span) r)
      (picked : r ≡ picked_to from) (quiet : NoMatchBetween s (in_memory bytes span) from at) where
    still-for : (n : ℕ) → from + n < at → r ≡ picked_to (from + n)
    still-for zero up = let e : from ≡ from + 0 = omega arith in picked ∙ ap picked_to e
    still-for (suc n) up =
        let e : from + n + 1 ≡ from + suc n = omega arith in
        picked-still s stops bytes span (from + n) r (omega arith) (omega arith) (still-for n (omega arith)) goes
        (found-nothing (from + n + 1) (quiet (from + n + 1) (omega arith) (omega arith))) ∙ ap picked_to e

    still-before : from < at → r ≡ picked_to (at - 1)
    still-before before = grind (arith, common_steps, still-for (at - 1 - from) (omega arith))

    -- where nothing is found it still is
    pub picked-ahead : from < at → found_at s.built s.anchored (node at) at ≡ None → r ≡ picked_to at
    picked-ahead before none = search (rules, picked-still, still-before)

    -- else what is found is picked
    pub picked-there : from < at → (m : Occurrence) → found_at s.built s.anchored (node at) at ≡ Some m
        → Some m ≡ picked_to at
    picked-there before m some = search (rules, picked-newly, still-before)

    -- so what is picked there is what is found, or else what was picked
    pub picked-or : from < at → (found : Option Occurrence) → found ≡ found_at s.built s.anchored (node at) at
        → option_or found r ≡ picked_to at
    picked-or before None is = picked-ahead before (sym is)
    picked-or before (Some m) is = picked-there before m (sym is)

  -- a find that stops at the first match has it, or the find goes on
  kept-or-goes : (kind : MatchKind) (t : Bool) (r : Option Occurrence) → (t ≡ false → is_leftmost kind ≡ true)
      → ((order_of kind t ≡ Standard) × ((m : Occurrence) × (r ≡ Some m))) ⊎ SearchGoesOn kind (order_of kind t) r
  kept-or-goes kind true (Some m) leftmost = inl (refl, (m, refl))
  kept-or-goes kind true None leftmost = inr (goes_on-by kind true None leftmost (λ _. refl))
  kept-or-goes kind false r leftmost = inr (goes_on-by kind false r leftmost (λ no. absurd (cc)))

  -- where a find has its answer
  module _ (at : ℕ) (ordered : span.start ≤ at) (up : at ≤ span.end) (inside : span.end ≤ length bytes)
      (r : Option Occurrence) (picked : r ≡ picked_to at) (leftmost : stops ≡ false → is_leftmost s.built.kind ≡ true)
    where
      kept : order s stops bytes span ≡ Standard → (o : Option Occurrence) → o ≡ r → o ≢ None
          → r ≡ pick (order s stops bytes span) (q s stops bytes span)
      kept standard None is some = absurd (some refl)
      kept standard (Some m) is some = sym is ∙ picked-final s stops bytes span at m up standard (is ∙ picked)

      -- what is picked so far is the pick
      pub answer-there : (span.end ≤ at) ⊎ (((node at) ≡ None) ⊎ ((stops ≡ true) × (r ≢ None)))
          → r ≡ pick (order s stops bytes span) (q s stops bytes span)
      answer-there (inl over) = let e : at ≡ span.end = omega arith in picked ∙ ap picked_to e
      answer-there (inr (inl dead)) = elim (kept-or-goes s.built.kind stops r leftmost) [
        | inl first ↦ kept first.0 r refl (λ none. let some = first.1.1 in absurd (cc))
        | inr goes ↦ dead-stays s stops bytes span at r ordered picked goes up inside dead
      ]
      answer-there (inr (inr first)) = kept (ap (order_of s.built.kind) first.0) r refl first.1

      -- and it has read enough
      pub decided-there : {place : ℕ} → ((span.end ≤ at) ⊎ (((node at) ≡ None) ⊎ ((stops ≡ true) × (r ≢ None))))
          → at ≤ max span.start place → place ≤ at
          → IsDecided s.built.kind (order s stops bytes span) (q s stops bytes span) r place
      decided-there (inl over) whole unread = inr (inl (omega arith))
      decided-there {place = place} (inr (inl dead)) whole unread = grind (arith, common_steps)
      decided-there (inr (inr first)) whole unread = inl (ap (order_of s.built.kind) first.0, first.1)

-- what is found at a place ends there
pub ends-there : (built : Built) (a : Anchored) (u : Node) (at : ℕ) (r : Option Occurrence) → r ≡ found_at built a u at
    → IfSome r (λ m. m.end ≡ at)
ends-there built a u at None is = tt
ends-there built a u at (Some m) is = found-end built a u at m (sym is)

-- and so does what is picked of a find that goes on, if it stops at the first match
pub ends-or : (kind picks : MatchKind) (at : ℕ) (found r : Option Occurrence) → IfSome found (λ m. m.end ≡ at)
    → SearchGoesOn kind picks r → picks ≡ Standard → IfSome (option_or found r) (λ m. m.end ≡ at)
ends-or kind picks at None r ends goes standard = goes_on-none kind picks r (λ m. m.end ≡ at) goes standard
ends-or kind picks at (Some m) r ends goes standard = ends

-- a find without its answer has bytes to read, is alive, and has no match if it stops at the first
pub record IsUnanswered (stops : Bool) (end at : ℕ) (u : Node) (last : Option Occurrence) : Type 0 where
  pub room : at < end
  pub living : u ≢ None
  pub none : stops ≡ true → last ≡ None

-- so says a test whether it has its answer
pub unanswered-by : {stops : Bool} {end at : ℕ} {u : Node} {last : Option Occurrence} (test : Bool)
    → (IsTrue test ↔ ((end ≤ at) ⊎ ((u ≡ None) ⊎ ((stops ≡ true) × (last ≢ None))))) → test ≡ false
    → IsUnanswered stops end at u last
unanswered-by {stops} {end} {at} {u} {last} test says fails = grind (arith, common_steps)

-- what is given of a state by its first match is found there
pub found-first : (built : Built) (start : ℕ) (listed : List ℕ) (old new : Position) (found : Option Occurrence) (given : Option Given)
    → given ≡ first_given start listed → Leaves built old given found new
    → found ≡ option_map (place_of built old.cursor.at) (slice_get listed 0)
found-first built start listed old new found given is gives =
    by (slice_get listed 0) (subst (λ (g : Option Given). Leaves built old g found new) is gives)
  where
    by : (first : Option ℕ) → Leaves built old (option_map (λ (p : ℕ). record { pattern = p; rest = 0; next = start; chain = None }) first) found new
        → found ≡ option_map (place_of built old.cursor.at) first
    by None gives = gives.0
    by (Some p) gives = gives.0 ∙ ap (λ (k : ℕ). Some (place_of built k p)) (let e : old.cursor.at - 0 ≡ old.cursor.at = omega arith in e)
