-- The matches of the node reached are those of all that was read, and those of a node are its own and its
-- failure target's.
use Rattle.ac_util.proofs.Prelude.{◌≡◌, ℕ, Bool, true, false, cond, List, [], ◌∷◌, ◌++◌, refl, ap, sym, ◌∙◌, Some, None, ◌<◌, ◌≤◌, length, inl, inr, arith, flat_map, rules, cond-false, cond-true, append_cancel_left, append-nil, common_steps}
use Rattle.ac_util.specs.Prelude.{equal_to, failure, is_node, matches, MatchKind, No, Node, pattern_of, reached, Yes}
use Rattle.ac_util.specs.declared.search.Anchored.{Anchored}
use Rattle.ac_util.proofs.Participants.{IsIn-from_equal_to, equal_to-none}
use Rattle.ac_util.proofs.Lists.{IsIn, IsIn-append_cases}
use Rattle.ac_util.proofs.Reached.{stops, open_suffixes-nil, reached-nil, reached-cons}
use Rattle.ac_util.proofs.Failures.{failure-cons}

module _ (kind : MatchKind) (patterns : List (List ℕ)) where
  abbrev own : List ℕ → List ℕ
  own u = equal_to kind patterns u

  abbrev found : Node → List ℕ
  found v = matches kind patterns No v

  -- the matches of a string, by recursion on it
  pub matches-nil : found (Some []) ≡ own []
  matches-nil = ap (flat_map own) (open_suffixes-nil kind patterns) ∙ append-nil (own [])

  -- the matches of a string are those that equal it, and then those of the rest unless nothing may start later
  pub matches-cons : (x : ℕ) (u : List ℕ)
      → found (Some (x ∷ u)) ≡ own (x ∷ u) ++ cond (stops kind patterns (x ∷ u)) [] (found (Some u))
  matches-cons x u = grind (arith, common_steps)

  found_by : (x : ℕ) (w : List ℕ) (t s : Bool) → is_node kind patterns (x ∷ w) ≡ t
      → stops kind patterns (x ∷ w) ≡ s
      → found (reached kind patterns No w) ≡ found (Some w)
      → found (cond t (Some (x ∷ w)) (cond s None (reached kind patterns No w))) ≡ found (Some (x ∷ w))
  found_by x w true s node stop later = refl
  found_by x w false true node stop later = search (rules, cond-true, equal_to-none)
  found_by x w false false node stop later = search (rules, cond-false, equal_to-none)

  found_free : (w : List ℕ) → found (reached kind patterns No w) ≡ found (Some w)
  found_free [] = ap found (reached-nil kind patterns No)
  found_free (x ∷ w) = search (rules, found_by, reached-cons, stops, found_free w)

  found_held : (w : List ℕ) (t : Bool) → is_node kind patterns w ≡ t
      → matches kind patterns Yes (cond t (Some w) None) ≡ own w
  found_held w true node = refl
  found_held w false node = sym (equal_to-none kind patterns w node)

  -- the matches of the node reached are those of all that was read
  pub matches-reached : (anchored : Anchored) (w : List ℕ)
      → matches kind patterns anchored (reached kind patterns anchored w)
      ≡ matches kind patterns anchored (Some w)
  matches-reached No w = found_free w
  matches-reached Yes w = found_held w (is_node kind patterns w) refl

  found_after : (u : List ℕ) (s : Bool)
      → cond s [] (found (Some u)) ≡ found (cond s None (reached kind patterns No u))
  found_after u true = refl
  found_after u false = sym (found_free u)

  -- those of a node are its own and then those of its failure target
  pub matches-failure : (x : ℕ) (u : List ℕ)
      → found (Some (x ∷ u)) ≡ own (x ∷ u) ++ found (failure kind patterns (x ∷ u))
  matches-failure x u = search (rules, failure-cons, found_after, matches-cons)

  -- a match of a string is a pattern that isn't longer than the string
  pub record Fits (u : List ℕ) (n : ℕ) : Type 0 where
    pub numbered : n < length patterns
    pub short : length (pattern_of patterns n) ≤ length u

  own-fits : (u : List ℕ) (n : ℕ) → IsIn n (own u) → Fits u n
  own-fits u n h = search (rules, IsIn-from_equal_to)

  beyond-fits : (x : ℕ) (u : List ℕ) (n : ℕ) (s : Bool) → (IsIn n (found (Some u)) → Fits u n)
      → IsIn n (cond s [] (found (Some u))) → Fits u n
  beyond-fits x u n true later h = absurd h
  beyond-fits x u n false later h = later h

  pub matches-fits : (u : List ℕ) (n : ℕ) → IsIn n (found (Some u)) → Fits u n
  matches-fits [] n h = own-fits [] n (rw matches-nil at h)
  matches-fits (x ∷ u) n h =
      elim (IsIn-append_cases n (own (x ∷ u)) (cond (stops kind patterns (x ∷ u)) [] (found (Some u)))
      (rw (matches-cons x u) at h)) [
        | inl here ↦ own-fits (x ∷ u) n here
        | inr later ↦
            let f = beyond-fits x u n (stops kind patterns (x ∷ u)) (matches-fits u n) later in
            record { numbered = f.numbered; short = (let s = f.short in omega arith) }
      ]

  -- one that is as long is the whole string
  pub matches-whole : (u : List ℕ) (n : ℕ) → IsIn n (found (Some u)) → length (pattern_of patterns n) ≡ length u
      → IsIn n (own u)
  matches-whole [] n h l = rw matches-nil at h
  matches-whole (x ∷ u) n h l =
      search (
        rules,
        IsIn-append_cases,
        matches-cons,
        matches-fits,
        stops,
        IsIn-append_cases n (own (x ∷ u)) (cond (stops kind patterns (x ∷ u)) [] (found (Some u))) (rw (matches-cons x u) at h),
        stops kind patterns (x ∷ u),
        matches-cons x u,
      )

  -- and those after the ones that equal the string are shorter than it
  pub matches-shorter : (u beyond : List ℕ) → found (Some u) ≡ own u ++ beyond → (n : ℕ) → IsIn n beyond
      → length (pattern_of patterns n) < length u
  matches-shorter [] beyond e n h = search (rules, append-nil, append_cancel_left)
  matches-shorter (x ∷ u) beyond e n h = search (rules, append_cancel_left, matches-fits)
