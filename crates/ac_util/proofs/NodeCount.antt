-- The nodes other than the empty and the dead one are counted, each once.
use Rattle.ac_util.proofs.Prelude.{◌≡◌, ◌≢◌, ℕ, ◌<◌, Bool, true, not, List, [], ◌∷◌, length, take, inl, inr, refl, ap, sym, ◌∙◌, subst, arith, nat_eq, bytes_eq, flat_map, Contains, AllPairs, rules, range_with_len, list_any, starts_with, or_cases, false≢true}
use Rattle.ac_util.specs.Prelude.{distinct, inner_nodes, is_node, MatchKind, participants, pattern_of, prefixes}
use Rattle.std.proofs.lemmas.Slice.Eq.{bytes_eq-Decides}
use Rattle.ac_util.proofs.Lists.{IsIn, IsIn-map, IsIn-from_map, IsIn-flat_map, IsIn-from_flat_map, IsIn-filter, IsIn-from_filter, IsIn-range, IsIn-from_range, IsOrdered, IsOrdered-filter, Contains-from_IsIn, IsIn-from_Contains, AllPairs-from_IsOrdered}
use Rattle.ac_util.proofs.Prefixes.{starts_with-length, list_any-from_IsIn}

-- each string of the list stands in it once
IsIn-from_distinct : (u : List ℕ) (us : List (List ℕ)) → IsIn u (distinct us) → IsIn u us
IsIn-from_distinct u [] h = h
IsIn-from_distinct u (x ∷ us) (inl e) = inl e
IsIn-from_distinct u (x ∷ us) (inr h) =
    inr (IsIn-from_distinct u us (IsIn-from_filter (λ w. not (bytes_eq x w)) u (distinct us) h).0)

-- each string is among the distinct ones
IsIn-distinct : (u : List ℕ) (us : List (List ℕ)) → IsIn u us → IsIn u (distinct us)
IsIn-distinct u [] h = h
IsIn-distinct u (x ∷ us) (inl e) = inl e
IsIn-distinct u (x ∷ us) (inr h) = search (rules, IsIn-filter, IsIn-distinct u us h)

-- no two of the distinct strings are equal
distinct-apart : (us : List (List ℕ)) → IsOrdered (λ u w. u ≢ w) (distinct us)
distinct-apart [] = tt
distinct-apart (x ∷ us) = (
  (λ w h e.
      let kept = (IsIn-from_filter (λ v. not (bytes_eq x v)) w (distinct us) h).1 in
      false≢true (ap not (sym ((bytes_eq-Decides x w).1 e)) ∙ kept)),
  IsOrdered-filter (λ u w. u ≢ w) (λ w. not (bytes_eq x w)) (distinct us) (distinct-apart us),
)

-- the prefixes of a pattern are those that it begins with, without the empty one
IsIn-prefixes : (p : List ℕ) (x : ℕ) (u : List ℕ) → starts_with nat_eq p (x ∷ u) ≡ true → IsIn (x ∷ u) (prefixes p)
IsIn-prefixes p x u h =
    let short = starts_with-length p (x ∷ u) h in
    subst (λ (w : List ℕ). IsIn w (prefixes p)) (sym ((bytes_eq-Decides (x ∷ u) (take (length (x ∷ u)) p)).0 h))
    (IsIn-map (λ n. take n p) (length (x ∷ u)) (range_with_len 1 (length p))
    (IsIn-range (length (x ∷ u)) 1 (length p) (omega arith) (omega arith)))

-- u is a prefix of the pattern and isn't empty
record IsFrontOf (p u : List ℕ) : Type 0 where
  front : starts_with nat_eq p u ≡ true
  some : 0 < length u

-- each of the prefixes is one, and not empty
IsIn-from_fronts : (p u : List ℕ) → IsIn u (prefixes p) → IsFrontOf p u
IsIn-from_fronts p u h = search (rules, IsIn-from_map, IsIn-from_range)

-- an element that passes
pub any_passes : (f : ℕ → Bool) (xs : List ℕ) → list_any f xs ≡ true → (x : ℕ) × IsIn x xs × (f x ≡ true)
any_passes f [] h = absurd (false≢true h)
any_passes f (x ∷ xs) h = elim (or_cases (f x) (list_any f xs) h) [
  | inl here ↦ (x, inl refl, here)
  | inr later ↦ let r = any_passes f xs later in (r.0, inr r.1, r.2)
]

module _ (kind : MatchKind) (patterns : List (List ℕ)) where
  abbrev all_fronts : List (List ℕ)
  all_fronts = flat_map (λ number. prefixes (pattern_of patterns number)) (participants kind patterns)

  -- a string that isn't empty is counted exactly if it leads to a node
  pub inner_nodes-has : (u : List ℕ) → is_node kind patterns u ≡ true → u ≢ []
      → Contains (inner_nodes kind patterns) u
  inner_nodes-has [] node some = absurd (some refl)
  inner_nodes-has (x ∷ u) node some =
      let r =
      any_passes (λ number. starts_with nat_eq (pattern_of patterns number) (x ∷ u))
      (participants kind patterns) node in
      Contains-from_IsIn (x ∷ u) (inner_nodes kind patterns) (IsIn-distinct (x ∷ u) all_fronts
      (IsIn-flat_map (λ number. prefixes (pattern_of patterns number)) (x ∷ u) r.0
      (participants kind patterns) r.1
      (IsIn-prefixes (pattern_of patterns r.0) x u r.2)))

  -- what is counted is a node and not empty
  pub inner_nodes-only : (u : List ℕ) → Contains (inner_nodes kind patterns) u
      → (is_node kind patterns u ≡ true) × (u ≢ [])
  inner_nodes-only u h =
      search (rules, IsIn-from_flat_map, IsIn-from_Contains u (inner_nodes kind patterns) h, IsIn-from_fronts, list_any-from_IsIn, IsIn-from_distinct)

  -- nothing is counted twice
  pub inner_nodes-apart : AllPairs (λ u w. u ≢ w) (inner_nodes kind patterns)
  inner_nodes-apart =
      AllPairs-from_IsOrdered (λ u w. u ≢ w) (inner_nodes kind patterns) (distinct-apart all_fronts)
