-- What the number of a packed state says.
use Rattle.ac_util.proofs.Prelude.{◌≡◌, ◌≢◌, ℕ, ◌<◌, ◌≤◌, ◌⊎◌, ◌↔◌, List, [], ◌∷◌, drop, inl, inr, length, refl, ap, subst, sym, ◌∙◌, arith, Some, None, slice_index_or, All}
use Rattle.ac_engines.specs.Prelude.{alphabet_len, GREATEST, No, Node, Yes, matches_of, BeginsWith, ContiguousView, Format, IsContiguousState, match_list_at, node_format, number_at, Places, PackedState, packed_at}
use Rattle.ac_util.specs.declared.search.Anchored.{Anchored}
use Rattle.ac_engines.proofs.MatchCounts.{matches-numbered}
use Rattle.ac_engines.proofs.PackedNodes.{matches-packed_at}

module _ (p : ContiguousView) (anchored : Anchored) (s : ℕ) where
  -- the dead node's number is 0, and no other's
  pub dead-number : (u : Node) → IsContiguousState p anchored s u → (s ≡ 0) ↔ (u ≡ None)
  dead-number None h = (λ zero. refl, λ none. h.number)
  dead-number (Some w) h =
      (λ zero. absurd (omega (arith, zero, h.number, h.is_contiguous.after anchored w h.node)), λ none. absurd cc)

  -- and no other node's state has one of them
  pub start-number : (u : Node) → IsContiguousState p anchored s u
      → ((s ≡ p.start) ⊎ (s ≡ p.anchored_start)) ↔ (u ≡ Some [])
  start-number None h =
      let first = h.is_contiguous.after No [] refl in
      let other = h.is_contiguous.after Yes [] refl in
      let start = h.is_contiguous.start in
      let anchored_start = h.is_contiguous.anchored_start in
      let number = h.number in
      (λ either. elim either [ inl e ↦ absurd (omega arith) | inr e ↦ absurd (omega arith) ], λ none. absurd cc)
  start-number (Some []) h = (λ either. refl, λ same. which anchored h.number)
    where
      which : (anchored : Anchored) → s ≡ number_at h.at anchored (Some []) → (s ≡ p.start) ⊎ (s ≡ p.anchored_start)
      which No number = inl (number ∙ h.is_contiguous.start)
      which Yes number = inr (number ∙ h.is_contiguous.anchored_start)
  start-number (Some (x ∷ w)) h =
      let first = h.is_contiguous.longer No (x ∷ w) h.node (λ e. absurd cc) in
      let other = h.is_contiguous.longer Yes (x ∷ w) h.node (λ e. absurd cc) in
      let number : s ≡ h.at.place (x ∷ w) = h.number ∙ inner anchored h.at in (
        λ either. elim either [
          | inl e ↦ absurd (first (sym number ∙ e ∙ sym h.is_contiguous.start))
          | inr e ↦ absurd (other (sym number ∙ e ∙ sym h.is_contiguous.anchored_start))
        ],
        λ empty. absurd cc,
      )
    where
      inner : (anchored : Anchored) (at : Places) → number_at at anchored (Some (x ∷ w)) ≡ at.place (x ∷ w)
      inner No at = refl
      inner Yes at = refl

  -- a state has matches where its number is less than their end, and isn't 0
  pub match-number : (u : Node) → IsContiguousState p anchored s u → (match_list_at p s ≢ []) ↔ ((s < p.match_end) × (s ≢ 0))
  match-number None h =
      (λ some. absurd (some (ap (match_list_at p) h.number)), λ both. absurd (both.1 h.number))
  match-number (Some w) h =
      let listed = ap (match_list_at p) h.number ∙ h.is_contiguous.lists anchored w h.node in
      let matched = h.is_contiguous.matched anchored w h.node in
      let late = h.is_contiguous.after anchored w h.node in (
        λ some. (
          rw h.number (matched.1 (λ none. some (listed ∙ none))),
          λ zero. absurd (omega (arith, zero, h.number, late)),
        ),
        λ both none. matched.0 (subst (λ n. n < p.match_end) h.number both.0) (sym listed ∙ none),
      )

  -- the words there begin with those of a state that spells what is listed
  pub record Begins (there : List ℕ) (classes : ℕ) : Type 0 where
    pub format : Format
    pub as_packed : PackedState
    pub words : BeginsWith there format classes as_packed
    pub same : as_packed.matches ≡ match_list_at p s
    pub numbered : (k : ℕ) → k < length (match_list_at p s) → slice_index_or (match_list_at p s) k 0 ≤ GREATEST

  listed-matches : (u : Node) → IsContiguousState p anchored s u → match_list_at p s ≡ matches_of p.built No u
  listed-matches None h = ap (match_list_at p) h.number
  listed-matches (Some w) h = ap (match_list_at p) h.number ∙ h.is_contiguous.lists anchored w h.node

  pub begins : (u : Node) → IsContiguousState p anchored s u → (there : List ℕ) (classes : ℕ) → there ≡ drop s p.words
      → classes ≡ alphabet_len p.classes → Begins there classes
  begins u h there classes there_is classes_is = record {
    format = node_format p.built p.dense_depth u;
    as_packed = packed_at p h.at anchored u;
    words = rw (there_is, classes_is, h.number) (h.is_contiguous.states anchored u h.node);
    same = matches-packed_at p h.at anchored u ∙ sym (listed-matches u h);
    numbered = λ k below.
        let few = h.is_contiguous.few in
        let low = subst (All (λ n. n < length p.built.patterns)) (sym (listed-matches u h)) (matches-numbered p.built u) k 0 below in
        omega arith;
  }
