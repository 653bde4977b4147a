-- Where a search goes on by a byte that leads to no longer node, one byte further on.
use Rattle.ac_util.proofs.Prelude.{◌≡◌, ◌≢◌, ℕ, Bool, true, false, ◌&&◌, cond, List, [], ◌∷◌, ◌++◌, inl, inr, refl, ap, sym, ◌∙◌, Some, None, rules, arith, cases_Bool, cond-true, false_from_ne_true, false≢true, common_steps}
use Rattle.ac_automaton.specs.Prelude.{begins_with_pattern, equal_to, is_leftmost, MatchKind, No, reached, step, fallback}
use Rattle.ac_util.proofs.Failures.{failure-cons}
use Rattle.ac_util.proofs.Prefixes.{starts_with-whole}
use Rattle.ac_util.proofs.Lists.{none-from_nil}
use Rattle.ac_util.proofs.Participants.{IsIn-equal_to, begins-more, begins-from_Prefixes, leader, leader-takes_part, equal_to-none_begins}
use Rattle.ac_util.proofs.Reached.{stops, reached-nil, step-reached}

module _ (kind : MatchKind) (patterns : List (List ℕ)) where
  -- where no pattern is the longer string, it begins with a pattern if the shorter one does
  begins-same : (w : List ℕ) (b : ℕ) → equal_to kind patterns (w ++ b ∷ []) ≡ []
      → begins_with_pattern patterns (w ++ b ∷ []) ≡ begins_with_pattern patterns w
  begins-same w b none = elim (cases_Bool (begins_with_pattern patterns w)) [
    | inl t ↦ begins-more patterns w b t ∙ sym t
    | inr f ↦
        false_from_ne_true _ (λ t.
        let l = leader patterns (w ++ b ∷ []) t in
        let no_front = false_from_ne_true _ (λ s.
        false≢true (sym f
        ∙ begins-from_Prefixes patterns w l.0 (record { numbered = l.1.prefixes.numbered; front = s }))) in
        none-from_nil l.0 (equal_to kind patterns (w ++ b ∷ [])) none
        (IsIn-equal_to kind patterns (w ++ b ∷ []) l.0 (record {
          numbered = l.1.prefixes.numbered;
          takes_part = leader-takes_part patterns kind (w ++ b ∷ []) l.0 l.1;
          same = starts_with-whole w _ b l.1.prefixes.front no_front;
        })))
        ∙ sym f
  ]

  -- a string with one more byte that is no pattern lets matches start where it did before
  pub stops-child : (w : List ℕ) (b : ℕ) → equal_to kind patterns (w ++ b ∷ []) ≡ []
      → stops kind patterns (w ++ b ∷ []) ≡ stops kind patterns w
  stops-child w b none = ap (λ (t : Bool). is_leftmost kind && t) (begins-same w b none)

  -- a pattern lets none start later
  pub stops-pattern : (w : List ℕ) → is_leftmost kind ≡ true → equal_to kind patterns w ≢ []
      → stops kind patterns w ≡ true
  stops-pattern w leftmost some = search (rules, cases_Bool, equal_to-none_begins)

  -- only a leftmost search stops
  stops-free : (w : List ℕ) → is_leftmost kind ≡ false → stops kind patterns w ≡ false
  stops-free w free = ap (λ (l : Bool). l && begins_with_pattern patterns w) free

  -- under a leftmost kind a node that is a pattern has no failure target
  pub fallback-pattern : (w : List ℕ) (b : ℕ) → is_leftmost kind ≡ true → equal_to kind patterns (w ++ b ∷ []) ≢ []
      → fallback kind patterns (Some (w ++ b ∷ [])) ≡ None
  fallback-pattern [] b leftmost some = grind (arith, common_steps, stops-pattern (b ∷ []) leftmost some)
  fallback-pattern (x ∷ w) b leftmost some = search (rules, cond-true, failure-cons, stops-pattern)

  -- where no pattern is the longer string, it stops a search if the shorter one does
  same-stop : (w : List ℕ) (b : ℕ) → (is_leftmost kind ≡ true → equal_to kind patterns (w ++ b ∷ []) ≡ [])
      → stops kind patterns (w ++ b ∷ []) ≡ stops kind patterns w
  same-stop w b none = search (rules, cases_Bool, stops-child, stops-free)

  -- else a child of the start fails as the start does
  pub fallback-start : (b : ℕ) → (is_leftmost kind ≡ true → equal_to kind patterns (b ∷ []) ≡ [])
      → fallback kind patterns (Some (b ∷ [])) ≡ fallback kind patterns (Some [])
  fallback-start b none = search (rules, same-stop [] b none, reached-nil kind patterns No)

  -- a step after the shorter string leads where the longer one does
  stepped : (w : List ℕ) (b : ℕ) (s : Bool)
      → cond s None (reached kind patterns No (w ++ b ∷ []))
      ≡ step kind patterns No (cond s None (reached kind patterns No w)) b
  stepped w b true = refl
  stepped w b false = sym (step-reached kind patterns No w b)

  -- and any other child fails to where the byte leads from the failure target of its parent
  pub fallback-child : (x : ℕ) (w : List ℕ) (b : ℕ)
      → (is_leftmost kind ≡ true → equal_to kind patterns (x ∷ w ++ b ∷ []) ≡ [])
      → fallback kind patterns (Some (x ∷ w ++ b ∷ []))
      ≡ step kind patterns No (fallback kind patterns (Some (x ∷ w))) b
  fallback-child x w b none = grind (arith, common_steps, same-stop (x ∷ w) b none, stepped w b (stops kind patterns (x ∷ w)))
