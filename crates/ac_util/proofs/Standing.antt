-- Where patterns stand in a text, and how one more byte changes that.
use Rattle.ac_util.proofs.Prelude.{◌≡◌, ℕ, suc, ◌+◌, ◌<◌, ◌≤◌, true, List, [], ◌∷◌, ◌++◌, length, ◌⊎◌, inl, inr, refl, arith, rules, cases_Bool, common_steps}
use Rattle.ac_util.specs.Prelude.{is_leftmost, IsFirst, LeftmostFirst, LeftmostLongest, MatchKind, No, Occurrence, pattern_of, Standard, Prefixes, Stands, standing_at}
use Rattle.ac_util.specs.declared.search.Anchored.{Anchored}
use Rattle.ac_util.proofs.Prefixes.{starts_with-whole, starts_with-length, starts_with-equal}

-- how the order of preference goes with places
pub first-by_start : (kind : MatchKind) (a b : Occurrence) → a.start < b.start
    → (is_leftmost kind ≡ true) ⊎ (a.end ≤ b.end) → IsFirst kind a b
first-by_start Standard a b l (inl e) = absurd (cc)
first-by_start Standard a b l (inr e) = grind (arith, common_steps)
first-by_start LeftmostFirst a b l e = record { starts = omega arith; patterns = λ s. omega arith }
first-by_start LeftmostLongest a b l e = grind (arith, common_steps)

-- the order stays where both places are one further on
pub first-one_on : (kind : MatchKind) (patterns : List (List ℕ)) (j k n s : ℕ)
    → IsFirst kind (standing_at patterns j k) (standing_at patterns n s)
    → IsFirst kind (standing_at patterns j (suc k)) (standing_at patterns n (suc s))
first-one_on Standard patterns j k n s f = grind (arith, common_steps)
first-one_on LeftmostFirst patterns j k n s f = grind (arith, common_steps)
first-one_on LeftmostLongest patterns j k n s f = grind (arith, common_steps)

-- of matches that end together the one that any kind prefers is the one that Standard prefers
pub first-at_one_end : (kind : MatchKind) (a b : Occurrence) → a.end ≡ b.end → IsFirst kind a b
    → IsFirst Standard a b
first-at_one_end Standard a b e f = f
first-at_one_end LeftmostFirst a b e f = grind (arith, common_steps)
first-at_one_end LeftmostLongest a b e f = grind (arith, common_steps)

module _ (patterns : List (List ℕ)) where
  -- a pattern that is a prefix with one more byte was a prefix before or is the whole
  pub Prefixes-cases : (w : List ℕ) (b n : ℕ) → Prefixes patterns (w ++ b ∷ []) n
      → Prefixes patterns w n ⊎ (pattern_of patterns n ≡ w ++ b ∷ [])
  Prefixes-cases w b n f = search (rules, cases_Bool, starts_with-whole)

  -- a pattern that is a prefix is no longer than the string
  pub Prefixes-length : (w : List ℕ) (n : ℕ) → Prefixes patterns w n → length (pattern_of patterns n) ≤ length w
  Prefixes-length w n f = starts_with-length w (pattern_of patterns n) f.front

  -- one that is as long is the string
  pub Prefixes-equal : (w : List ℕ) (n : ℕ) → Prefixes patterns w n → length (pattern_of patterns n) ≡ length w
      → pattern_of patterns n ≡ w
  Prefixes-equal w n f l = starts_with-equal w (pattern_of patterns n) f.front l

  module _ (anchored : Anchored) where
    -- what stands in w ends within it
    pub Stands-end : (w : List ℕ) (n s : ℕ) → Stands patterns anchored w n s
        → s + length (pattern_of patterns n) ≤ length w
    Stands-end w n s h = grind (arith, common_steps)

  -- what stands in w stands one further on after one more byte, and the other way round
  pub Stands-beyond : (x : ℕ) (w : List ℕ) (n s : ℕ) → Stands patterns No w n s
      → Stands patterns No (x ∷ w) n (suc s)
  Stands-beyond x w n s h = grind (arith, common_steps)

  -- what stands after the first byte stands in the rest
  pub Stands-from_behind : (x : ℕ) (w : List ℕ) (n s : ℕ) → Stands patterns No (x ∷ w) n (suc s)
      → Stands patterns No w n s
  Stands-from_behind x w n s h = grind (arith, common_steps)

  -- a prefix stands at the front
  pub Stands-from_Prefixes : (anchored : Anchored) (w : List ℕ) (n : ℕ) → Prefixes patterns w n
      → Stands patterns anchored w n 0
  Stands-from_Prefixes anchored w n f = record { within = omega arith; prefixes = f; at_front = λ e. refl }
