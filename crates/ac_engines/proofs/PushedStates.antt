-- How many words a state takes, and where its words begin.
use Rattle.ac_util.proofs.Prelude.{◌≡◌, ℕ, ◌<◌, ◌≤◌, List, [], ◌∷◌, ◌++◌, length, map, drop, refl, ap, arith, slice_index_or, All, range_with_len, IsStrictlyIncreasing, length-append, length-map, length-map-range_with_len, common_steps}
use Rattle.ac_engines.specs.Prelude.{BeginsWith, class_words, Dense, Edge, Format, match_list_words, match_words, One, ONE_MATCH, one_words, Sparse, format_words, PackedState, target_by, words_of_state, Fits}
use Rattle.ac_engines.proofs.ClassWords.{length-class_words}

-- two words stand before what is pushed after them
pub two-pushed : (words after : List ℕ) (a b : ℕ) → words ++ a ∷ [] ++ b ∷ [] ++ after ≡ words ++ a ∷ b ∷ after
two-pushed words after a b = grind (arith, common_steps)

-- how many words the matches take
pub length-match_list_words : (matches : List ℕ) → length (match_list_words matches) ≡ match_words (length matches)
length-match_list_words [] = refl
length-match_list_words (p ∷ []) = refl
length-match_list_words (p ∷ q ∷ matches) = omega arith

-- two matches or more stand after their count
pub several-matches : (matches : List ℕ) → 2 ≤ length matches → match_list_words matches ≡ length matches ∷ matches
several-matches [] several = absurd (omega arith)
several-matches (p ∷ []) several = absurd (omega arith)
several-matches (p ∷ q ∷ matches) several = refl

-- how many words a single transition takes
length-one_words : (failure : ℕ) (edges : List Edge) → length edges ≡ 1 → length (one_words failure edges) ≡ 3
length-one_words failure [] one = absurd (omega arith)
length-one_words failure (e ∷ edges) one = refl

-- a state takes as many words as its form says
pub length-format_words : (format : Format) (classes : ℕ) (s : PackedState) → Fits format s
    → length (format_words format classes s) ≡ words_of_state format classes (length s.edges) (length s.matches)
unfolding format_words
length-format_words Dense classes s fits =
    let targets = map (target_by s.default_target s.edges) (range_with_len 0 classes) in
    let long = length-map-range_with_len (target_by s.default_target s.edges) 0 classes in
    let both = length-append targets (match_list_words s.matches) in
    let last = length-match_list_words s.matches in
    omega arith
length-format_words One classes s fits =
    let (single, unmatched, leads_nowhere) = fits in
    let one = length-one_words s.failure s.edges single in
    let none = ap (λ (matches : List ℕ). match_words (length matches)) unmatched in
    omega arith
length-format_words Sparse classes s fits =
    let classes_of = map (λ (e : Edge). e.class) s.edges in
    let targets = map (λ (e : Edge). e.target) s.edges in
    let words = length-class_words classes_of in
    let listed = length-map s.edges (λ (e : Edge). e.class) in
    let leading = length-map s.edges (λ (e : Edge). e.target) in
    let both = length-append (class_words classes_of) targets in
    let all = length-append (class_words classes_of ++ targets) (match_list_words s.matches) in
    let last = length-match_list_words s.matches in
    omega arith

module _ (format : Format) (classes : ℕ) (s : PackedState) where
  -- where the words of a state are pushed, they begin after what stood before
  pub begins-after : (before words : List ℕ) → words ≡ before ++ format_words format classes s → Fits format s
      → classes ≤ 256 → All (λ e. e.class < classes) s.edges → IsStrictlyIncreasing (map (λ e. e.class) s.edges)
      → length s.matches < ONE_MATCH → ((k : ℕ) → slice_index_or s.matches k 0 < ONE_MATCH)
      → BeginsWith (drop (length before) words) format classes s
  begins-after before words words_are fits few below ascending few_matches numbers = grind (arith, common_steps)

  -- and they do so still where more is pushed
  pub begins-before : (words after : List ℕ) (place : ℕ) → place ≤ length words
      → BeginsWith (drop place words) format classes s → BeginsWith (drop place (words ++ after)) format classes s
  begins-before words after place within h = grind (arith, common_steps)
