-- Reading the matches of a state in the words where they stand.
use Rattle.ac_util.proofs.Prelude.{refl, ◌≡◌, ◌≢◌, ℕ, ◌+◌, ◌-◌, ◌<◌, ◌≤◌, List, [], ◌∷◌, ◌++◌, length, arith, slice_index_or, rules, get_or_append_left, length-append, common_steps}
use Rattle.ac_engines.specs.Prelude.{match_list_words, ONE_MATCH}

-- what the first word of some matches says: it is the only one of them, or their number
pub record ReadsMatches (matches words : List ℕ) : Type 0 where
  pub some : 0 < length words
  pub one : ONE_MATCH ≤ slice_index_or words 0 0 → length matches ≡ 1
  pub first : ONE_MATCH ≤ slice_index_or words 0 0
      → slice_index_or words 0 0 - ONE_MATCH ≡ slice_index_or matches 0 0
  pub several : slice_index_or words 0 0 < ONE_MATCH → slice_index_or words 0 0 ≡ length matches
  pub within : slice_index_or words 0 0 < ONE_MATCH → (index : ℕ) → index < length matches → 1 + index < length words
  pub each : slice_index_or words 0 0 < ONE_MATCH → (index : ℕ) → index < length matches
      → slice_index_or words (1 + index) 0 ≡ slice_index_or matches index 0

pub reads : (matches rest words : List ℕ) → words ≡ match_list_words matches ++ rest → matches ≢ []
    → length matches < ONE_MATCH → ReadsMatches matches words
reads [] rest words are some few = absurd (some refl)
reads (p ∷ []) rest words are some few = grind (arith, common_steps)
reads (p ∷ q ∷ ps) rest words are some few = search (rules, get_or_append_left, length-append)

-- where there is a match, there are some
pub has-some : (matches : List ℕ) (index : ℕ) → index < length matches → matches ≢ []
has-some matches index low none = grind (arith, common_steps)
