-- What packed states list is what their words spell.
use Rattle.ac_util.proofs.Prelude.{◌≡◌, ◌≢◌, ℕ, ◌+◌, ◌/◌, ◌%◌, ◌<◌, ◌≤◌, Bool, true, false, List, [], ◌∷◌, ◌++◌, length, drop, refl, ap, ◌∙◌, arith, ◌==◌, slice_index_or, rules, cond-false, cond-true, eqb-false, eqb-true, div_ceil_times, common_steps, get_or-drop}
use Rattle.ac_engines.specs.Prelude.{alphabet_len, BeginsWith, ContiguousView, DENSE, Format, match_list_at, match_list_words, matches_in, ONE_MATCH, PackedState, words_before_matches}
use Rattle.std.specs.Int.{div_ceil}
use Rattle.ac_engines.proofs.PackedWords.{ListsFrom, dense-lists, form, sparse-lists}

-- matches are read as they are spelled
matches-read : (matches rest : List ℕ) → matches ≢ [] → length matches < ONE_MATCH
    → matches_in (match_list_words matches ++ rest) ≡ matches
matches-read [] rest some few = absurd (some refl)
matches-read (n ∷ []) rest some few = grind (arith, common_steps)
matches-read (n ∷ m ∷ ns) rest some few = grind (arith, common_steps)

module _ (words : List ℕ) (classes : ℕ) (s : PackedState) (format : Format) (h : BeginsWith words format classes s)
    (some : s.matches ≢ []) where
  -- what stands from a place on, where the matches do
  from-place : (place : ℕ) (rest : List ℕ) → ListsFrom words classes s place rest
      → drop place words ≡ match_list_words s.matches ++ rest
  from-place place rest at = grind (arith, common_steps)

  counts : (low : ℕ) → (low + 3) / 4 ≡ div_ceil low 4
  counts low = let times = div_ceil_times low 4 (omega arith) in omega (arith, times.0, times.1)

  -- the matches stand after the transitions
  after-targets : drop (words_before_matches (form words classes s) classes) words ≡ match_list_words s.matches ++ h.rest
  after-targets = by (form words classes s == DENSE) refl
    where
      by : (t : Bool) → (form words classes s == DENSE) ≡ t
          → drop (words_before_matches (form words classes s) classes) words ≡ match_list_words s.matches ++ h.rest
      by true dense =
          ap (λ (n : ℕ). drop n words)
          (cond-true (form words classes s == DENSE) (2 + classes)
          (2 + (form words classes s + 3) / 4 + form words classes s) dense)
          ∙ from-place (2 + classes) h.rest (dense-lists words classes s format h (eqb-true (form words classes s) DENSE dense))
      by false other =
          let low = form words classes s in
          ap (λ (n : ℕ). drop n words)
          (cond-false (low == DENSE) (2 + classes) (2 + (low + 3) / 4 + low) other
          ∙ ap (λ (n : ℕ). 2 + n + low) (counts low))
          ∙ from-place (2 + div_ceil low 4 + low) h.rest
          (sparse-lists words classes s format h low (div_ceil low 4) refl (eqb-false low DENSE other) some refl)

  pub format_words-listed : matches_in (drop (words_before_matches (form words classes s) classes) words) ≡ s.matches
  format_words-listed = ap matches_in after-targets ∙ matches-read s.matches h.rest some h.few_matches

module _ (p : ContiguousView) (at : ℕ) (format : Format) (s : PackedState)
    (h : BeginsWith (drop at p.words) format (alphabet_len p.classes) s) where
  -- the form of the state that begins there
  form-there : form (drop at p.words) (alphabet_len p.classes) s ≡ slice_index_or p.words at 0 % 256
  form-there = search (rules, get_or-drop)

  -- a state lists what its words spell, if its number is that of a match state
  pub listed-format_words : 0 < at → at < p.match_end → s.matches ≢ [] → match_list_at p at ≡ s.matches
  listed-format_words after before some =
      grind (arith, common_steps, form-there, format_words-listed (drop at p.words) (alphabet_len p.classes) s format h some)

-- and else nothing
pub listed-none : (p : ContiguousView) (at : ℕ) → p.match_end ≤ at → match_list_at p at ≡ []
listed-none p at past = grind (arith, common_steps)
