-- What a tokenizer has done once it has come to the end of a match.
use Rattle.std.proofs.Common.{◌≡◌, ◌∙◌, ℕ, List, [], ◌∷◌, ◌++◌, ap, append_assoc, length, None, refl, Some}
use Rattle.std.specs.List.{AllByRecursion}
use Rattle.std.specs.Str.{IsCharBoundary}
use Rattle.ac_search.specs.Alike.{StandApart}
use Rattle.ac_search.specs.Built.{IsBetweenCharacters}
use Rattle.examples.specs.Callers.{Adds, Covers, Piece, words_in}
use Rattle.ac_search.specs.Occurrence.{Occurrence}

-- the tokens cover a text up to there, and their words are those of the walk with the matches that are left
pub record Tokenizing (text : List ℕ) (walk left : List Occurrence) (tokens : List Piece) (end : ℕ) : Type 0 where
  pub covers : Covers text 0 end tokens
  pub words : words_in tokens ++ left ≡ walk
  pub apart : StandApart end (length text) left
  pub between : AllByRecursion (IsBetweenCharacters text) left
  pub boundary : IsCharBoundary text end

-- the gap before a match was added, and the match
goes-on-by : {text : List ℕ} {walk : List Occurrence} {tokens : List Piece} {end : ℕ} (m : Occurrence) (left : List Occurrence)
    (between new : List Piece) → Tokenizing text walk (m ∷ left) tokens end → Adds text None end m.start tokens between
    → Adds text (Some m.pattern) m.start m.end between new → Tokenizing text walk left new m.end
goes-on-by m left between new before gap word = record {
  covers = word.covers 0 (gap.covers 0 before.covers);
  words =
      ap (λ (ws : List Occurrence). ws ++ left) (word.found m.pattern refl before.apart.1
      ∙ ap (λ (ws : List Occurrence). ws ++ m ∷ []) (gap.gap refl))
      ∙ append_assoc _ (m ∷ []) left ∙ before.words;
  apart = before.apart.3;
  between = before.between.1;
  boundary = before.between.0.ends;
}

-- the same of values that are those of the match
pub goes-on : {text : List ℕ} {walk : List Occurrence} {tokens : List Piece} {end : ℕ} (rest left : List Occurrence)
    (m : Occurrence) (number start begin stop last : ℕ) (between new : List Piece) → Tokenizing text walk rest tokens end
    → rest ≡ m ∷ left → number ≡ m.pattern → start ≡ m.start → begin ≡ m.start → stop ≡ m.end → last ≡ m.end
    → Adds text None end start tokens between → Adds text (Some number) begin stop between new
    → Tokenizing text walk left new last
goes-on rest left m number start begin stop last between new before is named first again ends after gap word =
    rw after (goes-on-by m left between new (rw is at before) (rw first at gap) (rw (named, again, ends) at word))
