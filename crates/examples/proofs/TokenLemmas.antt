-- Tokens that are added one after another.
use Rattle.std.proofs.Common.{◌≡◌, ℕ, ◌+◌, ◌-◌, ◌<◌, ◌≤◌, List, [], ◌∷◌, ◌++◌, length, ap, sym, ◌∙◌, arith, Option, slice_range}
use Rattle.std.proofs.lemmas.Grind.{common_steps}
use Rattle.std.proofs.lemmas.List.Elements.{filter_map-append}
use Rattle.examples.specs.Callers.{Adds, Covers, Piece, word_at}

-- what stands between two places of a text
pub record IsPart (text : List ℕ) (from to : ℕ) (t : Piece) : Type 0 where
  pub start : t.start ≡ from
  pub bytes : t.text ≡ slice_range text from to
  pub some : from < to
  pub within : to ≤ length text

part-long : (text : List ℕ) (from to : ℕ) (t : Piece) → IsPart text from to t → length t.text ≡ to - from
part-long text from to t part = grind (arith, common_steps)

-- tokens as far as it starts, and then this one
covers-push : (text : List ℕ) (begin from to : ℕ) (ts : List Piece) (t : Piece) → IsPart text from to t
    → Covers text begin from ts → Covers text begin to (ts ++ t ∷ [])
covers-push text begin from to [] t part is =
    let long = part-long text from to t part in let start = part.start in let some = part.some in (
      omega arith,
      part.bytes ∙ ap (λ (k : ℕ). slice_range text k to) (sym is)
          ∙ ap (slice_range text begin) (let e : to ≡ begin + length t.text = omega arith in e),
      omega arith,
      omega arith,
    )
covers-push text begin from to (u ∷ ts) t part covers =
    (covers.0, covers.1, covers.2, covers-push text (begin + length u.text) from to ts t part covers.3)

pub adds-push : (text : List ℕ) (word : Option ℕ) (from to : ℕ) (ts : List Piece) (t : Piece) → IsPart text from to t
    → t.word ≡ word → Adds text word from to ts (ts ++ t ∷ [])
adds-push text word from to ts t part is = record {
  covers = λ begin covers. covers-push text begin from to ts t part covers;
  gap = λ none. filter_map-append word_at ts (t ∷ []) ∙ grind (arith, common_steps);
  found = λ w some less.
      filter_map-append word_at ts (t ∷ []) ∙ (let long = part-long text from to t part in grind (arith, common_steps));
}
