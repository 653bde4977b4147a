-- What the callers in `src/callers` are to do. No contract of the library cites these.
use Rattle.std.specs.Prelude.{◌≡◌, ℕ, ◌+◌, ◌<◌, ◌==◌, Bool, MatchBool, false, true, List, [], ◌∷◌, ◌++◌, Option, None, Some, Result, count_by, filter_map, get_or, length, filter, map, option_map, replicate, slice_range, take}
use Rattle.std.specs.Io.KnownBytes.{Consumes, IsAtEnd}
use Rattle.std.specs.List.{list_any, range_with_len}
use Rattle.ac_search.specs.Built.{Built, search_in}
use Rattle.ac_search.specs.Device.{Reading, Writing}
use Rattle.ac_search.specs.Input.{whole_input}
use Rattle.ac_search.specs.Listing.{all}
use Rattle.ac_search.specs.Occurrence.{Occurrence, occurrence}
use Rattle.ac_search.specs.Stream.{by_length, stream_result}
use Rattle.ac_search.specs.declared.MatchKind.TheVariants.{LeftmostLongest}
use Rattle.ac_search.specs.declared.StartKind.TheVariants.{Unanchored}
use Rattle.ac_search.specs.Alike.{WritesExchanged}

-- the text is some bytes, then the word, and then some more
abbrev pub HasWord : List ℕ → List ℕ → Type 0
HasWord word text = (before after : List ℕ) × (text ≡ before ++ (word ++ after))

-- as many stars
abbrev pub stars : ℕ → List ℕ
stars n = replicate n 42

-- what is searched for secrets: in either case, and where several begin at one byte, the longest
abbrev pub redactor_of : List (List ℕ) → Built
redactor_of secrets =
    record { patterns = secrets; ignores_case = true; kind = LeftmostLongest; start_kind = Unanchored }

-- a stream was read to its end, and written with as many stars in place of each secret; or, where that has failed, what was
-- written begins what is written for every stream that begins with the bytes that came
abbrev pub Redacts : {R W E : Type 0} → Bool → (R → Reading) → (W → Writing) → List (List ℕ) → R → W → R → W
    → Result (Unit {0}) E → Type 0
Redacts ends reads writes secrets reader writer new_reader new_writer result =
    WritesExchanged ends reads writes (redactor_of secrets) (by_length stars) reader writer new_reader new_writer result

-- a token as a caller sees it: the number of its word, if it is one, where it starts, and its bytes
pub record Piece : Type 0 where
  pub word : Option ℕ
  pub start : ℕ
  pub text : List ℕ

-- the tokens are a text from one offset to another: each starts where the one before it ends, has the bytes that stand there, and
-- isn't empty
abbrev pub Covers : List ℕ → ℕ → ℕ → List Piece → Type 0
Covers text from to [] = from ≡ to
Covers text from to (t ∷ ts) =
    (t.start ≡ from) × (t.text ≡ slice_range text from (from + length t.text)) × (0 < length t.text)
    × Covers text (from + length t.text) to ts

-- a token that is a word, as the match that it is
abbrev pub word_at : Piece → Option Occurrence
word_at t = option_map (λ w. occurrence w t.start (t.start + length t.text)) t.word

-- those of all tokens
abbrev pub words_in : List Piece → List Occurrence
words_in tokens = filter_map word_at tokens

-- what stands from one offset of a text to another was added to its tokens, unless that is empty
pub record Adds (text : List ℕ) (word : Option ℕ) (from to : ℕ) (old new : List Piece) : Type 0 where
  pub covers : (begin : ℕ) → Covers text begin from old → Covers text begin to new
  pub gap : word ≡ None → words_in new ≡ words_in old
  pub found : (w : ℕ) → word ≡ Some w → from < to → words_in new ≡ words_in old ++ occurrence w from to ∷ []

-- what a tokenizer of these words searches
abbrev pub tokenizer_of : List (List ℕ) → Built
tokenizer_of words = record (redactor_of words) { ignores_case = false }

-- there is a count for each of so many patterns: how many of the matches are its own
pub record CountsEach (patterns : ℕ) (counts : List ℕ) (ms : List Occurrence) : Type 0 where
  pub whole : length counts ≡ patterns
  pub each : (i d : ℕ) → i < patterns → get_or counts i d ≡ count_by (λ m. m.pattern == i) ms

-- a log was read to its end, or to a read that failed, and its matches up to there were counted
pub record CountsLog (ends : Bool) (built : Built) (log new_log : Reading) (failed : Bool) (counts : List ℕ) : Type 0 where
  pub bytes : List ℕ
  pub read : Consumes log.left new_log.left bytes
  pub counted : CountsEach (length built.patterns) counts (stream_result built bytes)
  pub stopped : MatchBool failed (new_log.failed ≡ log.failed + 1)
      ((new_log.failed ≡ log.failed) × (ends ≡ true → IsAtEnd new_log.left))

-- how many line feeds stand before an offset
abbrev pub line_at : List ℕ → ℕ → ℕ
line_at bytes offset = count_by (λ b. b == 10) (take offset bytes)

-- whether a pattern occurs in a line
abbrev pub occurs_in : Built → List ℕ → ℕ → Bool
occurs_in built line number = list_any (λ m. m.pattern == number) (all (search_in built (whole_input line)))

-- the numbers of the patterns that do, in ascending order, each after the number of the line
abbrev pub numbered_markers : Built → ℕ × List ℕ → List (ℕ × ℕ)
numbered_markers built (line, bytes) =
    map (λ n. (line, n)) (filter (occurs_in built bytes) (range_with_len 0 (length built.patterns)))
