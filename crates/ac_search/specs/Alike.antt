-- How answers of several settings, engines and spans agree, in what order matches come, and what is written of a stream.
use Rattle.std.specs.Prelude.{◌≡◌, ℕ, Bool, List, ◌<◌, Err, MatchResult, None, Option, Result, Some, ◌≤◌, ◌+◌, ◌++◌, IfSome, length, slice_range, [], ◌∷◌, ⊤}
use Rattle.std.specs.declared.io.Error.{Error}
use Rattle.ac_util.specs.Device.{Reading, Writing}
use Rattle.ac_util.specs.Stream.{ExchangesAll, ExchangesBeginning}
use Rattle.ac_util.specs.declared.error.StreamError.{StreamError}
use Rattle.ac_automaton.specs.Answers.{Calling, ExchangesStream, ExchangesStreamBy}
use Rattle.ac_automaton.specs.Util.{all, Built, exchanged, exchanged_in_text, find_refusal, find_result, InputView, kept_back_len, overlapping_iter_refusal, overlapping_refusal, replace_refusal, search_in, stream_refusal, stream_result, IsBetweenCharacters, Occurrence, Occurs, walk_result}
use Rattle.ac_util.specs.Occurrence.{IsSame, pattern_of}
use Rattle.ac_util.specs.Replacement.{exchanged_from}
use Rattle.ac_search.specs.Searchers.{IsBuilt, Searcher, Settings}
use Rattle.std.specs.List.{AllByRecursion}

-- every find is refused alike, and returns the same
abbrev pub FindAlike : Built → Built → Type 0
FindAlike one other =
    (input : InputView) → (find_refusal one input ≡ find_refusal other input)
    × (find_result one input ≡ find_result other input)

-- every overlapping search is refused alike, by calls or by an iterator, and has the same listing
abbrev pub ListAlike : Built → Built → Type 0
ListAlike one other =
    (input : InputView) → (overlapping_refusal one input ≡ overlapping_refusal other input)
    × (overlapping_iter_refusal one input ≡ overlapping_iter_refusal other input)
    × (all (search_in one input) ≡ all (search_in other input))

-- every replacement is refused alike, and exchanges the same matches, in bytes or in a text
abbrev pub ReplaceAlike : Built → Built → Type 0
ReplaceAlike one other =
    (haystack : List ℕ) → (replace_refusal one ≡ replace_refusal other)
    × (exchanged one haystack ≡ exchanged other haystack)
    × (exchanged_in_text one haystack ≡ exchanged_in_text other haystack)

-- every stream is refused alike, has the same matches, and as many bytes of it are held back
abbrev pub StreamAlike : Built → Built → Type 0
StreamAlike one other =
    (bytes : List ℕ) → (stream_refusal one ≡ stream_refusal other) × (stream_result one bytes ≡ stream_result other bytes)
    × (kept_back_len one bytes ≡ kept_back_len other bytes)

-- builds by these settings over the same patterns, which share the match kind, the case setting and the start kind, give
-- searchers that answer alike
abbrev pub BuildAlike : Settings → Settings → Type 0
BuildAlike one other =
    (patterns : List (List ℕ)) (s t : Searcher) → IsBuilt one patterns s → IsBuilt other patterns t
    → one.engine.kind ≡ other.engine.kind → one.engine.ignores_case ≡ other.engine.ignores_case
    → one.start_kind ≡ other.start_kind → s.built ≡ t.built

-- once it has returned None, it keeps returning it
abbrev pub StaysEnded : {S I : Type 0} → (S → Option I → S → Type 0) → Type 0
StaysEnded {S} {I} Gives = (s t u : S) (again : Option I) → Gives s None t → Gives t again u → again ≡ None

-- once it has returned an error, it returns None
abbrev pub EndsAtError : {S I E : Type 0} → (S → Option (Result I E) → S → Type 0) → Type 0
EndsAtError {S} {I} {E} Gives =
    (s t u : S) (e : E) (again : Option (Result I E)) → Gives s (Some (Err e)) t → Gives t again u → again ≡ None

-- each item leaves less of what is left
abbrev pub LeavesLess : {S I : Type 0} → (S → ℕ) → (S → Option I → S → Type 0) → Type 0
LeavesLess {S} {I} left Gives = (s t : S) (item : I) → Gives s (Some item) t → left t < left s

-- some pattern occurs in the span
abbrev pub SomeOccurs : Built → InputView → Type 0
SomeOccurs built input = (m : Occurrence) × Occurs (search_in built input) m

-- each match that a find returns has the property
abbrev pub FindsOnly : (Built → InputView → Occurrence → Type 0) → Built → InputView → Type 0
FindsOnly Property built input = IfSome (find_result built input) (Property built input)

-- each match of a walk has it
abbrev pub WalksOnly : (Built → InputView → Occurrence → Type 0) → Built → InputView → Type 0
WalksOnly Property built input = AllByRecursion (Property built input) (walk_result built input)

-- each item of the listing has it
abbrev pub ListsOnly : (Built → InputView → Occurrence → Type 0) → Built → InputView → Type 0
ListsOnly Property built input = AllByRecursion (Property built input) (all (search_in built input))

-- the match ends in the haystack
abbrev pub EndsInside : Built → InputView → Occurrence → Type 0
EndsInside built input m = m.end ≤ length input.haystack

-- the haystack has its pattern there, byte by byte
abbrev pub IsItsPattern : Built → InputView → Occurrence → Type 0
IsItsPattern built input m = slice_range input.haystack m.start m.end ≡ pattern_of built.patterns m.pattern

-- the bytes are some bytes, then what is the same as a pattern, and then some more; the match is that of this pattern there
pub record StandsBetween (built : Built) (bytes : List ℕ) (m : Occurrence) : Type 0 where
  pub before : List ℕ
  pub between : List ℕ
  pub after : List ℕ
  pub whole : bytes ≡ before ++ (between ++ after)
  pub numbered : m.pattern < length built.patterns
  pub same : IsSame built.ignores_case (pattern_of built.patterns m.pattern) between
  pub start : m.start ≡ length before
  pub end : m.end ≡ length before + length between

-- the number of its pattern is less than a count
abbrev pub IsNumberedBelow : ℕ → Built → InputView → Occurrence → Type 0
IsNumberedBelow count built input m = m.pattern < count

-- it starts and ends between characters of the haystack
abbrev pub StandsBetweenCharacters : Built → InputView → Occurrence → Type 0
StandsBetweenCharacters built input m = IsBetweenCharacters input.haystack m

-- the first match starts no earlier than low, each other one no earlier than the one before it ends, and none ends past high
abbrev pub StandInOrder : ℕ → ℕ → List Occurrence → Type 0
StandInOrder low high [] = ⊤
StandInOrder low high (m ∷ ms) = (low ≤ m.start) × (m.start ≤ m.end) × (m.end ≤ high) × StandInOrder m.end high ms

-- the same where none of the matches is empty
abbrev pub StandApart : ℕ → ℕ → List Occurrence → Type 0
StandApart low high [] = ⊤
StandApart low high (m ∷ ms) = (low ≤ m.start) × (m.start < m.end) × (m.end ≤ high) × StandApart m.end high ms

-- bytes with each of these matches exchanged for what they have there are these bytes
abbrev pub LeavesWhole : List ℕ → List Occurrence → Type 0
LeavesWhole bytes ms = exchanged_from bytes (λ m slice. slice) 0 ms ≡ bytes

-- each byte is ASCII
abbrev pub AreAscii : List ℕ → Type 0
AreAscii [] = Unit {0}
AreAscii (b ∷ bs) = (b < 128) × AreAscii bs

-- each pattern is ASCII, and none is empty
abbrev pub AreWords : List (List ℕ) → Type 0
AreWords [] = Unit {0}
AreWords ([] ∷ ps) = ⊥
AreWords ((b ∷ bs) ∷ ps) = AreAscii (b ∷ bs) × AreWords ps

-- a stream was read to its end, and written with its matches exchanged for what `write` gives; or, where that has failed, what
-- was written begins what is written for every stream that begins with the bytes that came
module _ {R W : Type 0} (ends : Bool) (reads : R → Reading) (writes : W → Writing) where
  abbrev pub WritesExchanged : {E : Type 0} → Built → (Occurrence → List ℕ → List ℕ) → R → W → R → W → Result (Unit {0}) E → Type 0
  WritesExchanged built write reader writer new_reader new_writer result =
      MatchResult result
      (λ _. ExchangesAll built write ends (reads reader) (reads new_reader) (writes writer) (writes new_writer))
      (λ _. ExchangesBeginning built write ends (reads reader) (reads new_reader) (writes writer) (writes new_writer))

  -- what a replacement by a list of texts leaves is what one leaves that writes this
  abbrev pub ListsWrite : Built → List (List ℕ) → (Occurrence → List ℕ → List ℕ) → Type 0
  ListsWrite built texts write =
      (reader new_reader : R) (writer new_writer : W) (result : Result (Unit {0}) StreamError)
      → ExchangesStream ends reads writes built texts reader writer new_reader new_writer result
      → WritesExchanged built write reader writer new_reader new_writer result

  -- and so is what one by a closure leaves
  abbrev pub ClosuresWrite : {F : Type 0} → Calling F W (Result (Unit {0}) Error) → Built → (Occurrence → List ℕ → List ℕ) → Type 0
  ClosuresWrite {F} closures built write =
      (closure : F) (reader new_reader : R) (writer new_writer : W) (result : Result (Unit {0}) StreamError)
      → ExchangesStreamBy ends reads writes closures built closure reader writer new_reader new_writer result
      → WritesExchanged built write reader writer new_reader new_writer result

  -- nothing was read and nothing was written: a beginning, if an empty one
  abbrev pub UnchangedBegins : Built → (Occurrence → List ℕ → List ℕ) → R → W → Type 0
  UnchangedBegins built write reader writer =
      ExchangesBeginning built write ends (reads reader) (reads reader) (writes writer) (writes writer)
