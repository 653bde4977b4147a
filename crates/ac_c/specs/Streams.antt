-- A search of a text in pieces, as C has it: what was found in all that was taken, and what a call takes and writes.
use Rattle.std.specs.Prelude.{◌≡◌, ◌⊎◌, ℕ, ◌+◌, ◌<◌, ◌≤◌, Bool, true, false, List, [], ◌∷◌, ◌++◌, drop, length, map, take, MatchResult, Option, None, Some, Result, ⊤}
use Rattle.ac_search.specs.Built.{Built}
use Rattle.ac_search.specs.Occurrence.{Occurrence}
use Rattle.ac_search.specs.OverlappingPieces.{listed_taken}
use Rattle.ac_search.specs.Patterns.{usize_max}
use Rattle.ac_search.specs.Searchers.{HasBegunInPieces, HasBegunPieceListing}
use Rattle.ac_search.specs.Stream.{IsStreamRefused, stream_result}
use Rattle.ac_search.specs.Streams.{IsAllGiven}
use Rattle.ac_search.specs.declared.Phase.TheVariants.{Open, Ended}
use Rattle.ac_search.specs.declared.MatchError.{MatchError}
use Rattle.ac_search.specs.declared.StreamError.{StreamError}
use Rattle.ac_c.specs.declared.search.FoundMatch.{FoundMatch}
use Rattle.ac_c.specs.declared.stream.search.PieceSearch.{PieceSearch}
use Rattle.ac_c.specs.declared.stream.search.PieceSearch.TheVariants.{Listing, Walk}
use Rattle.ac_c.specs.Searches.{match_of}

-- what is searched for, and whether it was said that nothing follows
pub record Feeding : Type 0 where
  pub search : PieceSearch
  pub ended : Bool

abbrev pub feeding_by : PieceSearch → Bool → Feeding
feeding_by search ended = record { search = search; ended = ended }

-- all bytes that a search has taken, and how many of their matches it gave
abbrev pub bytes_of_search : PieceSearch → List ℕ
bytes_of_search (Walk v) = v.bytes
bytes_of_search (Listing v) = v.bytes

abbrev pub count_given : PieceSearch → ℕ
count_given (Walk v) = v.given
count_given (Listing v) = v.given

-- all matches of what it has taken
abbrev pub matches_taken : PieceSearch → List Occurrence
matches_taken (Walk v) = stream_result v.built v.bytes
matches_taken (Listing v) = listed_taken v

-- the matches that it gave: the first ones of what it has taken
abbrev pub matches_given : PieceSearch → List Occurrence
matches_given s = take (count_given s) (matches_taken s)

-- it gave all that are settled
abbrev pub IsAllWritten : PieceSearch → Type 0
IsAllWritten (Walk v) = IsAllGiven v
IsAllWritten (Listing v) = v.given ≡ length (listed_taken v)

-- something may follow, as far as it knows
abbrev pub TakesMore : PieceSearch → Type 0
TakesMore (Walk v) = v.phase ≡ Open
TakesMore (Listing v) = ⊤

-- the same search has gone on
abbrev pub HasMovedOn : PieceSearch → PieceSearch → Type 0
HasMovedOn (Walk v) (Walk w) = w ≡ record v { bytes = w.bytes; given = w.given; kept = w.kept }
HasMovedOn (Listing v) (Listing w) = w ≡ record v { bytes = w.bytes; given = w.given }
HasMovedOn v w = ⊥

-- it was said that nothing follows
abbrev pub ended_search : PieceSearch → PieceSearch
ended_search (Walk v) = Walk (record v { phase = Ended })
ended_search (Listing v) = Listing v

abbrev pub ended_stream : Feeding → Feeding
ended_stream s = record { search = ended_search s.search; ended = true }

-- a match, if there is one, as a list
abbrev pub as_list : Option Occurrence → List Occurrence
as_list None = []
as_list (Some m) = m ∷ []

-- bytes of a piece were taken, up to what is left of it: all of them, or as many as usize counts
abbrev pub IsTakenWhole : List ℕ → PieceSearch → Type 0
IsTakenWhole left new = (left ≡ []) ⊎ (length (bytes_of_search new) ≡ usize_max)

-- some bytes of a piece were taken, and the next match was given; or none is settled, and then the piece was taken whole
pub record TakesNext (old : PieceSearch) (piece : List ℕ) (found : Option Occurrence) (new : PieceSearch) (left : List ℕ) : Type 0 where
  pub same : HasMovedOn old new
  pub taken : List ℕ
  pub parted : piece ≡ taken ++ left
  pub bytes : bytes_of_search new ≡ bytes_of_search old ++ taken
  pub gives : matches_given new ≡ matches_given old ++ as_list found
  pub counted : count_given new ≡ count_given old + length (as_list found)
  pub settled : found ≡ None → IsAllWritten new
  pub whole : found ≡ None → TakesMore old → IsTakenWhole left new

-- some bytes of a piece were taken, and their next matches were written to the beginning of `out`. Fewer than it has room for were
-- written only where all that are settled were given, and the piece was taken whole
pub record TakesAndWrites (old : Feeding) (piece : List ℕ) (out new_out : List FoundMatch) (filled : ℕ) (new : Feeding) (left : List ℕ)
    : Type 0 where
  pub same : (new.ended ≡ old.ended) × HasMovedOn old.search new.search
  pub taken : List ℕ
  pub parted : piece ≡ taken ++ left
  pub bytes : bytes_of_search new.search ≡ bytes_of_search old.search ++ taken
  pub written : matches_given new.search ≡ matches_given old.search ++ map match_of (take filled new_out)
  pub counted : count_given new.search ≡ count_given old.search + filled
  pub kept : drop filled new_out ≡ drop filled out
  pub fits : filled ≤ length out
  pub settled : filled < length out → IsAllWritten new.search
  pub whole : filled < length out → TakesMore old.search → IsTakenWhole left new.search

-- the number of what it searches for
abbrev pub piece_mode : PieceSearch → ℕ
piece_mode (Walk v) = 0
piece_mode (Listing v) = 1

-- it has begun, and nothing came yet
abbrev pub HasBegunSearch : Built → PieceSearch → Type 0
HasBegunSearch built (Walk v) = HasBegunInPieces built v
HasBegunSearch built (Listing v) = HasBegunPieceListing built v

pub record HasBegunStream (built : Built) (mode : ℕ) (s : Feeding) : Type 0 where
  pub open' : s.ended ≡ false
  pub mode' : piece_mode s.search ≡ mode
  pub search : HasBegunSearch built s.search

-- so it has where nothing refuses it
abbrev pub AnswersBegun : Built → ℕ → Option MatchError → Result Feeding StreamError → Type 0
AnswersBegun built mode refusal result =
    MatchResult result (λ s. (refusal ≡ None) × HasBegunStream built mode s) (IsStreamRefused refusal ⊤)
