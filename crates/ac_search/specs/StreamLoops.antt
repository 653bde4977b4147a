-- What a loop over the matches of a stream has seen.
use Rattle.std.specs.Prelude.{◌≡◌, ◌≢◌, ℕ, ◌+◌, ◌<◌, ◌≤◌, Bool, false, true, List, [], ◌∷◌, ◌++◌, length, take, Some}
use Rattle.std.specs.Io.KnownBytes.{Consumes, IsAtEnd}
use Rattle.std.specs.declared.io.Error.{Error}
use Rattle.ac_util.specs.declared.error.StreamError.{StreamError}
use Rattle.ac_util.specs.declared.error.StreamError.TheVariants.{Io}
use Rattle.ac_automaton.specs.Streams.{GivesError, GivesNextMatch, GivesNone, Streaming}
use Rattle.ac_automaton.specs.Util.{Built, has_empty, Occurrence, Reading, Standard, StartKind, stream_result, usize_max}
use Rattle.ac_automaton.specs.declared.automaton.stream_settled.Phase.TheVariants.{Ended, Failed, Open}
use Rattle.ac_search.specs.Searchers.{HasBegun, with_start}

-- the matches that a search has given so far
abbrev pub given_matches : Built → Streaming → List Occurrence
given_matches built v = take v.given (stream_result built v.bytes)

-- a search for what was built has read its reader from `first` to `now`, no read has failed, and no error was met. Where `ends` is
-- true, the reader has nothing left once the end was met
pub record IsUnderway (ends : Bool) (built : Built) (first now : Reading) (v : Streaming) : Type 0 where
  pub start : StartKind
  pub built_is : v.built ≡ with_start built start
  pub goes_on : v.phase ≢ Failed
  pub read : Consumes first.left now.left v.bytes
  pub failed : now.failed ≡ first.failed
  pub ended : v.phase ≡ Ended → ends ≡ true → IsAtEnd now.left

-- so many matches of a stream stay its first ones, whatever bytes follow. No pattern is empty
abbrev pub GivenStay : Built → ℕ → List ℕ → Type 0
GivenStay built given bytes =
    (more : List ℕ) → has_empty built ≡ false
    → take given (stream_result built (bytes ++ more)) ≡ take given (stream_result built bytes)

-- it has given one match more
pub record HasGivenOne (ends : Bool) (built : Built) (first now : Reading) (before v : Streaming) (m : Occurrence) : Type 0 where
  pub underway : IsUnderway ends built first now v
  pub one_more : given_matches built v ≡ given_matches built before ++ m ∷ []
  pub numbered : m.pattern < length built.patterns
  pub few : length (given_matches built v) ≤ usize_max
  pub stay : v.phase ≡ Open → GivenStay built v.given v.bytes

-- it has met the end, and has given all matches
pub record HasGivenAll (ends : Bool) (built : Built) (first now : Reading) (before v : Streaming) : Type 0 where
  pub underway : IsUnderway ends built first now v
  pub end : v.phase ≡ Ended
  pub all : given_matches built before ≡ stream_result built v.bytes

-- it has met an error, and has given those matches of what was read that stay; under Standard these are all of them
pub record HasStoppedAt (built : Built) (first now : Reading) (before v : Streaming) (e : StreamError) : Type 0 where
  pub read : (cause : Error) → e ≡ Io cause
      → Consumes first.left now.left v.bytes × (now.failed ≡ first.failed + 1) × (now.error ≡ Some cause)
  pub same : given_matches built v ≡ given_matches built before
  pub stay : GivenStay built v.given v.bytes
  pub all : built.kind ≡ Standard → given_matches built before ≡ stream_result built v.bytes

module _ (ends : Bool) (built : Built) where
  -- a search that begins is under way, and has given no match
  abbrev pub BeginsUnderway : Type 0
  BeginsUnderway =
      (reader : Reading) (v : Streaming) → HasBegun built v
      → IsUnderway ends built reader reader v × (given_matches built v ≡ [])

  -- each match that it gives is the next one
  abbrev pub MatchGoesOn : Type 0
  MatchGoesOn =
      (first now later : Reading) (v w : Streaming) (m : Occurrence) → IsUnderway ends built first now v
      → GivesNextMatch ends v m w now later → HasGivenOne ends built first later v w m

  -- where it gives none, it has given all
  abbrev pub NoneEnds : Type 0
  NoneEnds =
      (first now later : Reading) (v w : Streaming) → IsUnderway ends built first now v
      → GivesNone v.phase ends v w now later → HasGivenAll ends built first later v w

  -- where it gives an error, it has given those that are settled
  abbrev pub ErrorLeavesSettled : Type 0
  ErrorLeavesSettled =
      (first now later : Reading) (v w : Streaming) (e : StreamError) → IsUnderway ends built first now v
      → GivesError v e w now later → HasStoppedAt built first later v w e
