-- What the calls on a search of a text in pieces return and leave.
use Rattle.std.specs.Prelude.{◌≡◌, ◌≢◌, ℕ, ℤ, ◌==◌, ◌≤◌, Bool, true, nat_lt, not, List, [], ◌∷◌, drop, length, MatchOption, MatchResult, Option, None, Some, Result, if◌then◌else◌}
use Rattle.ac_search.specs.Searchers.{Searcher}
use Rattle.ac_search.specs.Built.{Built, stream_refusal}
use Rattle.ac_search.specs.OverlappingPieces.{piece_listing_refusal}
use Rattle.ac_search.specs.declared.MatchError.{MatchError}
use Rattle.ac_c.specs.declared.handle.held.Held.{Held}
use Rattle.ac_c.specs.declared.search.FoundMatch.{FoundMatch}
use Rattle.ac_c.specs.declared.status.TheConstants.{ARGUMENTS, OK}
use Rattle.ac_c.specs.Replaces.{IsOkOrMemory}
use Rattle.ac_c.specs.Statuses.{status_unless}
use Rattle.ac_c.specs.Streams.{Feeding, HasBegunStream, TakesAndWrites, ended_stream, piece_mode}

-- why a search of this mode is refused, if it is: a walk for mode 0, and else a listing
abbrev pub begin_refusal : Built → ℕ → Option MatchError
begin_refusal built mode = if mode == 0 then stream_refusal built else piece_listing_refusal built

-- what is returned where one is begun and there is memory
abbrev pub begin_status : Searcher → ℕ → ℤ
begin_status searcher mode = status_unless (nat_lt mode 2) (begin_refusal searcher.built mode) OK

-- this searcher is held, with a search of this mode that has begun
pub record HoldsBegun (searcher : Searcher) (mode : ℕ) (h : Held) : Type 0 where
  pub searcher' : h.searcher ≡ searcher
  pub stream : Feeding
  pub is : h.stream ≡ Some stream
  pub begun : HasBegunStream searcher.built mode stream

-- a search that has begun is returned where nothing refuses it, and else the status
abbrev pub AnswersBegin : Searcher → ℕ → Result Feeding ℤ → Type 0
AnswersBegin searcher mode result =
    MatchResult result (λ s. (begin_status searcher mode ≡ OK) × HasBegunStream searcher.built mode s)
    (λ status. (status ≢ OK) × IsOkOrMemory (begin_status searcher mode) status)

-- so is the searcher with it
abbrev pub AnswersHeld : Searcher → ℕ → Result Held ℤ → Type 0
AnswersHeld searcher mode result =
    MatchResult result (λ h. (begin_status searcher mode ≡ OK) × HoldsBegun searcher mode h)
    (λ status. (status ≢ OK) × IsOkOrMemory (begin_status searcher mode) status)

-- whether a piece may be fed: once the end was said only an empty one
abbrev pub takes : Bool → List ℕ → Bool
takes ended [] = true
takes ended (b ∷ piece) = not ended

-- ARGUMENTS where there is no search, or it was said that nothing follows and the piece isn't empty
abbrev pub feed_status : Option Feeding → List ℕ → ℤ
feed_status None piece = ARGUMENTS
feed_status (Some s) piece = if takes s.ended piece then OK else ARGUMENTS

-- ARGUMENTS where there is no search
abbrev pub end_status : Option Feeding → ℤ
end_status None = ARGUMENTS
end_status (Some s) = OK

-- where there is one it begins anew
abbrev pub begin_anew_status : Searcher → Option Feeding → ℤ
begin_anew_status searcher None = ARGUMENTS
begin_anew_status searcher (Some s) = begin_status searcher (piece_mode s.search)

abbrev pub reset_status : Option Held → ℤ
reset_status None = ARGUMENTS
reset_status (Some h) = begin_anew_status h.searcher h.stream

-- it has begun anew
pub record Resets (old : Option Held) (new : Option Held) : Type 0 where
  pub held : Held
  pub was : old ≡ Some held
  pub stream : Feeding
  pub there : held.stream ≡ Some stream
  pub begun : MatchOption new ⊥ (HoldsBegun held.searcher (piece_mode stream.search))

-- so many bytes of a piece were taken, and their matches were written
pub record Feeds (piece : List ℕ) (taken : ℕ) (out new_out : List FoundMatch) (filled : ℕ) (old new : Feeding) : Type 0 where
  pub within : taken ≤ length piece
  pub writes : TakesAndWrites old piece out new_out filled new (drop taken piece)

-- nothing follows, and the matches that are left were written
abbrev pub Ends : List FoundMatch → List FoundMatch → ℕ → Feeding → Feeding → Type 0
Ends out new_out filled old new = TakesAndWrites (ended_stream old) [] out new_out filled new []
