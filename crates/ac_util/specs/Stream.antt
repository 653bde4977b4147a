-- Streams: what is found in one, what of it is settled, and what stands after its replacement.
use Rattle.std.specs.Prelude.{ℕ, ◌-◌, ◌*◌, List, [], ◌∷◌, ◌++◌, length, min, max, slice_get, slice_index_or, take, IfSome, ◌≡◌, ◌+◌, ◌<◌, ◌≤◌, true, All, drop, map, ◌⊎◌, Bool, Option, None, Some, Result, Ok, Err, MatchResult}
use Rattle.ac_util.specs.declared.device.WriteError.{WriteError}
use Rattle.ac_util.specs.declared.device.WriteError.TheVariants.{Io as WriteFailed, WriteZero as WroteNothing}
use Rattle.ac_util.specs.declared.error.StreamError.{StreamError}
use Rattle.ac_util.specs.declared.error.StreamError.TheVariants.{Io, WriteZero, Match, Memory, TooLong}
use Rattle.ac_util.specs.Input.{whole_input}
use Rattle.ac_util.specs.Built.{Built, walk_result}
use Rattle.ac_util.specs.Occurrence.{Occurrence, IsSame, plain, pattern_of}
use Rattle.ac_util.specs.Patterns.{longest_len, usize_max}
use Rattle.ac_util.specs.Node.{participates}
use Rattle.std.specs.Borrow.{Bor, MutBor}
use Rattle.std.specs.Fn.{Mut}
use Rattle.std.specs.Io.KnownBytes.{Appends, Consumes}
use Rattle.std.specs.declared.io.Error.{Error}
use Rattle.ac_util.specs.declared.error.MatchError.{MatchError}
use Rattle.ac_util.specs.declared.search.MatchKind.{MatchKind}
use Rattle.ac_util.specs.declared.search.MatchKind.TheVariants.{LeftmostFirst, LeftmostLongest, Standard}
use Rattle.ac_util.specs.Device.{Reading, ReadsAll, ReadsSome, ReadsTooMany, ReadsUntilFailure, Writing, WritesAll, WritesBeginning, WritesUntilFailure}
use Rattle.ac_util.specs.Replacement.{exchanged_from, replaced, Answer, Calls, Fails, Continues, Replacing, ReplacementSteps}

-- the matches of a stream of which the reader has given these bytes: the walk over all of them. Places count from 0
-- over the whole stream
abbrev pub stream_result : Built → List ℕ → List Occurrence
stream_result built bytes = walk_result built (whole_input bytes)

-- where the last of the matches ends, 0 without matches
abbrev pub last_end : List Occurrence → ℕ
last_end [] = 0
last_end (m ∷ []) = m.end
last_end (m ∷ n ∷ ms) = last_end (n ∷ ms)

-- how many bytes may be kept back at most: one fewer than the longest pattern has
abbrev pub reserve : Built → ℕ
reserve built = max 1 (longest_len built.patterns) - 1

-- how many of the bytes read so far are kept back before the next read: so many, but none of a match and of what
-- stands before it
abbrev pub kept_back_len : Built → List ℕ → ℕ
kept_back_len built bytes = min (reserve built) (length bytes - last_end (stream_result built bytes))

-- the bytes without so many of the last ones
abbrev pub without_last : ℕ → List ℕ → List ℕ
without_last n bytes = take (length bytes - n) bytes

-- how many bytes the buffer of a stream has: 65,536, or eight times as many as the longest pattern if that is more, and
-- no more than usize counts
abbrev pub buffer_len : List (List ℕ) → ℕ
buffer_len patterns = max 65536 (min usize_max (8 * longest_len patterns))

-- the error that a failed write is
abbrev pub error_of : WriteError → StreamError
error_of (WriteFailed e) = Io e
error_of WroteNothing = WriteZero

-- an offset is open where some bytes follow it, and a pattern that takes part begins with them and is longer: a match may
-- still come of it
pub record IsOpen (built : Built) (bytes : List ℕ) (place : ℕ) : Type 0 where
  pub inside : place < length bytes
  pub number : ℕ
  pub numbered : number < length built.patterns
  pub takes_part : participates built.kind (map (plain built.ignores_case) built.patterns) number ≡ true
  pub longer : length bytes < place + length (pattern_of built.patterns number)
  pub begins : IsSame built.ignores_case (take (length bytes - place) (pattern_of built.patterns number)) (drop place bytes)

-- no offset from one up to another is open
abbrev pub NoneOpen : Built → List ℕ → ℕ → ℕ → Type 0
NoneOpen built bytes from to = (place : ℕ) → from ≤ place → place < to → IsOpen built bytes place → ⊥

-- from an offset on up to and with the start of the first of these matches none is open, and so on from its end; and none from
-- the last end up to another offset
abbrev pub AreDecided : Built → List ℕ → ℕ → List Occurrence → ℕ → Type 0
AreDecided built bytes from [] to = NoneOpen built bytes from to
AreDecided built bytes from (m ∷ ms) to = NoneOpen built bytes from (m.start + 1) × AreDecided built bytes m.end ms to

-- these bytes of a stream came, and so many of their matches were given: the stream is settled up to an offset where these end
-- by there and are decided, and no other match starts before it
pub record IsSettledAt (built : Built) (bytes : List ℕ) (given place : ℕ) : Type 0 where
  pub few : given ≤ length (stream_result built bytes)
  pub within : place ≤ length bytes
  pub ended : All (λ m. m.end ≤ place) (take given (stream_result built bytes))
  pub later : All (λ m. place ≤ m.start) (drop given (stream_result built bytes))
  pub decided : AreDecided built bytes 0 (take given (stream_result built bytes)) place

-- the first match of these bytes from an offset on could still change when the last of them came: it is that byte, or some
-- offset from there up to its start was open before
abbrev pub CouldChange : Built → List ℕ → ℕ → Occurrence → Type 0
CouldChange built bytes from m =
    (m.start + 1 ≡ length bytes)
    ⊎ ((place : ℕ) × (from ≤ place) × (place ≤ m.start) × IsOpen built (without_last 1 bytes) place)

-- so could the match that follows the first so many, from the end of the last of these on, if there is one
abbrev pub CouldNextChange : Built → List ℕ → ℕ → Type 0
CouldNextChange built bytes given =
    let ms = stream_result built bytes in IfSome (slice_get ms given) (CouldChange built bytes (last_end (take given ms)))

-- one of five things, by why a stream ended
abbrev pub MatchStreamError : StreamError → (MatchError → Type 0) → Type 0 → (Error → Type 0) → Type 0 → Type 0 → Type 0
MatchStreamError (Match e) refused memory io zero long = refused e
MatchStreamError Memory refused memory io zero long = memory
MatchStreamError (Io e) refused memory io zero long = io e
MatchStreamError WriteZero refused memory io zero long = zero
MatchStreamError TooLong refused memory io zero long = long

-- a refused call changes nothing; it is refused for lack of memory only where the settings don't refuse it
abbrev pub IsStreamRefused : Option MatchError → Type 0 → StreamError → Type 0
IsStreamRefused refusal unchanged e =
    MatchStreamError e (λ m. (refusal ≡ Some m) × unchanged) ((refusal ≡ None) × unchanged) (λ _. ⊥) ⊥ ⊥

-- the replacement is made as `whole` says; or it is refused, and has changed nothing; or it ends early, as `fails` says
abbrev pub AnswersStream : Option MatchError → Type 0 → Type 0 → (StreamError → Type 0) → Result (Unit {0}) StreamError → Type 0
AnswersStream refusal unchanged whole fails result =
    MatchResult result (λ _. (refusal ≡ None) × whole) (λ e. IsStreamRefused refusal unchanged e ⊎ ((refusal ≡ None) × fails e))

-- after so many bytes of a stream these came, and then a read has failed with the error, or brought more than usize counts
abbrev pub FailsToRead : ℕ → Reading → Reading → List ℕ → StreamError → Type 0
FailsToRead seen old new bytes e =
    MatchStreamError e (λ _. ⊥) ⊥ (ReadsUntilFailure old new bytes) ⊥ (ReadsTooMany seen old new bytes)

-- as far as which offset a stream is settled under Standard, of which these bytes came: all but the bytes held back
abbrev pub settled : Built → List ℕ → ℕ
settled built bytes = length bytes - kept_back_len built bytes

-- these bytes of a stream came, and it is settled as far as an offset by so many of their matches: under Standard by all of
-- them, and under a leftmost kind by those that no longer stream changes
abbrev pub IsSettledBy : MatchKind → Built → List ℕ → ℕ → ℕ → Type 0
IsSettledBy Standard built bytes given place = (given ≡ length (stream_result built bytes)) × (place ≡ settled built bytes)
IsSettledBy LeftmostFirst built bytes given place = IsSettledAt built bytes given place
IsSettledBy LeftmostLongest built bytes given place = IsSettledAt built bytes given place

-- no more bytes follow the offset than the longest pattern has
abbrev pub IsNear : Built → List ℕ → ℕ → Type 0
IsNear built bytes place = length bytes ≤ place + longest_len built.patterns

-- the bytes came, with the end or without it, and the stream is settled as far as an offset by so many of their matches: by all
-- of them once its end was met
abbrev pub IsSettled : Bool → Built → Reading → Reading → List ℕ → ℕ → ℕ → Type 0
IsSettled ends built old new bytes given place =
    (ReadsSome old new bytes × IsSettledBy built.kind built bytes given place)
    ⊎ (ReadsAll ends old new bytes × (given ≡ length (stream_result built bytes)) × (place ≡ length bytes))

-- these bytes of a stream came, and it is settled as far as an offset by so many of their matches. That is all that is settled: no
-- more bytes follow than the longest pattern has, and the next match could still change when the last byte came
pub record IsAllSettled (built : Built) (bytes : List ℕ) (given place : ℕ) : Type 0 where
  pub settled : IsSettledBy built.kind built bytes given place
  pub near : IsNear built bytes place
  pub next : CouldNextChange built bytes given

-- by these bytes without the last ones, which are no more than a buffer has, the stream is settled as far as an offset, by so many of
-- their matches
pub record IsSettledBefore (built : Built) (bytes before : List ℕ) (given place : ℕ) : Type 0 where
  pub last : List ℕ
  pub whole : bytes ≡ before ++ last
  pub short : length last ≤ buffer_len built.patterns
  pub all : IsAllSettled built before given place

module _ {F D : Type 0} (told : D → Writing) where
  -- the bytes are written, all of them; or a beginning of them, and then a write has failed or took nothing
  abbrev pub WritesPiece : List ℕ → Replacing F D → Option StreamError → Replacing F D → Type 0
  WritesPiece bytes s None t =
      (t.closure ≡ s.closure) × WritesAll (told s.destination) (told t.destination) bytes
  WritesPiece bytes s (Some e) t =
      (t.closure ≡ s.closure)
      × ((failure : WriteError) × (e ≡ error_of failure)
      × WritesUntilFailure (told s.destination) (told t.destination) bytes failure)

-- what the answer of a closure asks for: to go on, or to end at once with its error
abbrev pub answer_of_result : Result (Unit {0}) Error → Answer StreamError
answer_of_result (Ok done) = Continues
answer_of_result (Err e) = Fails (Io e)

module _ {F D : Type 0} (told : D → Writing)
    (closures : Mut F (Bor Occurrence × (Bor (List ℕ) × (MutBor D × Unit {0})))
    (Result (Unit {0}) Error × (MutBor D × Unit {0}))) (built : Built) (closure : F) (old : D) where
  -- the steps that exchange these matches of some bytes, from an offset on
  abbrev pub StreamSteps : List ℕ → ℕ → List Occurrence → Replacing F D → Option StreamError → Replacing F D → Type 0
  StreamSteps bytes from ms s end t =
      ReplacementSteps (WritesPiece told) (Calls closures) answer_of_result bytes from ms s end t

  -- the steps that exchange these matches of some bytes by a closure, as far as an offset, lead a writer from `old` to `new`
  abbrev pub StreamStepsLead : List ℕ → List Occurrence → ℕ → Option StreamError → D → Type 0
  StreamStepsLead bytes ms place end new =
      (left : F) × StreamSteps (take place bytes) 0 ms (record { closure = closure; destination = old }) end
      (record { closure = left; destination = new })

  -- the stream was read to its end, usize counts its bytes, and all of its steps were made
  abbrev pub ReplacesStreamWith : Bool → Reading → Reading → D → Type 0
  ReplacesStreamWith ends reader new_reader new =
      (bytes : List ℕ) × ReadsAll ends reader new_reader bytes
      × StreamStepsLead bytes (stream_result built bytes) (length bytes) None new × (length bytes ≤ usize_max)

  -- the steps were made as far as the stream is settled, of which these bytes came
  abbrev pub StepsAreSettled : List ℕ → D → Type 0
  StepsAreSettled bytes new =
      (given place : ℕ) × IsAllSettled built bytes given place
      × StreamStepsLead bytes (take given (stream_result built bytes)) place None new

  -- the steps over these bytes as far as an offset have ended with an error. Without the last bytes, of which there are no more than a
  -- buffer has, the stream is settled by so many matches: the steps for these were made first, and then the others
  pub record HasMadeFirst (bytes : List ℕ) (given place : ℕ) (new : D) (e : StreamError) : Type 0 where
    pub before : List ℕ
    pub count : ℕ
    pub from : ℕ
    pub settled : IsSettledBefore built bytes before count from
    pub between : Replacing F D
    pub made : StreamSteps (take from before) 0 (take count (stream_result built before))
        (record { closure = closure; destination = old }) None between
    pub left : F
    pub others : StreamSteps (take place bytes) from (drop count (take given (stream_result built bytes))) between
        (Some e) (record { closure = left; destination = new })

  -- a write has failed, or took nothing, or the closure has failed: no step was made after that, and no more had come than a buffer
  -- has since all that was settled was written
  pub record FailsAtStep (ends : Bool) (reader new_reader : Reading) (bytes : List ℕ) (new : D) (e : StreamError) : Type 0 where
    pub given : ℕ
    pub place : ℕ
    pub settled : IsSettled ends built reader new_reader bytes given place
    pub steps : StreamStepsLead bytes (take given (stream_result built bytes)) place (Some e) new
    pub first : HasMadeFirst bytes given place new e

  -- a read has failed, or brought more than usize counts, which counts all before it: the steps were made as far as the
  -- stream is settled. Or a write has failed, or took nothing, or the closure has failed: no step was made after that
  abbrev pub FailsToReplaceWith : Bool → Reading → Reading → D → StreamError → Type 0
  FailsToReplaceWith ends reader new_reader new e =
      (bytes : List ℕ)
      × ((FailsToRead 0 reader new_reader bytes e × StepsAreSettled bytes new)
      ⊎ FailsAtStep ends reader new_reader bytes new e)
      × (length bytes ≤ usize_max)

-- the text of the pattern of a match
abbrev pub text_of : List (List ℕ) → Occurrence → List ℕ → List ℕ
text_of texts m slice = slice_index_or texts m.pattern []

-- what this gives for as many bytes as a match has
abbrev pub by_length : (ℕ → List ℕ) → Occurrence → List ℕ → List ℕ
by_length f m slice = f (length slice)

module _ (built : Built) (write : Occurrence → List ℕ → List ℕ) where
  -- a stream of these bytes, with each match exchanged for what `write` gives for it and its slice
  abbrev pub stream_exchanged : List ℕ → List ℕ
  stream_exchanged bytes = exchanged_from bytes write 0 (stream_result built bytes)

  -- the same as far as an offset, by so many of the matches
  abbrev pub exchanged_to : List ℕ → ℕ → ℕ → List ℕ
  exchanged_to bytes given place = exchanged_from (take place bytes) write 0 (take given (stream_result built bytes))

module _ (built : Built) (texts : List (List ℕ)) (old new : Writing) where
  -- the stream was read to its end, usize counts its bytes, and its replaced text was written
  abbrev pub ReplacesStream : Bool → Reading → Reading → Type 0
  ReplacesStream ends reader new_reader =
      (bytes : List ℕ) × ReadsAll ends reader new_reader bytes
      × WritesAll old new (replaced bytes texts (stream_result built bytes))
      × (length bytes ≤ usize_max)

  -- the replaced text was written as far as the stream is settled, of which these bytes came
  abbrev pub TextIsSettled : List ℕ → Type 0
  TextIsSettled bytes =
      (given place : ℕ) × IsAllSettled built bytes given place
      × WritesAll old new (exchanged_to built (text_of texts) bytes given place)

  -- first the replaced text was written as far as the stream is settled without the last bytes, of which there are no more than a
  -- buffer has
  pub record HasWrittenFirst (bytes : List ℕ) : Type 0 where
    pub before : List ℕ
    pub given : ℕ
    pub place : ℕ
    pub settled : IsSettledBefore built bytes before given place
    pub between : Writing
    pub written : WritesAll old between (exchanged_to built (text_of texts) before given place)
    pub more : List ℕ
    pub later : Appends between.written new.written more

  -- a write has failed, or took nothing: a beginning of the replaced text was written as far as the stream is settled, and no more had
  -- come than a buffer has since all that was settled was written
  pub record FailsAtWrite (ends : Bool) (reader new_reader : Reading) (bytes : List ℕ) (e : StreamError) : Type 0 where
    pub given : ℕ
    pub place : ℕ
    pub settled : IsSettled ends built reader new_reader bytes given place
    pub failure : WriteError
    pub is : e ≡ error_of failure
    pub writes : WritesUntilFailure old new (exchanged_to built (text_of texts) bytes given place) failure
    pub first : HasWrittenFirst bytes

  -- a read has failed, or brought more than usize counts, which counts all before it: the replaced text was written as far
  -- as the stream is settled. Or a write has failed
  abbrev pub FailsToReplace : Bool → Reading → Reading → StreamError → Type 0
  FailsToReplace ends reader new_reader e =
      (bytes : List ℕ)
      × ((FailsToRead 0 reader new_reader bytes e × TextIsSettled bytes)
      ⊎ FailsAtWrite ends reader new_reader bytes e)
      × (length bytes ≤ usize_max)

module _ (built : Built) (write : Occurrence → List ℕ → List ℕ) (ends : Bool) (reader new_reader : Reading)
    (old new : Writing) where
  -- the stream was read to its end, and written with its matches exchanged
  abbrev pub ExchangesAll : Type 0
  ExchangesAll = (bytes : List ℕ) × ReadsAll ends reader new_reader bytes × WritesAll old new (stream_exchanged built write bytes)

  -- bytes came, and what was written begins what is written for every stream that begins with them; or the stream was read
  -- to its end, and what was written begins what is written for it
  abbrev pub ExchangesBeginning : Type 0
  ExchangesBeginning =
      (bytes : List ℕ)
      × ((((lost : List ℕ) × Consumes reader.left new_reader.left (bytes ++ lost))
      × ((more : List ℕ) → WritesBeginning old new (stream_exchanged built write (bytes ++ more))))
      ⊎ (ReadsAll ends reader new_reader bytes × WritesBeginning old new (stream_exchanged built write bytes)))

-- each call writes what `write` gives for the match and its slice, or a beginning of that where it answers an error
abbrev pub AlwaysWritesOut : {F D : Type 0}
    → (Occurrence → List ℕ → Replacing F D → Result (Unit {0}) Error → Replacing F D → Type 0)
    → (D → Writing) → (Occurrence → List ℕ → List ℕ) → Type 0
AlwaysWritesOut {F} {D} calls told write =
    (m : Occurrence) (slice : List ℕ) (s : Replacing F D) (r : Result (Unit {0}) Error) (t : Replacing F D)
    → calls m slice s r t
    → MatchResult r (λ _. WritesAll (told s.destination) (told t.destination) (write m slice))
    (λ _. WritesBeginning (told s.destination) (told t.destination) (write m slice))
