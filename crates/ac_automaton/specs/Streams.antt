-- What is seen of a search over a stream, and what its calls do.
use Rattle.std.specs.Prelude.{◌≡◌, ◌≢◌, ◌⊎◌, ℕ, ◌+◌, ◌-◌, ◌<◌, ◌≤◌, Bool, List, [], ◌++◌, Option, Some, Result, MatchBool, MatchOption, MatchResult, length, slice_get, take}
use Rattle.ac_automaton.specs.Util.{buffer_len, Built, CouldNextChange, FailsToRead, IsAllSettled, IsNear, IsSettledBefore, IsSettledBy, Occurrence, Reading, ReadsAll, ReadsSome, Standard, stream_result, StreamError, usize_max}
use Rattle.ac_automaton.specs.declared.automaton.stream_settled.Phase.{Phase}
use Rattle.ac_automaton.specs.declared.automaton.stream_settled.Phase.TheVariants.{Open, Ended, Failed}

-- what its automaton was built from; all bytes that were read so far; how many of their matches were given; where in the
-- stream the buffer begins, and from where on its bytes are kept; whether the stream goes on; how many bytes the buffer has
pub record Streaming : Type 0 where
  pub built : Built
  pub bytes : List ℕ
  pub given : ℕ
  pub front : ℕ
  pub kept : ℕ
  pub phase : Phase
  pub buffer : ℕ

-- one with these parts, in this order
abbrev pub streaming_by : Built → List ℕ → ℕ → ℕ → ℕ → Phase → ℕ → Streaming
streaming_by built bytes given front kept phase buffer =
    record { built = built; bytes = bytes; given = given; front = front; kept = kept; phase = phase; buffer = buffer }

-- a search over a stream, and its reader
pub record StreamReading : Type 0 where
  pub stream : Streaming
  pub reader : Reading

abbrev pub on : {R : Type 0} → (R → Reading) → Streaming → R → StreamReading
on told stream reader = record { stream = stream; reader = told reader }

-- one that begins: nothing was read
abbrev pub initial_stream : Built → Streaming
initial_stream built = streaming_by built [] 0 0 0 Open (buffer_len built.patterns)

-- all matches of the bytes read so far
abbrev pub matches_so_far : Streaming → List Occurrence
matches_so_far v = stream_result v.built v.bytes

-- how many bytes of a stream are kept
abbrev pub kept_len : Streaming → ℕ
kept_len v = length v.bytes - v.kept

-- a stream of which these bytes came is settled as far as an offset by so many of their matches: by all of them once its end
-- was met
abbrev pub IsSettledIn : Phase → Built → List ℕ → ℕ → ℕ → Type 0
IsSettledIn Ended built bytes given place = (given ≡ length (stream_result built bytes)) × (place ≡ length bytes)
IsSettledIn Open built bytes given place = IsSettledBy built.kind built bytes given place
IsSettledIn Failed built bytes given place = IsSettledBy built.kind built bytes given place

-- so many of the matches settle the stream as far as an offset: one of them was to be given, and ends by there
pub record IsSettling (v : Streaming) (m : Occurrence) : Type 0 where
  pub given : ℕ
  pub place : ℕ
  pub settled : IsSettledIn v.phase v.built v.bytes given place
  pub among : v.given < given
  pub ended : m.end ≤ place

-- the next match of the bytes read so far was given, unless an error was met before. It stands after what isn't kept any
-- more, and is settled
pub record GivesMatch (old : Streaming) (m : Occurrence) (new : Streaming) : Type 0 where
  pub goes_on : old.phase ≢ Failed
  pub next : slice_get (matches_so_far old) old.given ≡ Some m
  pub same : new ≡ record old { given = old.given + 1; kept = m.end }
  pub numbered : m.pattern < length old.built.patterns
  pub after : old.kept ≤ m.start
  pub ordered : m.start ≤ m.end
  pub within : m.end ≤ length old.bytes
  pub settled : IsSettling old m
  pub counted : new.given ≤ usize_max

-- all matches of the bytes read so far that are settled were given, and what is settled is kept no more
pub record IsAllGiven (v : Streaming) : Type 0 where
  pub settled : IsSettledIn v.phase v.built v.bytes v.given v.kept
  pub near : IsNear v.built v.bytes v.kept
  pub next : CouldNextChange v.built v.bytes v.given
  pub within : v.kept ≤ length v.bytes

-- so it is once bytes are kept from an offset on
pub record HasGivenSettled (old new : Streaming) : Type 0 where
  pub all : IsAllGiven (record old { kept = new.kept })
  pub same : new ≡ record old { kept = new.kept }
  pub onward : old.kept ≤ new.kept

-- the next match without a read, or None where none is settled
abbrev pub GivesRead : Streaming → Option Occurrence → Streaming → Type 0
GivesRead old result new = MatchOption result (HasGivenSettled old new) (λ m. GivesMatch old m new)

-- of all these bytes of a stream, the matches that were given are still the first ones
abbrev pub KeepsGiven : Streaming → List ℕ → Type 0
KeepsGiven v bytes = take v.given (stream_result v.built bytes) ≡ take v.given (matches_so_far v)

-- some bytes more were read, no more than a buffer has: the matches that were given stay as they are
pub record FillsMore (old new : Streaming) (reader new_reader : Reading) : Type 0 where
  pub more : List ℕ
  pub some : 0 < length more
  pub room : length more ≤ buffer_len old.built.patterns
  pub reads : ReadsSome reader new_reader more
  pub same : new ≡ record old { bytes = old.bytes ++ more; front = new.front }
  pub small : length new.bytes ≤ usize_max
  pub given : take old.given (matches_so_far new) ≡ take old.given (matches_so_far old)

-- or the end was met
pub record MeetsEnd (ends : Bool) (old new : Streaming) (reader new_reader : Reading) : Type 0 where
  pub reads : ReadsAll ends reader new_reader []
  pub same : new ≡ record old { front = new.front; phase = Ended }

-- or a read has failed, or brought more than usize counts: no byte is left in the buffer that isn't kept
pub record FailsToFill (old new : Streaming) (reader new_reader : Reading) (e : StreamError) : Type 0 where
  pub reads : FailsToRead (length old.bytes) reader new_reader [] e
  pub same : new ≡ record old { front = old.kept; phase = Failed }

-- a read was made, which says whether some bytes came
abbrev pub Fills : Bool → StreamReading → Result Bool StreamError → StreamReading → Type 0
Fills ends old result new =
    MatchResult result
    (λ more. MatchBool more (FillsMore old.stream new.stream old.reader new.reader)
    (MeetsEnd ends old.stream new.stream old.reader new.reader))
    (FailsToFill old.stream new.stream old.reader new.reader)

-- what a call has read that a stream goes on by, and its phase then: some bytes more, or also its end; or nothing, where the end
-- was met before
abbrev pub GoesOnBy : Bool → Phase → Phase → Reading → Reading → List ℕ → Type 0
GoesOnBy ends Open Open reader new_reader more = ReadsSome reader new_reader more
GoesOnBy ends Open Ended reader new_reader more = ReadsAll ends reader new_reader more
GoesOnBy ends Ended Ended reader new_reader more = (more ≡ []) × (new_reader ≡ reader)
GoesOnBy ends phase new_phase reader new_reader more = ⊥

-- the next match of all that was read was given, once more was read where that was needed, and is settled; those given
-- before stay, and bytes are kept from its end on. Under Standard it was given before the end was met. Where a read was made, all
-- that was settled by what had come before the last one was given. usize counts what was read
pub record GivesNextMatch (ends : Bool) (old : Streaming) (m : Occurrence) (new : Streaming) (reader new_reader : Reading)
    : Type 0 where
  pub more : List ℕ
  pub reads : GoesOnBy ends old.phase new.phase reader new_reader more
  pub early : old.built.kind ≡ Standard → new.phase ≡ Open
  pub needed : (new_reader ≡ reader)
      ⊎ ((before : List ℕ) × (place : ℕ) × IsSettledBefore old.built (old.bytes ++ more) before old.given place)
  pub given : KeepsGiven old (old.bytes ++ more)
  pub next : slice_get (stream_result old.built (old.bytes ++ more)) old.given ≡ Some m
  pub settled : IsSettling (record new { given = old.given }) m
  pub counted : new.given ≤ usize_max
  pub small : length (old.bytes ++ more) ≤ usize_max
  pub same : new ≡ record old {
    bytes = old.bytes ++ more;
    given = old.given + 1;
    front = new.front;
    kept = m.end;
    phase = new.phase;
  }

-- all matches of what was read that are settled were given, and then a read has failed, or brought more than usize counts,
-- which counts all before it; no byte is left in the buffer that isn't kept
pub record GivesError (old : Streaming) (e : StreamError) (new : Streaming) (reader new_reader : Reading)
    : Type 0 where
  pub open' : old.phase ≡ Open
  pub more : List ℕ
  pub reads : FailsToRead (length old.bytes) reader new_reader more e
  pub given : KeepsGiven old (old.bytes ++ more)
  pub all : IsAllSettled old.built (old.bytes ++ more) old.given new.kept
  pub small : length (old.bytes ++ more) ≤ usize_max
  pub same : new ≡ record old { bytes = old.bytes ++ more; front = new.kept; kept = new.kept; phase = Failed }

-- all matches of the stream were given, and its end was met; usize counts its bytes, and none is kept or left in the buffer
pub record EndsNow (ends : Bool) (old new : Streaming) (reader new_reader : Reading) : Type 0 where
  pub more : List ℕ
  pub reads : GoesOnBy ends old.phase Ended reader new_reader more
  pub given : KeepsGiven old (old.bytes ++ more)
  pub all : old.given ≡ length (stream_result old.built (old.bytes ++ more))
  pub small : length (old.bytes ++ more) ≤ usize_max
  pub same : new ≡ record old {
    bytes = old.bytes ++ more;
    front = length (old.bytes ++ more);
    kept = length (old.bytes ++ more);
    phase = Ended;
  }

-- there is no match any more: the end was met, now or before; or an error was, and nothing changes
abbrev pub GivesNone : Phase → Bool → Streaming → Streaming → Reading → Reading → Type 0
GivesNone Open ends old new reader new_reader = EndsNow ends old new reader new_reader
GivesNone Ended ends old new reader new_reader = EndsNow ends old new reader new_reader
GivesNone Failed ends old new reader new_reader = (new ≡ old) × (new_reader ≡ reader)

-- what a call answers that gives the next match of the stream
abbrev pub Streams : Bool → StreamReading → Option (Result Occurrence StreamError) → StreamReading → Type 0
Streams ends old result new =
    MatchOption result (GivesNone old.stream.phase ends old.stream new.stream old.reader new.reader)
    (λ item. MatchResult item (λ m. GivesNextMatch ends old.stream m new.stream old.reader new.reader)
    (λ e. GivesError old.stream e new.stream old.reader new.reader))

-- there is no match any more, and no byte is left in the buffer that isn't kept
pub record HasGivenLast (old new : Streaming) : Type 0 where
  pub given : HasGivenSettled old (record new { front = old.front })
  pub cleared : new.front ≡ new.kept

-- as far as which offset nothing is kept, all where the end was met
abbrev pub kept_from : Phase → ℕ → ℕ → ℕ
kept_from Open place all = place
kept_from Ended place all = all
kept_from Failed place all = place

-- how many items may follow at most: each match has a byte, and an error is the last one
abbrev pub items_in : Phase → ℕ → ℕ
items_in Open given = usize_max - given + 1
items_in Ended given = usize_max - given
items_in Failed given = 0

abbrev pub items_left : StreamReading → ℕ
items_left s = items_in s.stream.phase s.stream.given
