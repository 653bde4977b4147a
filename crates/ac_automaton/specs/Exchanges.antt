-- What the replacement of a stream gathers before it writes, and what it has done so far.
use Rattle.std.specs.Prelude.{◌≡◌, ℕ, List, [], ◌++◌, MatchResult, Option, None, Result, Some, ◌⊎◌, ◌<◌, ◌≤◌, Bool, Ok, Err, length, take, drop}
use Rattle.ac_automaton.specs.Util.{error_of, Replacing, StreamError, WriteError, WritesAll, WritesUntilFailure, Writing, Answer, Built, Calls, Fails, FailsToRead, Continues, IsAllSettled, IsSettled, IsSettledBefore, Occurrence, Reading, ReadsAll, ReplacementSteps, StartFrom, stream_result, usize_max}
use Rattle.ac_automaton.specs.declared.automaton.stream_replace.ByTexts.{ByTexts}
use Rattle.std.specs.Borrow.{Bor, MutBor}
use Rattle.std.specs.Fn.{Mut}
use Rattle.std.specs.declared.io.Error.{Error}
use Rattle.ac_util.specs.declared.error.StreamError.TheVariants.{Io}
use Rattle.ac_automaton.specs.Streams.{IsAllGiven, IsSettledIn, Streaming, matches_so_far}

-- a part of what was held back and of some bytes after it was written, and the rest of it is held back
pub record Gathers (old new : Writing) (held bytes still : List ℕ) : Type 0 where
  pub part : List ℕ
  pub writes : WritesAll old new part
  pub whole : held ++ bytes ≡ part ++ still

-- bytes were gathered after what was held back; or a beginning of both was written, and then a write has failed
abbrev pub GathersOrFails : Writing → Writing → List ℕ → List ℕ → List ℕ → Result (Unit {0}) WriteError → Type 0
GathersOrFails old new held bytes still result =
    MatchResult result (λ done. Gathers old new held bytes still) (WritesUntilFailure old new (held ++ bytes))

-- what was held back was written, and nothing is held back then; or a write has failed
abbrev pub WritesHeld : Writing → Writing → List ℕ → List ℕ → Result (Unit {0}) WriteError → Type 0
WritesHeld old new held still result =
    MatchResult result (λ done. (still ≡ []) × WritesAll old new held) (WritesUntilFailure old new held)

-- what a writer was told, what an exchange holds back, and what the exchange is without that
pub record Passing (E D : Type 0) : Type 0 where
  pub told : D → Writing
  pub held : E → List ℕ
  pub without : E → E

-- an exchange by texts holds back what it has gathered
abbrev pub by_texts : {D : Type 0} → (D → Writing) → Passing ByTexts D
by_texts told = record { told = told; held = λ e. e.gathered; without = λ e. record e { gathered = [] } }

module _ {E D : Type 0} (passing : Passing E D) where
  -- the bytes are gathered; or a beginning of what was held back and of the bytes was written, and then a write has failed or
  -- took nothing
  abbrev pub PassesPiece : List ℕ → Replacing E D → Option StreamError → Replacing E D → Type 0
  PassesPiece bytes s None t =
      (passing.without t.closure ≡ passing.without s.closure)
      × Gathers (passing.told s.destination) (passing.told t.destination) (passing.held s.closure) bytes
      (passing.held t.closure)
  PassesPiece bytes s (Some e) t =
      (passing.without t.closure ≡ passing.without s.closure)
      × ((failure : WriteError) × (e ≡ error_of failure)
      × WritesUntilFailure (passing.told s.destination) (passing.told t.destination)
      (passing.held s.closure ++ bytes) failure)

-- the error in an answer, if there is one
abbrev pub error_in : Result (Unit {0}) StreamError → Option StreamError
error_in (Ok done) = None
error_in (Err e) = Some e

-- and what it asks for: to go on, or to end with the error
abbrev pub answer_of_exchange : Result (Unit {0}) StreamError → Answer StreamError
answer_of_exchange (Ok done) = Continues
answer_of_exchange (Err e) = Fails e

-- an exchange beside its writer
abbrev pub beside : {E D : Type 0} → E → D → Replacing E D
beside exchange writer = record { closure = exchange; destination = writer }

-- bytes were passed on, or that has failed
abbrev pub Passes : {E D : Type 0} → Passing E D → List ℕ → Replacing E D → Result (Unit {0}) StreamError → Replacing E D → Type 0
Passes passing bytes s r t = PassesPiece passing bytes s (error_in r) t

-- an exchange may be called with each match of the patterns of what was built
abbrev pub AcceptsMatches : {E : Type 0} → (E → Occurrence → Type 0) → Built → E → Type 0
AcceptsMatches accepts built exchange = (m : Occurrence) → m.pattern < length built.patterns → accepts exchange m

-- it may still be called with each match with which it could be called before
abbrev pub StillAccepts : {E : Type 0} → (E → Occurrence → Type 0) → E → E → Type 0
StillAccepts accepts old new = (m : Occurrence) → accepts old m → accepts new m

-- a closure was called with a match and its slice, and its error is the answer's
abbrev pub CallsBy : {F D : Type 0}
    → Mut F (Bor Occurrence × (Bor (List ℕ) × (MutBor D × Unit {0}))) (Result (Unit {0}) Error × (MutBor D × Unit {0}))
    → Occurrence → List ℕ → F → D → Result (Unit {0}) StreamError → F → D → Type 0
CallsBy closures m slice closure old r left new =
    (answer : Result (Unit {0}) Error)
    × Calls closures m slice (record { closure = closure; destination = old }) answer
    (record { closure = left; destination = new })
    × MatchResult answer (λ done. r ≡ Ok done) (λ e. r ≡ Err (Io e))

module _ {E D : Type 0} (passing : Passing E D)
    (calls : Occurrence → List ℕ → Replacing E D → Result (Unit {0}) StreamError → Replacing E D → Type 0) where
  -- the steps that exchange these matches of a haystack, from an offset on
  abbrev pub Steps : List ℕ → ℕ → List Occurrence → Replacing E D → Option StreamError → Replacing E D → Type 0
  Steps haystack place ms s end t = ReplacementSteps (PassesPiece passing) calls answer_of_exchange haystack place ms s end t

  -- after so many matches and from an offset on, the matches given since were exchanged, and what isn't kept any more was passed on:
  -- in any haystack that begins as the stream does, steps from there on are the last of steps from that offset
  pub record HasReplaced (count from : ℕ) (v : Streaming) (first s : Replacing E D) : Type 0 where
    pub counted : count ≤ v.given
    pub begun : from ≤ v.kept
    pub steps : (haystack : List ℕ) → take v.kept haystack ≡ take v.kept v.bytes
        → (ms : List Occurrence) → StartFrom v.kept ms → (end : Option StreamError) (t : Replacing E D)
        → Steps haystack v.kept ms s end t
        → Steps haystack from (drop count (take v.given (matches_so_far v)) ++ ms) first end t

  -- all matches of what was read that are settled were exchanged, and all that is settled was written, so that nothing is held
  -- back: whatever was done before
  pub record HasExchanged (old new : Streaming) (s t : Replacing E D) : Type 0 where
    pub all : IsAllGiven new
    pub same : new ≡ record old { given = new.given; kept = new.kept }
    pub clear : passing.held t.closure ≡ []
    pub replaced : (count from : ℕ) (first : Replacing E D) → HasReplaced count from old first s → HasReplaced count from new first t

  -- a write, or an exchange, has failed: the steps were made up to it, wherever they began
  pub record FailsToExchange (old : Streaming) (s : Replacing E D) (e : StreamError) (t : Replacing E D) : Type 0 where
    pub given : ℕ
    pub place : ℕ
    pub settled : IsSettledIn old.phase old.built old.bytes given place
    pub steps : (count from : ℕ) (first : Replacing E D) → HasReplaced count from old first s
        → Steps (take place old.bytes) from (drop count (take given (matches_so_far old))) first (Some e) t

  -- the exchange of what was read has answered
  abbrev pub ExchangesRead : Streaming → Streaming → Replacing E D → Replacing E D → Result (Unit {0}) StreamError → Type 0
  ExchangesRead old new s t result = MatchResult result (λ done. HasExchanged old new s t) (λ e. FailsToExchange old s e t)

  -- the stream was read to its end, usize counts its bytes, all of its steps were made, and nothing is held back
  abbrev pub ReplacesBy : Bool → Built → Reading → Reading → Replacing E D → Replacing E D → Type 0
  ReplacesBy ends built reader new_reader s t =
      (bytes : List ℕ) × ReadsAll ends reader new_reader bytes × (passing.held t.closure ≡ [])
      × Steps (take (length bytes) bytes) 0 (stream_result built bytes) s None t × (length bytes ≤ usize_max)

  -- a read has failed, or brought more than usize counts: the steps were made as far as the stream was settled, and nothing is
  -- held back
  pub record FailsAtRead (built : Built) (reader new_reader : Reading) (s : Replacing E D) (e : StreamError)
      (t : Replacing E D) (bytes : List ℕ) : Type 0 where
    pub given : ℕ
    pub place : ℕ
    pub reads : FailsToRead 0 reader new_reader bytes e
    pub all : IsAllSettled built bytes given place
    pub clear : passing.held t.closure ≡ []
    pub steps : Steps (take place bytes) 0 (take given (stream_result built bytes)) s None t

  -- without the last bytes, of which there are no more than a buffer has, the stream is settled by so many matches: the steps for these
  -- were made first, and nothing was held back; the others have ended with an error
  pub record HasExchangedFirst (built : Built) (bytes : List ℕ) (given place : ℕ) (s : Replacing E D) (e : StreamError)
      (t : Replacing E D) : Type 0 where
    pub before : List ℕ
    pub count : ℕ
    pub from : ℕ
    pub settled : IsSettledBefore built bytes before count from
    pub between : Replacing E D
    pub clear : passing.held between.closure ≡ []
    pub made : Steps (take from before) 0 (take count (stream_result built before)) s None between
    pub others : Steps (take place bytes) from (drop count (take given (stream_result built bytes))) between (Some e) t

  -- a write, or an exchange, has failed: no step was made after that
  pub record FailsAtExchange (ends : Bool) (built : Built) (reader new_reader : Reading) (s : Replacing E D) (e : StreamError)
      (t : Replacing E D) (bytes : List ℕ) : Type 0 where
    pub given : ℕ
    pub place : ℕ
    pub settled : IsSettled ends built reader new_reader bytes given place
    pub steps : Steps (take place bytes) 0 (take given (stream_result built bytes)) s (Some e) t
    pub first : HasExchangedFirst built bytes given place s e t

  -- one of the two; and usize counts what was read
  abbrev pub FailsBy : Bool → Built → Reading → Reading → Replacing E D → StreamError → Replacing E D → Type 0
  FailsBy ends built reader new_reader s e t =
      (bytes : List ℕ)
      × (FailsAtRead built reader new_reader s e t bytes ⊎ FailsAtExchange ends built reader new_reader s e t bytes)
      × (length bytes ≤ usize_max)

  -- the replacement of a stream has answered
  abbrev pub ReplacesOrFails : Bool → Built → Reading → Reading → Replacing E D → Replacing E D
      → Result (Unit {0}) StreamError → Type 0
  ReplacesOrFails ends built reader new_reader s t result =
      MatchResult result (λ done. ReplacesBy ends built reader new_reader s t)
      (λ e. FailsBy ends built reader new_reader s e t)
