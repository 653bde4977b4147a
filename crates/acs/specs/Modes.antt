-- What a mode does to the reader and the writer of a run, by a searcher that is built.
use Rattle.std.specs.Prelude.{◌≡◌, ◌⊎◌, ℕ, ◌+◌, Bool, List, [], MatchResult, Option, None, Some, Result, option_map, take}
use Rattle.std.specs.Io.KnownBytes.{Consumes}
use Rattle.std.specs.declared.vec.Vec.{Vec}
use Rattle.ac_search.specs.declared.MatchError.{MatchError}
use Rattle.ac_search.specs.declared.StreamError.{StreamError}
use Rattle.ac_search.specs.Input.{whole_input}
use Rattle.ac_search.specs.Built.{Built, overlapping_iter_refusal, stream_refusal}
use Rattle.ac_search.specs.Device.{Reading, ReadsAll, Writing, WritesAll, WritesSome}
use Rattle.ac_search.specs.Replacement.{replaced}
use Rattle.ac_search.specs.Stream.{stream_result, FailsToRead, IsAllSettled, IsSettled}
use Rattle.acs.specs.declared.fault.Fault.{Fault}
use Rattle.acs.specs.declared.fault.Fault.TheVariants.{Io, Memory, WriteZero}
use Rattle.acs.specs.declared.request.Mode.{Mode}
use Rattle.acs.specs.declared.request.Mode.TheVariants.{Overlap, Replace, Stream, StreamReplace}
use Rattle.acs.specs.declared.run.Outcome.{Outcome}
use Rattle.acs.specs.declared.run.Outcome.TheVariants.{Found}
use Rattle.acs.specs.Faults.{refusal_fault_of, stream_fault_of}
use Rattle.acs.specs.Lines.{lines, output_of}

-- why a searcher refuses a mode, if it does
abbrev pub mode_refusal : Mode → Built → Option MatchError
mode_refusal Overlap built = overlapping_iter_refusal built (whole_input [])
mode_refusal Stream built = stream_refusal built
mode_refusal StreamReplace built = stream_refusal built
mode_refusal mode built = None

-- a read has failed, or memory was refused and no read has; each read before took something, and each had room
pub record FailsToReadAll (old new : Reading) (fault : Fault) : Type 0 where
  pub bytes : List ℕ
  pub moved : Consumes old.left new.left bytes
  pub empties : new.empties ≡ old.empties
  pub blanks : new.blanks ≡ old.blanks
  pub cause : ((fault ≡ Io) × (new.failed ≡ old.failed + 1)) ⊎ ((fault ≡ Memory) × (new.failed ≡ old.failed))

-- a beginning of the bytes was written, and then a write has failed or took nothing
pub record FailsToWrite (old new : Writing) (bytes : List ℕ) (fault : Fault) : Type 0 where
  pub some : WritesSome old new bytes
  pub cause : ((fault ≡ Io) × (new.failed ≡ old.failed + 1) × (new.idles ≡ old.idles))
      ⊎ ((fault ≡ WriteZero) × (new.failed ≡ old.failed) × (new.idles ≡ old.idles + 1))

-- all that a reader gives was read, or a read has failed, or memory was refused
abbrev pub ReadsBytes : {Z : Type 0} → Bool → Reading → Reading → Result (Vec ℕ Z) Fault → Type 0
ReadsBytes ends old new result =
    MatchResult result (λ bytes. ReadsAll ends old new bytes.items) (FailsToReadAll old new)

-- the bytes were all written, or a beginning of them, and then a write has failed or took nothing
abbrev pub WritesBytes : Writing → Writing → List ℕ → Result (Unit {0}) Fault → Type 0
WritesBytes old new bytes result = MatchResult result (λ _. WritesAll old new bytes) (FailsToWrite old new bytes)

-- the same for a text that is whole: it counts as found, though it may be empty
abbrev pub PrintsWhole : Writing → Writing → List ℕ → Result Outcome Fault → Type 0
PrintsWhole old new text result =
    MatchResult result (λ outcome. WritesAll old new text × (outcome ≡ Found)) (FailsToWrite old new text)

-- a beginning of the bytes was written, and then a write has failed or took nothing; or memory was refused and each write
-- took something
abbrev pub FailsToPrint : Writing → Writing → List ℕ → Fault → Type 0
FailsToPrint old new bytes fault =
    FailsToWrite old new bytes fault
    ⊎ ((fault ≡ Memory) × WritesSome old new bytes × (new.failed ≡ old.failed) × (new.idles ≡ old.idles))

-- the same for what a mode writes: lines are written while others are made, but a replaced text is whole before its
-- first byte is written, so nothing was written where memory was refused for it. A stream that is replaced asks for no memory
-- after its first read
abbrev pub FailsToWriteFor : Mode → Writing → Writing → List ℕ → Fault → Type 0
FailsToWriteFor Replace old new bytes fault = FailsToWrite old new bytes fault ⊎ ((fault ≡ Memory) × (new ≡ old))
FailsToWriteFor StreamReplace old new bytes fault = FailsToWrite old new bytes fault
FailsToWriteFor mode old new bytes fault = FailsToPrint old new bytes fault

-- what a mode writes for so many matches of a stream that has given these bytes, as far as an offset
abbrev pub text_as_far : Mode → Built → List (List ℕ) → List ℕ → ℕ → ℕ → List ℕ
text_as_far StreamReplace built texts bytes given place =
    replaced (take place bytes) texts (take given (stream_result built bytes))
text_as_far mode built texts bytes given place = lines (take given (stream_result built bytes))

-- what is settled at a read was written
abbrev pub WritesSettled : Mode → Built → List (List ℕ) → List ℕ → Writing → Writing → Type 0
WritesSettled mode built texts bytes old new =
    (given place : ℕ) × IsAllSettled built bytes given place
    × WritesAll old new (text_as_far mode built texts bytes given place)

module _ (ends : Bool) (mode : Mode) (built : Built) (texts : List (List ℕ)) (reader new_reader : Reading)
    (writer new_writer : Writing) where
  -- the searcher doesn't refuse the mode; all that the reader gave was read, what the mode writes for it was written, and the
  -- run ends as that does. `ends` is whether the reader's bytes are at their end where it gives none
  pub record Answers (outcome : Outcome) : Type 0 where
    pub served : mode_refusal mode built ≡ None
    pub haystack : List ℕ
    pub reads : ReadsAll ends reader new_reader haystack
    pub writes : WritesAll writer new_writer (output_of mode built texts haystack).text
    pub outcome_is : outcome ≡ (output_of mode built texts haystack).outcome

  -- or while it wrote, with all read that the reader gave
  pub record FailsPrinting (fault : Fault) : Type 0 where
    pub served : mode_refusal mode built ≡ None
    pub haystack : List ℕ
    pub reads : ReadsAll ends reader new_reader haystack
    pub writes : FailsToWriteFor mode writer new_writer (output_of mode built texts haystack).text fault

  -- some bytes of a stream came, and then a read has failed, or brought more than usize counts: what is settled was written.
  -- Or they came, with the end or without it, and what the mode writes for so many settled matches couldn't be written
  pub record FailsOnStream (fault : Fault) : Type 0 where
    pub bytes : List ℕ
    pub cause : ((e : StreamError) × (fault ≡ stream_fault_of e) × FailsToRead 0 reader new_reader bytes e
        × WritesSettled mode built texts bytes writer new_writer)
        ⊎ ((given place : ℕ) × IsSettled ends built reader new_reader bytes given place
        × FailsToWriteFor mode writer new_writer (text_as_far mode built texts bytes given place) fault)

  -- or while it read and wrote in turn
  abbrev pub FailsStreaming : Fault → Type 0
  FailsStreaming fault = (mode_refusal mode built ≡ None) × FailsOnStream fault

  -- a mode on a stream reads and writes in turn, the others read first
  abbrev pub FailsLater : Mode → Fault → Type 0
  FailsLater Stream fault = FailsStreaming fault
  FailsLater StreamReplace fault = FailsStreaming fault
  FailsLater other fault = ((mode_refusal mode built ≡ None) × FailsToReadAll reader new_reader fault
      × (new_writer ≡ writer)) ⊎ FailsPrinting fault

  -- the mode has failed for its cause: before the first read, or later
  abbrev pub FailsToAnswer : Fault → Type 0
  FailsToAnswer fault = (((option_map refusal_fault_of (mode_refusal mode built) ≡ Some fault) ⊎ (fault ≡ Memory))
      × (new_reader ≡ reader) × (new_writer ≡ writer)) ⊎ FailsLater mode fault

  -- it has answered, or failed
  abbrev pub AnswersOrFails : Result Outcome Fault → Type 0
  AnswersOrFails result = MatchResult result Answers FailsToAnswer
