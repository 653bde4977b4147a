-- Why the program fails, and what it says then.
use Rattle.std.specs.Prelude.{◌≡◌, ℕ, List, codes, MatchOption, Result, Ok, Err}
use Rattle.ac_search.specs.declared.WriteError.{WriteError}
use Rattle.ac_search.specs.declared.WriteError.TheVariants.{Io as WriteFailed, WriteZero as WroteNothing}
use Rattle.ac_search.specs.declared.BuildError.{BuildError}
use Rattle.ac_search.specs.declared.BuildError.TheVariants.{Memory as NoMemory, PatternIdOverflow, PatternTooLong as TooLongPattern, StateIdOverflow}
use Rattle.ac_search.specs.declared.MatchError.{MatchError}
use Rattle.ac_search.specs.declared.MatchError.TheVariants.{InvalidInputAnchored, InvalidInputUnanchored, UnsupportedEmpty, UnsupportedOverlapping, UnsupportedStream}
use Rattle.ac_search.specs.declared.StreamError.{StreamError}
use Rattle.ac_search.specs.declared.StreamError.TheVariants.{Io as DeviceFailed, Match as Refused, Memory as NoBuffer, TooLong as StreamTooLong, WriteZero as TookNothing}
use Rattle.ac_search.specs.Builds.{RefusesBy}
use Rattle.ac_search.specs.Patterns.{limit_refusal}
use Rattle.ac_search.specs.Searchers.{Settings, engine_refusal}
use Rattle.acs.specs.declared.fault.Fault.{Fault}
use Rattle.acs.specs.declared.fault.Fault.TheVariants.{Usage, Memory, TooManyPatterns, PatternTooLong, TooManyStates, OverlappingKind, StreamKind, StreamEmpty, Io, WriteZero, TooLong}

-- the line of each fault, without its end
abbrev pub line_of : Fault → List ℕ
line_of Usage = codes "acs: usage: acs MODE KIND ENGINE WORD.."
line_of Memory = codes "acs: out of memory"
line_of TooManyPatterns = codes "acs: too many patterns"
line_of PatternTooLong = codes "acs: pattern too long"
line_of TooManyStates = codes "acs: too many states"
line_of OverlappingKind = codes "acs: overlapping search needs std"
line_of StreamKind = codes "acs: stream search needs std"
line_of StreamEmpty = codes "acs: stream search refuses an empty pattern"
line_of Io = codes "acs: input or output failed"
line_of WriteZero = codes "acs: output took no byte"
line_of TooLong = codes "acs: stream too long"

-- the fault that a refused build is
abbrev pub fault_of : BuildError → Fault
fault_of NoMemory = Memory
fault_of (PatternIdOverflow max requested) = TooManyPatterns
fault_of (TooLongPattern pattern len) = PatternTooLong
fault_of (StateIdOverflow max requested) = TooManyStates

-- the fault that a refused search is: the program asks for no start that its searchers haven't, which would be bad usage
abbrev pub refusal_fault_of : MatchError → Fault
refusal_fault_of InvalidInputAnchored = Usage
refusal_fault_of InvalidInputUnanchored = Usage
refusal_fault_of (UnsupportedOverlapping got) = OverlappingKind
refusal_fault_of (UnsupportedStream got) = StreamKind
refusal_fault_of UnsupportedEmpty = StreamEmpty

-- the fault that a failed stream is
abbrev pub stream_fault_of : StreamError → Fault
stream_fault_of (Refused refusal) = refusal_fault_of refusal
stream_fault_of NoBuffer = Memory
stream_fault_of (DeviceFailed e) = Io
stream_fault_of TookNothing = WriteZero
stream_fault_of StreamTooLong = TooLong

-- the fault that a failed write is
abbrev pub write_fault_of : WriteError → Fault
write_fault_of (WriteFailed e) = Io
write_fault_of WroteNothing = WriteZero

-- the fault of a build over these patterns that was refused: a limit of the list is reported before lack of memory
abbrev pub IsRefusal : Settings → List (List ℕ) → Fault → Type 0
IsRefusal settings patterns fault =
    (e : BuildError) × (fault ≡ fault_of e) × RefusesBy (engine_refusal settings patterns) patterns e

-- the patterns are refused where they pass a limit, by the fault of the first one
abbrev pub ChecksLimits : List (List ℕ) → Result (Unit {0}) Fault → Type 0
ChecksLimits patterns result =
    MatchOption (limit_refusal patterns) (result ≡ Ok tt) (λ refusal. result ≡ Err (fault_of refusal))
