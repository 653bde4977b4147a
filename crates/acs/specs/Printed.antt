-- How far the printing of matches has come.
use Rattle.std.specs.Prelude.{◌≡◌, ◌≤◌, ℕ, Bool, List, [], ◌∷◌, ◌++◌, drop, take, MatchResult, Option, Result}
use Rattle.std.specs.Io.KnownBytes.{Appends}
use Rattle.std.specs.Iterator.{YieldsFirst}
use Rattle.std.specs.declared.vec.Vec.{Vec}
use Rattle.ac_search.specs.Built.{Built}
use Rattle.ac_search.specs.Device.{Reading, ReadsAll, Writing, WritesAll}
use Rattle.ac_search.specs.Occurrence.{Occurrence}
use Rattle.ac_search.specs.Stream.{stream_result}
use Rattle.ac_search.specs.Streams.{IsSettledIn, Streaming, matches_so_far}
use Rattle.acs.specs.declared.fault.Fault.{Fault}
use Rattle.acs.specs.declared.request.Mode.TheVariants.{Stream}
use Rattle.acs.specs.declared.run.Outcome.{Outcome}
use Rattle.acs.specs.declared.run.Outcome.TheVariants.{Found}
use Rattle.acs.specs.Lines.{lines, outcome_of}
use Rattle.acs.specs.Modes.{FailsOnStream, FailsToPrint}

-- each call of an iterator gives the first match of what is left
abbrev pub GivesRest : {S : Type 0} → (S → Option Occurrence → S → Type 0) → (S → List Occurrence) → Type 0
GivesRest {S} steps rest = (s t : S) (m : Option Occurrence) → steps s m t → YieldsFirst rest s m t

-- a line for each match was written; or a beginning of the lines was, and then a write or memory has failed
abbrev pub PrintsLines : Writing → Writing → List Occurrence → Result Outcome Fault → Type 0
PrintsLines old new ms result =
    MatchResult result (λ outcome. WritesAll old new (lines ms) × (outcome ≡ outcome_of ms)) (FailsToPrint old new (lines ms))

-- the same for all matches that an iterator has left
abbrev pub PrintsRest : {S : Type 0} → (S → Option Occurrence → S → Type 0) → S → Writing → Writing → Result Outcome Fault
    → Type 0
PrintsRest {S} steps matches old new result =
    (rest : S → List Occurrence) → GivesRest steps rest → PrintsLines old new (rest matches) result

-- of all the matches some are printed and the rest is not: the lines of the first are written, but for the text
pub record IsPrinting (all rest : List Occurrence) (old new : Writing) (text : List ℕ)
    (outcome : Outcome) : Type 0 where
  pub done : List Occurrence
  pub parted : done ++ rest ≡ all
  pub out : List ℕ
  pub moved : Appends old.written new.written out
  pub written : out ++ text ≡ lines done
  pub failed : new.failed ≡ old.failed
  pub idles : new.idles ≡ old.idles
  pub blanks : new.blanks ≡ old.blanks
  pub outcome_is : outcome ≡ outcome_of done

-- whichever matches come before and after m, its line is printed too; or a write or memory has failed
abbrev pub PrintsNext : {Z : Type 0} → Occurrence → Writing → Writing → Vec ℕ Z → Vec ℕ Z → Result (Unit {0}) Fault → Type 0
PrintsNext m writer new_writer text new_text result =
    (all later : List Occurrence) → (old : Writing) → (outcome : Outcome)
    → IsPrinting all (m ∷ later) old writer text.items outcome
    → MatchResult result (λ _. IsPrinting all later old new_writer new_text.items Found) (FailsToPrint old new_writer (lines all))

-- whichever matches are printed but for the text, it is written; or a write has failed
abbrev pub PrintsEnd : Writing → Writing → List ℕ → Result (Unit {0}) Fault → Type 0
PrintsEnd writer new_writer text result =
    (all : List Occurrence) → (old : Writing) → (outcome : Outcome) → IsPrinting all [] old writer text outcome
    → MatchResult result (λ _. WritesAll old new_writer (lines all) × (outcome ≡ outcome_of all))
    (FailsToPrint old new_writer (lines all))

-- the matches of the bytes read so far that weren't given yet are not printed either
abbrev pub PrintsSoFar : Streaming → Writing → Writing → List ℕ → Outcome → Type 0
PrintsSoFar v old new text outcome =
    IsPrinting (matches_so_far v) (drop v.given (matches_so_far v)) old new text outcome

-- all matches of the bytes read so far that are settled were given, and their lines are written
pub record HasPrintedRead (v new_v : Streaming) (old new : Writing) (text : List ℕ) (outcome : Outcome) : Type 0 where
  pub same : new_v ≡ record v { given = new_v.given; kept = new_v.kept }
  pub onward : v.given ≤ new_v.given
  pub nothing : text ≡ []
  pub printing : PrintsSoFar new_v old new [] outcome

-- a beginning of the lines of so many settled matches was written, and then a write or memory has failed
abbrev pub FailsToPrintSettled : Streaming → Writing → Writing → Fault → Type 0
FailsToPrintSettled v old new fault =
    (given place : ℕ) × IsSettledIn v.phase v.built v.bytes given place
    × FailsToPrint old new (lines (take given (matches_so_far v))) fault

-- whatever was written before, the matches that a finder has settled are printed too; or a write or memory has failed
abbrev pub PrintsRead : {Z : Type 0} → Streaming → Streaming → Writing → Writing → Vec ℕ Z → Vec ℕ Z
    → Result (Unit {0}) Fault → Type 0
PrintsRead v new_v writer new_writer text new_text result =
    (old : Writing) → PrintsSoFar v old writer text.items Found
    → MatchResult result (λ _. HasPrintedRead v new_v old new_writer new_text.items Found)
    (FailsToPrintSettled v old new_writer)

module _ (ends : Bool) (built : Built) (reader new_reader : Reading) (writer new_writer : Writing) where
  -- a stream was read to its end, and the lines of all its matches are written
  pub record PrintsStream (outcome : Outcome) : Type 0 where
    pub bytes : List ℕ
    pub reads : ReadsAll ends reader new_reader bytes
    pub writes : WritesAll writer new_writer (lines (stream_result built bytes))
    pub outcome_is : outcome ≡ outcome_of (stream_result built bytes)

  -- or it couldn't be read, or the lines couldn't be written
  abbrev pub FailsToPrintStream : Fault → Type 0
  FailsToPrintStream fault = FailsOnStream ends Stream built [] reader new_reader writer new_writer fault
