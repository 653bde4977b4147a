-- What a run of the program does to its reader and its writer.
use Rattle.std.specs.Prelude.{◌≡◌, ◌⊎◌, ℕ, ◌++◌, Bool, List, codes, MatchOption, MatchResult, Result, Ok, Err, drop}
use Rattle.ac_search.specs.Device.{Reading, Writing, WritesAll}
use Rattle.ac_search.specs.Builds.{IsAllowed}
use Rattle.ac_search.specs.Searchers.{engine_refusal}
use Rattle.acs.specs.declared.fault.Fault.{Fault}
use Rattle.acs.specs.declared.fault.Fault.TheVariants.{Usage}
use Rattle.acs.specs.declared.request.Request.{Request}
use Rattle.acs.specs.declared.run.Outcome.{Outcome}
use Rattle.acs.specs.Faults.{IsRefusal, line_of}
use Rattle.acs.specs.Lines.{status_of}
use Rattle.acs.specs.Modes.{Answers, FailsToAnswer, FailsToWrite}
use Rattle.acs.specs.Requests.{built_for, patterns_in, request_of, settings_of, texts_among}

-- no limit refuses the searcher for a request with these words
abbrev pub IsServable : Request → List (List ℕ) → Type 0
IsServable request words =
    IsAllowed (engine_refusal (settings_of request) (patterns_in request.mode words)) (patterns_in request.mode words)

module _ (ends : Bool) (request : Request) (words : List (List ℕ)) (reader new_reader : Reading)
    (writer new_writer : Writing) where
  -- the run has ended with a fault, for its cause. The searcher was refused, by a limit of the list where one is passed:
  -- reader and writer are as they were. Or no limit refused it, and by it the mode has failed
  abbrev pub HasFailed : Fault → Type 0
  HasFailed fault =
      (IsRefusal (settings_of request) (patterns_in request.mode words) fault
      × (new_reader ≡ reader)
      × (new_writer ≡ writer))
      ⊎ (IsServable request words
      × FailsToAnswer ends request.mode (built_for request words) (texts_among request.mode words) reader new_reader
      writer new_writer fault)

  -- it has run, or failed for its cause
  abbrev pub RunsOrFails : Result Outcome Fault → Type 0
  RunsOrFails result =
      MatchResult result
      (λ outcome. IsServable request words
      × Answers ends request.mode (built_for request words) (texts_among request.mode words) reader new_reader writer new_writer
      outcome)
      HasFailed

-- the run has answered the words after the program's name: they ask for nothing that there is, and reader and writer
-- are as they were; or for something, and it has run, or failed for its cause
abbrev pub HasAnswered : Bool → List (List ℕ) → Reading → Reading → Writing → Writing → Result Outcome Fault → Type 0
HasAnswered ends words reader new_reader writer new_writer answered =
    MatchOption (request_of words)
    ((answered ≡ Err Usage) × (new_reader ≡ reader) × (new_writer ≡ writer))
    (λ request. RunsOrFails ends request (drop 3 words) reader new_reader writer new_writer answered)

-- what is reported of a fault: its line with a line end
abbrev pub message_of : Fault → List ℕ
message_of fault = line_of fault ++ codes "\n"

-- what is reported of a fault was written, or a beginning of it where a write failed or took nothing; where there is no fault
-- nothing was written
abbrev pub HasReported : Result Outcome Fault → Writing → Writing → Type 0
HasReported (Ok outcome) old new = new ≡ old
HasReported (Err fault) old new =
    WritesAll old new (message_of fault) ⊎ ((cause : Fault) × FailsToWrite old new (message_of fault) cause)

-- the run has answered the words, a fault was reported, and this is the exit status
abbrev pub HasEnded : Bool → List (List ℕ) → Reading → Reading → Writing → Writing → Writing → Writing → ℕ → Type 0
HasEnded ends words reader new_reader writer new_writer errors new_errors status =
    (outcome : Result Outcome Fault)
    × HasAnswered ends words reader new_reader writer new_writer outcome
    × HasReported outcome errors new_errors
    × (status ≡ status_of outcome)
