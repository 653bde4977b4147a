-- What runs do, by the reader, the writer and the device for errors that they are handed.
use Rattle.std.specs.Prelude.{ℕ, List, [], IfOk, MatchResult, Option, Result, String}
use Rattle.std.specs.Borrow.{Bor}
use Rattle.std.specs.Iterator.{Drains}
use Rattle.std.specs.declared.alloc.Global.{Global}
use Rattle.ac_search.specs.declared.Sink.{Ghosts as Sink}
use Rattle.ac_search.specs.declared.Source.{Ghosts as Source}
use Rattle.ac_search.specs.Patterns.{bytes_of}
use Rattle.ac_search.specs.Built.{Built}
use Rattle.ac_search.specs.Searchers.{Searcher}
use Rattle.acs.specs.declared.fault.Fault.{Fault}
use Rattle.acs.specs.declared.request.Mode.{Mode}
use Rattle.acs.specs.declared.request.Request.{Request}
use Rattle.acs.specs.declared.run.Outcome.{Outcome}
use Rattle.acs.specs.Modes.{AnswersOrFails}
use Rattle.acs.specs.Printed.{FailsToPrintStream, PrintsStream}
use Rattle.acs.specs.Requests.{seconds, words_among}
use Rattle.acs.specs.Runs.{HasAnswered, HasEnded, RunsOrFails}

module _ {R W : Type 0} (source : Source R) (sink : Sink W) where
  -- a mode that prints lines has answered by a searcher, or failed
  abbrev pub AnswersOn : Mode → Searcher → R → R → W → W → Result Outcome Fault → Type 0
  AnswersOn mode searcher reader new_reader writer new_writer result =
      AnswersOrFails source.empty_means_end mode searcher.built [] (source.told reader) (source.told new_reader)
      (sink.told writer) (sink.told new_writer) result

  -- the same of a mode that exchanges matches for the texts among these words
  abbrev pub ReplacesOn : Mode → Searcher → List (Bor (List ℕ)) → R → R → W → W → Result Outcome Fault → Type 0
  ReplacesOn mode searcher words reader new_reader writer new_writer result =
      AnswersOrFails source.empty_means_end mode searcher.built (seconds (bytes_of words)) (source.told reader)
      (source.told new_reader) (sink.told writer) (sink.told new_writer) result

  -- the lines of all matches of a stream were printed, or not
  abbrev pub PrintsStreamOn : Built → R → R → W → W → Result Outcome Fault → Type 0
  PrintsStreamOn built reader new_reader writer new_writer result =
      MatchResult result
      (PrintsStream source.empty_means_end built (source.told reader) (source.told new_reader) (sink.told writer)
      (sink.told new_writer))
      (FailsToPrintStream source.empty_means_end built (source.told reader) (source.told new_reader) (sink.told writer)
      (sink.told new_writer))

  -- a request with these words has run, or failed
  abbrev pub RunsOn : Request → List (Bor (List ℕ)) → R → R → W → W → Result Outcome Fault → Type 0
  RunsOn request words reader new_reader writer new_writer result =
      RunsOrFails source.empty_means_end request (bytes_of words) (source.told reader) (source.told new_reader)
      (sink.told writer) (sink.told new_writer) result

  -- the run has answered the words, or failed
  abbrev pub HasAnsweredOn : List (Bor (List ℕ)) → R → R → W → W → Result Outcome Fault → Type 0
  HasAnsweredOn words reader new_reader writer new_writer result =
      HasAnswered source.empty_means_end (bytes_of words) (source.told reader) (source.told new_reader) (sink.told writer)
      (sink.told new_writer) result

module _ {R W E : Type 0} (source : Source R) (sink : Sink W) (reports : Sink E) where
  -- the run on the words has ended with this status
  abbrev pub EndsOn : List (Bor (List ℕ)) → R → R → W → W → E → E → ℕ → Type 0
  EndsOn words reader new_reader writer new_writer errors new_errors status =
      HasEnded source.empty_means_end (bytes_of words) (source.told reader) (source.told new_reader) (sink.told writer)
      (sink.told new_writer) (reports.told errors) (reports.told new_errors) status

  -- the run on the words among all that an iterator gives has ended, where it didn't fail
  abbrev pub EndsOnAll : {I : Type 0} → (I → Option (String Global) → I → Type 0) → I → R → R → W → W → E → E
      → Result ℕ Fault → Type 0
  EndsOnAll steps arguments reader new_reader writer new_writer errors new_errors result =
      IfOk result
      (λ status. (given : List (String Global)) × Drains steps arguments given
      × HasEnded source.empty_means_end (words_among given) (source.told reader) (source.told new_reader)
      (sink.told writer) (sink.told new_writer) (reports.told errors) (reports.told new_errors) status)
