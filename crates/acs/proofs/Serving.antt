-- A request whose searcher is built: by the answer of its mode the run ends.
use Rattle.std.proofs.Common.{◌≡◌, ℕ, List, Bool, arith}
use Rattle.std.specs.Prelude.{Result, Ok, Err, MatchResult}
use Rattle.std.specs.Borrow.{Bor}
use Rattle.std.proofs.lemmas.Grind.{common_steps}
use Rattle.ac_search.specs.Patterns.{bytes_of}
use Rattle.ac_search.specs.Built.{Built}
use Rattle.ac_search.specs.Device.{Reading, Writing}
use Rattle.ac_search.specs.Searchers.{IsBuilt, Searcher}
use Rattle.acs.specs.declared.fault.Fault.{Fault}
use Rattle.acs.specs.declared.request.Mode.{Mode}
use Rattle.acs.specs.declared.request.Request.{Request}
use Rattle.acs.specs.declared.run.Outcome.{Outcome}
use Rattle.acs.specs.Modes.{AnswersOrFails, Answers}
use Rattle.acs.specs.Requests.{built_for, patterns_in, settings_of, texts_among}
use Rattle.acs.specs.Runs.{HasFailed, IsServable}

-- a request of this mode has its searcher, which was built from this
pub record IsServing (request : Request) (words : List (List ℕ)) (mode : Mode) (built : Built) : Type 0 where
  pub mode_is : request.mode ≡ mode
  pub allowed : IsServable request words
  pub built_is : built ≡ built_for request words

pub serves : {request : Request} {words : List (List ℕ)} {mode : Mode} {searcher : Searcher} (patterns : List (Bor (List ℕ)))
    → request.mode ≡ mode → bytes_of patterns ≡ patterns_in request.mode words
    → IsBuilt (settings_of request) (bytes_of patterns) searcher → IsServing request words mode searcher.built
serves {request} patterns mode_is are made = grind (arith, common_steps)

module _ {request : Request} {words : List (List ℕ)} {mode : Mode} {built : Built} (h : IsServing request words mode built)
    (ends : Bool) (reader new_reader : Reading) (writer new_writer : Writing) where
  -- what the mode answers the run does
  pub run-by : (r : Result Outcome Fault)
      → AnswersOrFails ends mode built (texts_among mode words) reader new_reader writer new_writer r
      → MatchResult r (λ outcome. IsServable request words
      × Answers ends request.mode (built_for request words) (texts_among request.mode words) reader new_reader
      writer new_writer outcome)
      (HasFailed ends request words reader new_reader writer new_writer)
  run-by (Ok outcome) answers = grind (arith, common_steps)
  run-by (Err fault) fails = grind (arith, common_steps)
