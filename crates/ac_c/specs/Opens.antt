-- What `ac_raw_open` returns and leaves.
use Rattle.std.specs.Prelude.{◌≡◌, ◌≢◌, ◌⊎◌, ◌&&◌, ℕ, ℤ, List, length, MatchResult, Option, None, Some, Result, if◌then◌else◌}
use Rattle.ac_search.specs.declared.BuildError.{BuildError}
use Rattle.ac_search.specs.Builds.{refusal_or}
use Rattle.ac_search.specs.Patterns.{limit_refusal}
use Rattle.ac_search.specs.Searchers.{IsBuilt, Searcher, engine_refusal}
use Rattle.ac_c.specs.declared.options.Options.{Options}
use Rattle.ac_c.specs.declared.status.TheConstants.{ARGUMENTS, LIMIT, MEMORY, OK}
use Rattle.ac_c.specs.Settings.{names_settings, settings_by}
use Rattle.ac_c.specs.Texts.{are_ends, texts_in}

-- a searcher was built by these options over these patterns
abbrev pub IsOpened : Options → List ℕ → List ℕ → Searcher → Type 0
IsOpened options bytes ends searcher = IsBuilt (settings_by options) (texts_in bytes 0 ends) searcher

-- LIMIT where a limit refuses a build, else OK
abbrev pub limit_status : Option BuildError → ℤ
limit_status None = OK
limit_status (Some e) = LIMIT

-- what is returned where there is memory: ARGUMENTS where a number names no setting or these are no ends, or else LIMIT
abbrev pub open_status : Options → List ℕ → List ℕ → ℤ
open_status options bytes ends =
    if names_settings options && are_ends (length bytes) 0 ends
    then limit_status (let patterns = texts_in bytes 0 ends in refusal_or (limit_refusal patterns)
    (engine_refusal (settings_by options) patterns)) else ARGUMENTS

-- a call returns the status that is expected; or MEMORY in its place, unless an argument is at fault, or the list of patterns passes
-- a limit
abbrev pub IsOpenStatus : Options → List ℕ → List ℕ → ℤ → Type 0
IsOpenStatus options bytes ends status =
    (status ≡ open_status options bytes ends)
    ⊎ ((open_status options bytes ends ≢ ARGUMENTS) × (limit_refusal (texts_in bytes 0 ends) ≡ None) × (status ≡ MEMORY))

-- a searcher is returned where nothing refuses it, and else the status
abbrev pub AnswersOpened : Options → List ℕ → List ℕ → Result Searcher ℤ → Type 0
AnswersOpened options bytes ends result =
    MatchResult result
    (λ searcher. (open_status options bytes ends ≡ OK) × IsOpened options bytes ends searcher)
    (λ status. (status ≢ OK) × IsOpenStatus options bytes ends status)
