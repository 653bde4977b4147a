-- What a build of an automaton is asked for, what it answers, and why it may be refused.
use Rattle.std.specs.Prelude.{◌≡◌, ◌⊎◌, ℕ, ◌+◌, nat_lt, Bool, false, true, List, Option, map, Some, None, MatchOption, MatchResult, Result, if◌then◌else◌}
use Rattle.ac_automaton.specs.Util.{Both, BuildError, Built, GREATEST, limit_refusal, MatchKind, plain, Standard, state_count, StateIdOverflow}
use Rattle.ac_util.specs.declared.error.BuildError.TheVariants.{Memory}
use Rattle.ac_automaton.specs.Tries.{Trie}

-- the refusal of plain patterns that have more nodes than there are state numbers, or None
abbrev pub too_many_states : MatchKind → List (List ℕ) → Option BuildError
too_many_states kind patterns =
    if nat_lt (GREATEST + 1) (state_count kind patterns) then Some (StateIdOverflow GREATEST (GREATEST + 1))
    else None

-- the match kind, whether case is ignored, and whether to have a prefilter
pub record EngineSettings : Type 0 where
  pub kind : MatchKind
  pub ignores_case : Bool
  pub prefilter : Bool

abbrev pub usual_engine_settings : EngineSettings
usual_engine_settings = record { kind = Standard; ignores_case = false; prefilter = true }

-- a noncontiguous NFA over these patterns, which has both starts
abbrev pub engine_built_by : EngineSettings → List (List ℕ) → Built
engine_built_by settings patterns = record {
  patterns = patterns;
  ignores_case = settings.ignores_case;
  kind = settings.kind;
  start_kind = Both;
}

-- why it is refused within the limits of the list, if it is, but for lack of memory
abbrev pub state_refusal : EngineSettings → List (List ℕ) → Option BuildError
state_refusal settings patterns = too_many_states settings.kind (map (plain settings.ignores_case) patterns)

-- no limit refuses a build: neither the patterns' count, nor a length, nor a limit of its own
pub record IsAllowed (own_refusal : Option BuildError) (patterns : List (List ℕ)) : Type 0 where
  pub within : limit_refusal patterns ≡ None
  pub fits : own_refusal ≡ None

-- a build by these settings has succeeded
pub record IsEngineBuilt (settings : EngineSettings) (patterns : List (List ℕ)) (trie : Trie) : Type 0 where
  pub value : trie.built ≡ engine_built_by settings patterns
  pub wants_prefilter : trie.wants_prefilter ≡ settings.prefilter
  pub allowed : IsAllowed (state_refusal settings patterns) patterns

-- the first of two refusals
abbrev pub refusal_or : Option BuildError → Option BuildError → Option BuildError
refusal_or None later = later
refusal_or (Some e) later = Some e

-- why a build is refused within the limits of the list: for lack of memory, or by a limit of its own
abbrev pub IsRefused : Option BuildError → BuildError → Type 0
IsRefused own_refusal e = (e ≡ Memory) ⊎ (own_refusal ≡ Some e)

-- why a build over a list of patterns is refused: a limit of the list comes first, whether there is memory or not
abbrev pub RefusesBy : Option BuildError → List (List ℕ) → BuildError → Type 0
RefusesBy own_refusal patterns e =
    MatchOption (limit_refusal patterns) (IsRefused own_refusal e) (λ refusal. e ≡ refusal)

-- whether nothing refuses
abbrev pub fits : Option BuildError → Bool
fits None = true
fits (Some e) = false

-- a build over a list of patterns has succeeded, or is refused
abbrev pub AnswersBuild : {X : Type 0} → (List (List ℕ) → X → Type 0) → (List (List ℕ) → Option BuildError)
    → List (List ℕ) → Result X BuildError → Type 0
AnswersBuild IsBuilt own_refusal patterns result = MatchResult result (IsBuilt patterns) (RefusesBy (own_refusal patterns) patterns)

-- an engine was made from another, or is refused by a limit of its own, which comes first
abbrev pub AnswersMaking : {X : Type 0} → (X → Type 0) → Option BuildError → Result X BuildError → Type 0
AnswersMaking IsMade own_refusal result =
    MatchResult result (λ made. IsMade made × (own_refusal ≡ None))
    (λ e. MatchOption own_refusal (e ≡ Memory) (λ refusal. e ≡ refusal))

-- such a build of a noncontiguous NFA by these settings
abbrev pub BuildsNoncontiguous : EngineSettings → List (List ℕ) → Result Trie BuildError → Type 0
BuildsNoncontiguous settings patterns result =
    AnswersBuild (IsEngineBuilt settings) (state_refusal settings) patterns result
