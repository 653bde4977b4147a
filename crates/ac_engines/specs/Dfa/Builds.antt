-- What a build of a DFA is asked for, what it answers, and why it may be refused.
use Rattle.std.specs.Prelude.{◌≡◌, ℕ, ◌-◌, ◌*◌, nat_lt, Bool, true, List, length, MatchResult, Option, Result, Some, None, if◌then◌else◌}
use Rattle.ac_automaton.specs.Util.{BuildError, Built, GREATEST, StartKind, state_count, StateIdOverflow, stride, stride2, Unanchored}
use Rattle.ac_automaton.specs.Prelude.{engine_built_by, EngineSettings, IsAllowed, plain_of, refusal_or, state_refusal, usual_engine_settings, Trie}
use Rattle.ac_automaton.specs.Builds.{AnswersBuild, AnswersMaking}
use Rattle.ac_engines.specs.Listed.{classes_by}
use Rattle.ac_engines.specs.Dfa.{DfaView}
use Rattle.ac_engines.specs.Dfa.Layouts.{table_rows}

-- what every engine is built by, which starts there are, and whether bytes that need not be distinguished share a class
pub record DfaSettings : Type 0 where
  pub engine : EngineSettings
  pub start_kind : StartKind
  pub byte_classes : Bool

abbrev pub usual_dfa_settings : DfaSettings
usual_dfa_settings = record { engine = usual_engine_settings; start_kind = Unanchored; byte_classes = true }

-- the number of the last row where there are so many states, which is the greatest of a state
abbrev pub last_row : StartKind → List ℕ → ℕ → ℕ
last_row start_kind classes states = (table_rows start_kind states - 1) * stride classes

-- the refusal of a DFA whose last row would begin at a number that no state may have, or None
abbrev pub rows_refusal : StartKind → List ℕ → ℕ → Option BuildError
rows_refusal start_kind classes states =
    if nat_lt GREATEST (last_row start_kind classes states)
    then Some (StateIdOverflow GREATEST (last_row start_kind classes states))
    else None

-- the same of a DFA that is built from an automaton
abbrev pub dfa_refusal : StartKind → Bool → Built → Option BuildError
dfa_refusal start_kind byte_classes from =
    rows_refusal start_kind (classes_by byte_classes from.ignores_case from.patterns) (state_count from.kind (plain_of from))

-- why a build by these settings is refused within the limits of the list, if it is, but for lack of memory: the
-- numbers of the automaton's states are tested before those of the DFA's
abbrev pub dfa_refusal_by : DfaSettings → List (List ℕ) → Option BuildError
dfa_refusal_by settings patterns =
    refusal_or (state_refusal settings.engine patterns)
    (dfa_refusal settings.start_kind settings.byte_classes (engine_built_by settings.engine patterns))

-- a DFA with these starts and classes has been built from an automaton, which was built to have a prefilter or not:
-- it answers as that one does where it has the start, it is to have a prefilter as that one, and has no row too many
pub record IsDfaFrom (start_kind : StartKind) (byte_classes : Bool) (from : Built) (wants_prefilter : Bool) (d : DfaView)
    : Type 0 where
  pub built : d.built ≡ record from { start_kind = start_kind }
  pub wants_prefilter_is : d.wants_prefilter ≡ wants_prefilter
  pub classes : d.classes ≡ classes_by byte_classes from.ignores_case from.patterns
  pub stride2 : d.stride2 ≡ stride2 d.classes
  pub rows : length d.entries ≡ table_rows start_kind (state_count from.kind (plain_of from)) * stride d.classes

-- a build by these settings has succeeded
pub record IsDfaBuilt (settings : DfaSettings) (patterns : List (List ℕ)) (d : DfaView) : Type 0 where
  pub value : IsDfaFrom settings.start_kind settings.byte_classes (engine_built_by settings.engine patterns)
      settings.engine.prefilter d
  pub allowed : IsAllowed (dfa_refusal_by settings patterns) patterns

-- a DFA was made by these settings from an automaton, or is refused
abbrev pub AnswersDfaFrom : DfaSettings → Trie → Result DfaView BuildError → Type 0
AnswersDfaFrom settings nfa result =
    AnswersMaking (IsDfaFrom settings.start_kind settings.byte_classes nfa.built nfa.wants_prefilter)
    (dfa_refusal settings.start_kind settings.byte_classes nfa.built) result

-- a build by these settings has succeeded, or is refused
abbrev pub BuildsDfa : DfaSettings → List (List ℕ) → Result DfaView BuildError → Type 0
BuildsDfa settings patterns result = AnswersBuild (IsDfaBuilt settings) (dfa_refusal_by settings) patterns result

-- how many entries the table of a DFA has that is built from this trie, or the refusal of its rows
abbrev pub AnswersLen : StartKind → List ℕ → Trie → Result ℕ BuildError → Type 0
AnswersLen start_kind classes trie result =
    let states = state_count trie.built.kind (plain_of trie.built) in
    MatchResult result
    (λ len. (len ≡ table_rows start_kind states * stride classes) × (rows_refusal start_kind classes states ≡ None))
    (λ e. rows_refusal start_kind classes states ≡ Some e)
