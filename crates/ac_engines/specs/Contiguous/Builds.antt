-- What a build of a contiguous NFA is asked for, what it answers, and why it may be refused.
use Rattle.std.specs.Prelude.{◌≡◌, ℕ, nat_lt, Bool, true, List, length, Option, Result, Some, None, if◌then◌else◌}
use Rattle.ac_automaton.specs.Util.{alphabet_len, BuildError, Built, GREATEST, StateIdOverflow}
use Rattle.ac_automaton.specs.Builds.{AnswersBuild, AnswersMaking, EngineSettings, IsAllowed, engine_built_by, refusal_or, state_refusal, usual_engine_settings}
use Rattle.ac_automaton.specs.Prelude.{Trie}
use Rattle.ac_engines.specs.Listed.{classes_by}
use Rattle.ac_engines.specs.Contiguous.{ContiguousView}
use Rattle.ac_engines.specs.Contiguous.Words.{packed_words}

-- what every engine is built by, the length below which the states of strings are dense, and whether bytes that need
-- not be distinguished share a class
pub record ContiguousSettings : Type 0 where
  pub engine : EngineSettings
  pub dense_depth : ℕ
  pub byte_classes : Bool

abbrev pub usual_contiguous_settings : ContiguousSettings
usual_contiguous_settings = record { engine = usual_engine_settings; dense_depth = 2; byte_classes = true }

-- how many words are packed from an automaton
abbrev pub words_from : ℕ → Bool → Built → ℕ
words_from dense_depth byte_classes from =
    packed_words from dense_depth (alphabet_len (classes_by byte_classes from.ignores_case from.patterns))

-- the refusal where there are more than a state may have as its number, or None
abbrev pub contiguous_refusal : ℕ → Bool → Built → Option BuildError
contiguous_refusal dense_depth byte_classes from =
    if nat_lt GREATEST (words_from dense_depth byte_classes from)
    then Some (StateIdOverflow GREATEST (words_from dense_depth byte_classes from))
    else None

-- why a build by these settings is refused within the limits of the list, if it is, but for lack of memory: the
-- numbers of the automaton's states are tested before those of the packed ones
abbrev pub contiguous_refusal_by : ContiguousSettings → List (List ℕ) → Option BuildError
contiguous_refusal_by settings patterns =
    refusal_or (state_refusal settings.engine patterns)
    (contiguous_refusal settings.dense_depth settings.byte_classes (engine_built_by settings.engine patterns))

-- words with these classes and this dense depth were packed from an automaton, which was built to have a prefilter or
-- not: they are to have one as that automaton, and there is no word too many
pub record IsContiguousFrom (dense_depth : ℕ) (byte_classes : Bool) (from : Built) (wants_prefilter : Bool)
    (c : ContiguousView) : Type 0 where
  pub built : c.built ≡ from
  pub wants_prefilter_is : c.wants_prefilter ≡ wants_prefilter
  pub dense_depth_is : c.dense_depth ≡ dense_depth
  pub classes : c.classes ≡ classes_by byte_classes from.ignores_case from.patterns
  pub size : length c.words ≡ words_from dense_depth byte_classes from

-- a build by these settings has succeeded
pub record IsContiguousBuilt (settings : ContiguousSettings) (patterns : List (List ℕ)) (c : ContiguousView)
    : Type 0 where
  pub value : IsContiguousFrom settings.dense_depth settings.byte_classes (engine_built_by settings.engine patterns)
      settings.engine.prefilter c
  pub allowed : IsAllowed (contiguous_refusal_by settings patterns) patterns

-- a contiguous NFA was made by these settings from an automaton, or is refused
abbrev pub AnswersContiguousFrom : ContiguousSettings → Trie → Result ContiguousView BuildError → Type 0
AnswersContiguousFrom settings nfa result =
    AnswersMaking (IsContiguousFrom settings.dense_depth settings.byte_classes nfa.built nfa.wants_prefilter)
    (contiguous_refusal settings.dense_depth settings.byte_classes nfa.built) result

-- a build by these settings has succeeded, or is refused
abbrev pub BuildsContiguous : ContiguousSettings → List (List ℕ) → Result ContiguousView BuildError → Type 0
BuildsContiguous settings patterns result =
    AnswersBuild (IsContiguousBuilt settings) (contiguous_refusal_by settings) patterns result
