-- A build of a contiguous NFA by settings: an automaton is built by them, and the words are packed from it.
use Rattle.ac_util.proofs.Prelude.{◌≡◌, Option, None, List, ℕ, MatchResult, Result, Ok, Err, arith, common_steps, MatchOption}
use Rattle.ac_engines.specs.Prelude.{BuildError, Built, IsEngineBuilt, RefusesBy, Trie, contiguous_refusal, contiguous_refusal_by, ContiguousSettings, ContiguousView, IsContiguousBuilt, IsContiguousFrom, Memory}

module _ (settings : ContiguousSettings) (patterns : List (List ℕ)) (trie : Trie)
    (b : IsEngineBuilt settings.engine patterns trie) where
  -- the refusal of words that are packed from the automaton of these settings
  abbrev refusal : Built → Option BuildError
  refusal from = contiguous_refusal settings.dense_depth settings.byte_classes from

  -- what is packed from the automaton of these settings is packed by them, or refused by them
  pub packed-built : (r : Result ContiguousView BuildError)
      → MatchResult r
      (λ packed. IsContiguousFrom settings.dense_depth settings.byte_classes trie.built trie.wants_prefilter packed
      × (contiguous_refusal settings.dense_depth settings.byte_classes trie.built ≡ None))
      (λ e. MatchOption (contiguous_refusal settings.dense_depth settings.byte_classes trie.built) (e ≡ Memory)
      (λ refusal. e ≡ refusal))
      → MatchResult r (IsContiguousBuilt settings patterns) (RefusesBy (contiguous_refusal_by settings patterns) patterns)
  packed-built (Ok packed) h = grind (arith, common_steps)
  packed-built (Err e) h = grind (arith, common_steps)
