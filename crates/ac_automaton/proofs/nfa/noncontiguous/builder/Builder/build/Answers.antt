use Rattle.ac_util.proofs.Prelude.{◌≡◌, Bool, ℕ, List, map, refl, subst, arith, Option, None, Some, Ok, Err, Result, MatchOption, rules, common_steps}
use Rattle.ac_automaton.specs.Prelude.{IsCheckedFirst, BuildError, bytes_of, limit_refusal, MatchKind, plain, EngineSettings, IsAllowed, state_refusal, too_many_states}
use Rattle.ac_automaton.proofs.TrieStates.{start-state}
use Rattle.ac_automaton.proofs.nfa.noncontiguous.builder.Builder.build.Goals as goal

-- the lists are a trie whatever the setting is
pub invariant_of-result : goal.invariant_of-result
invariant_of-result g c =
    rw c.in_ok-common.ensures (record {
      is_trie = (c.in_ok-lists.ensures.nodes, c.in_ok-lists.ensures.is_trie c.self.inside.prefilter);
      rooted = rw (c.slices.ensures.transitions, c.slices.ensures.states) at c.in_ok-root.ensures;
      committed = rw c.in_ok-common.ensures at c.in_ok-commits.ensures;
    })

pub commits_of-requires : goal.commits_of-requires
commits_of-requires g c =
    rw c.in_ok-common.ensures
    (record { is_trie = (c.in_ok-lists.ensures.nodes, c.in_ok-lists.ensures.is_trie c.self.inside.prefilter) })

-- the start stands for the empty string
pub root_of-requires-clause-start : goal.root_of-requires-clause-start
root_of-requires-clause-start g c = grind (arith, common_steps, start-state _ (c.in_ok-lists.ensures).nodes ((c.in_ok-lists.ensures).is_trie c.self.inside.prefilter))

-- no limit refuses a build whose patterns were stored and whose states have numbers
allowed-from : (kind : MatchKind) (ignores_case : Bool) (patterns stored : List (List ℕ)) {X : Type 0} (made : X)
    → IsCheckedFirst patterns (Ok made) (stored ≡ patterns)
    → too_many_states kind (map (plain ignores_case) stored) ≡ None
    → IsAllowed (too_many_states kind (map (plain ignores_case) patterns)) patterns
allowed-from kind ignores_case patterns stored {X} made checked few = by (limit_refusal patterns) refl checked
  where
    stored_as : Result X BuildError
    stored_as = Ok made

    by : (r : Option BuildError) → limit_refusal patterns ≡ r
        → MatchOption r (stored ≡ patterns) (λ refusal. stored_as ≡ Err refusal)
        → IsAllowed (too_many_states kind (map (plain ignores_case) patterns)) patterns
    by None e same = record {
      within = e;
      fits = subst (λ (ps : List (List ℕ)). too_many_states kind (map (plain ignores_case) ps) ≡ None) same few;
    }
    by (Some refusal) e refused = absurd (cc)

pub returns : goal.returns
returns g c =
    let few = c.in_ok-lists.ensures.few in
    let patterns = c.in_ok-patterns.ensures in
    rw c.in_ok-common.ensures
    (record {
      value = grind (arith, common_steps, patterns);
      wants_prefilter = search rules;
      allowed = subst (λ (settings : EngineSettings). IsAllowed (state_refusal settings (bytes_of c.args.patterns.now))
          (bytes_of c.args.patterns.now)) c.self.view_is
          (allowed-from c.self.inside.kind c.self.inside.ignores_case (bytes_of c.args.patterns.now) c.in_ok-patterns.patterns
          c.in_ok-patterns.patterns patterns few);
    })
