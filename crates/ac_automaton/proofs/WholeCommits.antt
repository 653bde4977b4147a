-- The commits of all states are those of the automaton.
use Rattle.ac_util.proofs.Prelude.{◌≡◌, ◌≢◌, true, ℕ, ◌-◌, ◌<◌, List, [], ◌∷◌, length, map, inl, inr, refl, ap, sym, ◌∙◌, subst, arith, Contains, Some, get_or, nat_lt, IsPermutation, and_parts, cases_lt, ltb-true, length-map, get_or_from_slice_get, slice_get_read, slice_get_within}
use Rattle.ac_automaton.specs.Prelude.{Anything, NodeCommits, Built, is_leftmost, Node, pattern_of, plain, plain_byte, shortest_len, ChainMatch, Commit, AreCommits, chain_at, ending_in, IsCommit, reads_on, AreMade, ending_by, HasCommit, IsMade, Made, MayCommit, IsTrie, meaning_of, plain_of, Trie, TrieView, automaton_of}
use Rattle.std.proofs.Math.ListN.{get_or-map}
use Rattle.std.proofs.lemmas.List.Sorted.{Contains-permutation, IsPermutation-sym}
use Rattle.ac_util.proofs.Picks.{same_occurrence}
use Rattle.ac_util.proofs.Shortest.{shortest-least}
use Rattle.ac_automaton.proofs.Committing.{holds-none}
use Rattle.ac_automaton.proofs.WholeTries.{plain-pattern}

-- a pattern and its plain string have one length
plain-long : (built : Built) (n : ℕ) → length (pattern_of (plain_of built) n) ≡ length (pattern_of built.patterns n)
plain-long built n =
    ap length (get_or-map (plain built.ignores_case) built.patterns n [])
    ∙ length-map (pattern_of built.patterns n) (plain_byte built.ignores_case)

-- so it makes no difference by which a match of a chain is placed
placed-same : (built : Built) (chain : List ChainMatch) → map (ending_by (plain_of built)) chain ≡ map (ending_in built) chain
placed-same built [] = refl
placed-same built (m ∷ chain) =
    ap (λ (o : _). o ∷ map (ending_by (plain_of built)) chain)
    (same_occurrence (ending_by (plain_of built) m) (ending_in built m) refl
    (ap (λ (n : ℕ). m.end - n) (plain-long built m.pattern)) refl)
    ∙ ap (λ (os : List _). ending_in built m ∷ os) (placed-same built chain)

module _ (trie : Trie) (reads : reads_on trie.built ≡ true) where
  -- the states may have commits, where walks read on
  pub trie-may : (nodes : List Node) → IsTrie trie nodes → MayCommit (meaning_of trie nodes) trie.states
  trie-may nodes is = record {
    all = is.states;
    leftmost = (and_parts (is_leftmost trie.built.kind) (nat_lt 0 (shortest_len trie.built.patterns)) reads).0;
    some = λ n within.
        let least = shortest-least trie.built.patterns n
        (subst (λ (k : ℕ). n < k) (length-map trie.built.patterns (plain trie.built.ignores_case)) within) in
        let long = plain-long trie.built n in
        let some = ltb-true 0 (shortest_len trie.built.patterns)
        (and_parts (is_leftmost trie.built.kind) (nat_lt 0 (shortest_len trie.built.patterns)) reads).1 in
        omega (arith, long);
    plain = λ n k b at. plain-pattern trie.built.ignores_case trie.built.patterns n k b at;
  }

  module _ (m : Made) (all : (nodes : List Node) → IsTrie trie nodes → IsMade (meaning_of trie nodes) m (length nodes))
      (commits : List Commit) (same : IsPermutation m.commits commits) where
    -- the commit of a node is that of the state
    commit-of : (nodes : List Node) → IsTrie trie nodes → (u : List ℕ) (commit : Commit)
        → HasCommit (meaning_of trie nodes) m.chains u commit → IsCommit (automaton_of trie) m.chains u commit
    commit-of nodes is u commit has = record {
      picked = has.picked;
      number = has.number;
      rest = has.rest;
      chained = has.chained;
      matches = λ k d within.
          let is-match = has.matches k d within in
          let chain-match = get_or (chain_at m.chains commit.chain) k d in
          let long = plain-long trie.built chain-match.pattern in
          record {
            numbered = subst (λ (n : ℕ). chain-match.pattern < n) (length-map trie.built.patterns (plain trie.built.ignores_case)) is-match.numbered;
            fits = (let f = is-match.fits in omega arith);
            within = is-match.within;
          };
      node = has.node;
      stands = record { nodes = nodes; is_trie = is; named = has.named };
      gives = subst (λ (os : List _). NodeCommits trie.built.kind (plain_of trie.built) u Anything has.picked os has.node)
          (placed-same trie.built (chain_at m.chains commit.chain)) has.gives;
    }

    pub are-commits : AreCommits (automaton_of trie) (record { commits = commits; chains = m.chains })
    are-commits = record {
      each = λ commit has u stands.
          let before = Contains-permutation commits m.commits commit (IsPermutation-sym m.commits commits same) has in
          let made = all stands.nodes stands.is_trie in
          commit-of stands.nodes stands.is_trie u commit
          (made.are.each before.0 commit
          (slice_get_read m.commits (length m.commits) before.0 commit refl before.1 (sym before.2)) u stands.named);
      all = λ s u stands none others.
          let made = all stands.nodes stands.is_trie in
          let within = slice_get_within stands.nodes s (Some u) stands.named in
          holds-none (trie-may stands.nodes stands.is_trie) s u (λ p t w b less. made.done p t w b (omega arith)) stands.named
          (record { empty = empty s made.are others; matchless = sym (stands.is_trie.lists s (Some u) stands.named) ∙ none });
    }
      where
        empty : (s : ℕ) {g : TrieView} → AreMade g m
            → ((commit : Commit) → Contains commits commit → commit.state ≢ s) → get_or m.index s 0 ≡ 0
        empty s made others = elim (cases_lt 0 (get_or m.index s 0)) [
          | inl some ↦
              let at = made.placed s (λ none. omega arith) in
              let place = get_or m.index s 0 - 1 in
              absurd (others at.commit (Contains-permutation m.commits commits at.commit same (
                place,
                slice_get_within m.commits place at.commit at.there,
                get_or_from_slice_get m.commits place at.commit at.commit at.there,
              )) at.state)
          | inr none ↦ omega arith
        ]
