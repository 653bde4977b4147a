-- What the number of a trie's state says of the node that it stands for.
use Rattle.ac_util.proofs.Prelude.{◌≡◌, ◌≢◌, ◌⊎◌, ◌↔◌, ℕ, zero, suc, ◌≤◌, ◌<◌, List, [], length, drop, get_or, ap, ◌∙◌, arith, Option, Some, None, IfSome, slice_get, rules, cases_lt, slice_get_within, common_steps}
use Rattle.ac_automaton.specs.Prelude.{Node, depth, all_matches, AreAllStates, DEAD, FIRST_INNER, HasState, IsState, IsTrie, IsTrieState, listed_within, MatchRest, TrieView, meaning_of, Represents, START, State, Takes, TakesMatch, Trie}
use Rattle.ac_automaton.proofs.Follows.{represented}
use Rattle.ac_automaton.proofs.ListsOf.{length-listed, none-linked}

-- a list with elements is not empty
not_nil-length : (xs : List ℕ) → 0 < length xs → xs ≢ []
not_nil-length xs h e = omega (arith, ap (length {A = ℕ}) e)

module _ {g : TrieView} {states : List State} (all : AreAllStates g states) (s : ℕ) (u : Node) (named : slice_get g.nodes s ≡ Some u)
  where
    -- one of the states stands for the node
    pub number-state : HasState g states s u
    number-state = record {
      meant = all.meant;
      there = omega (arith, slice_get_within g.nodes s u named, all.whole);
      named = named;
    }

    -- an inner number is that of a longer string
    deep : FIRST_INNER ≤ s → 0 < depth u
    deep large = (all.meant.each s u number-state.there named).inner large

    -- and those before are the dead node and the start
    shallow : (n : ℕ) → n ≡ s → n < FIRST_INNER → ((n < START) × (u ≡ None)) ⊎ ((START ≤ n) × (u ≡ Some []))
    shallow zero e small = grind (arith, common_steps)
    shallow (suc zero) e small = grind (arith, common_steps)
    shallow (suc (suc zero)) e small = grind (arith, common_steps)
    shallow (suc (suc (suc zero))) e small = grind (arith, common_steps)
    shallow (suc (suc (suc (suc n)))) e small = absurd (omega arith)

    -- the numbers below 2 are those of the dead node
    pub dead-number : s < START ↔ (u ≡ None)
    dead-number = search (rules, cases_lt, deep, shallow)

    -- 2 and 3 are those of the start
    pub start-number : ((START ≤ s) × (s < FIRST_INNER)) ↔ (u ≡ Some [])
    start-number = search (rules, cases_lt, deep, shallow)

module _ (trie : Trie) (s : ℕ) (u : Node) (h : IsTrieState trie s u) where
  -- what the numbers mean
  abbrev pub meaning : TrieView
  meaning = meaning_of trie h.nodes

  -- one of the states stands for the node
  pub has-state : HasState meaning trie.states s u
  has-state = number-state h.is_trie.states s u h.named

  -- the list of the state has the matches of the node
  pub listed-matches : listed_within trie.order trie.states s s ≡ all_matches meaning u
  listed-matches = h.is_trie.lists s u h.named

  module _ (t : State) (is : t ≡ get_or trie.states s t) where
    -- what the state that was read says of the node
    read : Represents meaning s u t
    read = represented meaning trie.states s u t has-state is

    -- a state has matches where it has patterns of its own
    pub listed-patterns : t.patterns < t.patterns_end → listed_within trie.order trie.states s s ≢ []
    listed-patterns some =
        let l = length-listed meaning trie.states s u t has-state read in
        let m = ap (length {A = ℕ}) listed-matches in
        not_nil-length (listed_within trie.order trie.states s s) (omega arith)

    -- and where it has none, exactly if it has an output link
    pub listed-linked : t.patterns_end ≤ t.patterns → (t.output_link ≢ DEAD)
        ↔ (listed_within trie.order trie.states s s ≢ [])
    listed-linked none = search (rules, listed-matches, none-linked, not_nil-length, read)

-- how the state's list is gone through, said of the numbers that stand for nodes
module _ (trie : Trie) where
  -- the list of each state
  abbrev listed : ℕ → List ℕ
  listed s = listed_within trie.order trie.states s s

  pub takes-listed : (rest : MatchRest) (u : Node) (h : IsTrieState trie rest.state u) (r : Option (ℕ × MatchRest))
      → TakesMatch (meaning trie rest.state u h) trie.states u rest.index r → Takes listed rest r
  takes-listed rest u h None none = ap (drop rest.index) (listed-matches trie rest.state u h) ∙ none
  takes-listed rest u h (Some first) taken = grind (arith, common_steps)

  pub takes-state : (rest : MatchRest) (u : Node) (h : IsTrieState trie rest.state u) (r : Option (ℕ × MatchRest))
      → TakesMatch (meaning trie rest.state u h) trie.states u rest.index r
      → IfSome r (λ first. IsState (IsTrieState trie) first.1.state)
  takes-state rest u h None none = tt
  takes-state rest u h (Some first) taken = grind (arith, common_steps)

-- one of the states of a trie is the start, which stands for the empty string
pub start-state : (trie : Trie) (nodes : List Node) → IsTrie trie nodes
    → (g : TrieView) × (u : Node) × (g.transitions ≡ trie.transitions) × HasState g trie.states START u
start-state trie nodes is_trie = grind (arith, common_steps)
