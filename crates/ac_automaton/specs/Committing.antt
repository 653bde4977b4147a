-- How the commits of a noncontiguous NFA are made of its states.
use Rattle.std.specs.Prelude.{◌≡◌, ◌≢◌, ◌⊎◌, ℕ, ◌+◌, ◌-◌, ◌<◌, true, List, [], ◌∷◌, ◌++◌, length, map, slice_get, slice_index_or, All, Option, MatchOption, Some, None}
use Rattle.ac_util.specs.Commits.{IsPickIn, Anything, NodeCommits}
use Rattle.ac_automaton.specs.Util.{is_leftmost, No, Occurrence, occurrence, pattern_of, plain_byte}
use Rattle.ac_automaton.specs.declared.automaton.commits.ChainMatch.{ChainMatch}
use Rattle.ac_automaton.specs.declared.automaton.commits.Commit.{Commit}
use Rattle.ac_automaton.specs.declared.nfa.noncontiguous.commits.Making.{Making}
use Rattle.ac_automaton.specs.declared.nfa.noncontiguous.lists.TrieLists.{TrieLists}
use Rattle.ac_automaton.specs.declared.nfa.noncontiguous.state.State.{State}
use Rattle.ac_automaton.specs.declared.nfa.noncontiguous.state.Transition.{Transition}
use Rattle.ac_automaton.specs.Automata.{CommonView}
use Rattle.ac_automaton.specs.Commits.{chain_at, HasChains, IsChainMatch}
use Rattle.ac_automaton.specs.Tries.{all_matches, AreAllStates, IsNumbered, Trie, trie_of, TrieView}

-- the states may have commits: they are all those of an automaton under a leftmost kind, and no pattern is empty
pub record MayCommit (g : TrieView) (states : List State) : Type 0 where
  pub all : AreAllStates g states
  pub leftmost : is_leftmost g.kind ≡ true
  pub some : (n : ℕ) → n < length g.patterns → 0 < length (pattern_of g.patterns n)
  pub plain : (n k b : ℕ) → slice_get (pattern_of g.patterns n) k ≡ Some b → plain_byte g.ignores_case b ≡ b

-- where a match of a chain stands, by the plain patterns
abbrev pub ending_by : List (List ℕ) → ChainMatch → Occurrence
ending_by patterns m = occurrence m.pattern (m.end - length (pattern_of patterns m.pattern)) m.end

-- the commit of a node's string
pub record HasCommit (g : TrieView) (chains : List (List ChainMatch)) (u : List ℕ) (commit : Commit)
    : Type 0 where
  pub picked : Occurrence
  pub number : picked.pattern ≡ commit.pattern
  pub rest : picked.end + commit.rest ≡ length u
  pub chained : commit.chain < length chains
  pub matches : All (IsChainMatch g.patterns commit.rest) (chain_at chains commit.chain)
  pub node : List ℕ
  pub named : IsNumbered g.nodes commit.next node
  pub gives : NodeCommits g.kind g.patterns u Anything picked
      (map (ending_by g.patterns) (chain_at chains commit.chain)) node

-- what was made: for each state the index of its commit and one more, or 0; the commits; and their chains
pub record Made : Type 0 where
  pub index : List ℕ
  pub commits : List Commit
  pub chains : List (List ChainMatch)

abbrev pub made_of : {Z : Type 0} → Making Z → Made
made_of making = record { index = making.index.items; commits = making.commits.items; chains = making.chains }

-- nothing was made yet
pub record HasMadeNone (m : Made) : Type 0 where
  pub index : m.index ≡ []
  pub commits : m.commits ≡ []
  pub chains : m.chains ≡ [] ∷ []

-- the index of a state is that of its commit
pub record HasIndex (index : List ℕ) (commits : List Commit) (s : ℕ) : Type 0 where
  pub commit : Commit
  pub there : slice_get commits (slice_index_or index s 0 - 1) ≡ Some commit
  pub state : commit.state ≡ s

-- what was made are the commits of states, each at the index of its state
pub record AreMade (g : TrieView) (m : Made) : Type 0 where
  pub long : length m.index ≡ length g.nodes
  pub first : chain_at m.chains 0 ≡ []
  pub chained : 0 < length m.chains
  pub each : (k : ℕ) (commit : Commit) → slice_get m.commits k ≡ Some commit
      → (u : List ℕ) → IsNumbered g.nodes commit.state u → HasCommit g m.chains u commit
  pub placed : (t : ℕ) → slice_index_or m.index t 0 ≢ 0 → HasIndex m.index m.commits t

-- the commit of a state was made, or the state's string ends with a match
abbrev pub NeedsNone : TrieView → List ℕ → ℕ → List ℕ → Type 0
NeedsNone g index s u = (slice_index_or index s 0 ≢ 0) ⊎ (all_matches g (Some u) ≢ [])

-- the commit of a state was not made, and its string doesn't end with a match
pub record NeedsOne (g : TrieView) (index : List ℕ) (s : ℕ) (u : List ℕ) : Type 0 where
  pub empty : slice_index_or index s 0 ≡ 0
  pub matchless : all_matches g (Some u) ≡ []

-- the commits of all children of the states below a number were made
abbrev pub IsDone : TrieView → List ℕ → ℕ → Type 0
IsDone g index s = (p t : ℕ) (w : List ℕ) (b : ℕ) → p < s
    → IsNumbered g.nodes p w → IsNumbered g.nodes t (w ++ b ∷ []) → NeedsOne g index t (w ++ b ∷ [])
    → IsPickIn g.kind g.patterns No (w ++ b ∷ []) None

-- the lists of a trie, of whose states commits are made
pub record ListsView : Type 0 where
  pub order : List ℕ
  pub transitions : List Transition
  pub states : List State

abbrev pub lists_by : {Z : Type 0} → TrieLists Z → ListsView
lists_by lists = record {
  order = lists.order.items;
  transitions = lists.transitions.items;
  states = lists.states.items;
}

abbrev pub lists_of : {Z : Type 0} → Making Z → ListsView
lists_of making = record {
  order = making.order.now;
  transitions = making.transitions.now;
  states = making.states.now;
}

-- the trie of an engine with these lists
abbrev pub trie_by : CommonView → ListsView → Trie
trie_by common lists = trie_of common lists.order lists.transitions lists.states

-- what these lists mean
pub record IsViewOf (lists : ListsView) (g : TrieView) : Type 0 where
  pub leads : g.transitions ≡ lists.transitions
  pub ordered : g.order ≡ lists.order
  pub may : MayCommit g lists.states

-- a state with its string, by what the lists mean
pub record HasString {Z : Type 0} (making : Making Z) (s : ℕ) : Type 0 where
  pub view : TrieView
  pub lists : IsViewOf (lists_of making) view
  pub made : AreMade view (made_of making)
  pub string : List ℕ
  pub named : IsNumbered view.nodes s string

-- the commit is that of a state and its string, so the state needs none any more
pub record IsCommitAt (g : TrieView) (m : Made) (s : ℕ) (u : List ℕ) (commit : Commit) : Type 0 where
  pub has : HasCommit g m.chains u commit
  pub state : commit.state ≡ s
  pub none : NeedsNone g m.index s u

-- a state has this commit, or still needs one
abbrev pub HoldsCommit : {Z : Type 0} → Making Z → ℕ → Option Commit → Type 0
HoldsCommit making s result = (at : HasString making s)
    → MatchOption result (NeedsOne at.view (made_of making).index s at.string)
    (IsCommitAt at.view (made_of making) s at.string)

-- the commits of the children of a state are the next ones to be made
pub record MakesNext {Z : Type 0} (making : Making Z) (s : ℕ) : Type 0 where
  pub at : HasString making s
  pub done : IsDone at.view (made_of making).index s

-- the string to which a transition leads from one
abbrev pub longer : TrieView → List ℕ → Transition → List ℕ
longer g u next = u ++ plain_byte g.ignores_case next.byte ∷ []

-- a transition leads from the state of a commit to a child
pub record IsChild {Z : Type 0} (making : Making Z) (parent : Commit) (next : Transition) : Type 0 where
  pub at : HasString making parent.state
  pub done : IsDone at.view (made_of making).index parent.state
  pub commit : HasCommit at.view making.chains at.string parent
  pub longer_named : IsNumbered at.view.nodes next.target (longer at.view at.string next)

-- which has no match
pub record LeadsToChild {Z : Type 0} (making : Making Z) (parent : Commit) (next : Transition) : Type 0 where
  pub child : IsChild making parent next
  pub matchless : all_matches child.at.view (Some (longer child.at.view child.at.string next)) ≡ []

-- then the child has a commit
pub record HasLedOn {Z : Type 0} (old new : Making Z) (parent : Commit) (next : Transition)
    (child : IsChild old parent next) (commit : Commit) : Type 0 where
  pub chains : HasChains old.chains new.chains
  pub state : commit.state ≡ next.target
  pub has : HasCommit child.at.view new.chains (longer child.at.view child.at.string next) commit

-- the commit of a child was made, unless its string ends with a match
pub record HasAdded (g : TrieView) (old new : Made) (next : Transition) : Type 0 where
  pub made : AreMade g new
  pub chains : HasChains old.chains new.chains
  pub kept : (t : ℕ) → slice_index_or new.index t 0 ≡ 0 → slice_index_or old.index t 0 ≡ 0
  pub child : (u : List ℕ) → IsNumbered g.nodes next.target u → NeedsNone g new.index next.target u

-- the commits of the children of all states below a number were made
pub record IsMade (g : TrieView) (m : Made) (s : ℕ) : Type 0 where
  pub are : AreMade g m
  pub done : IsDone g m.index s
