-- What a leftmost walk gives of bytes that it has read past a match: the commits of states, and the chains of matches that they
-- begin with.
use Rattle.std.specs.Prelude.{◌≡◌, ◌≢◌, ℕ, ◌+◌, ◌<◌, ◌≤◌, ◌&&◌, nat_lt, Bool, true, List, [], ◌∷◌, ◌++◌, length, map, slice_get, slice_index_or, All, Contains, Option, MatchOption, Some, None}
use Rattle.ac_util.specs.Commits.{IsPickIn, Anything, NodeCommits}
use Rattle.ac_automaton.specs.Util.{Built, is_leftmost, No, Occurrence, pattern_of, shortest_len}
use Rattle.ac_automaton.specs.declared.automaton.commits.ChainMatch.{ChainMatch}
use Rattle.ac_automaton.specs.declared.automaton.commits.Commit.{Commit}
use Rattle.ac_automaton.specs.declared.automaton.commits.Link.{Link}
use Rattle.ac_automaton.specs.Automata.{AutomatonView, plain_of}
use Rattle.ac_automaton.specs.Finds.{place_of}

-- a chain by its number: the first one is empty
abbrev pub chain_at : List (List ChainMatch) → ℕ → List ChainMatch
chain_at chains number = slice_index_or chains number []

-- the match of a link
abbrev pub linked_match : Link → ChainMatch
linked_match link = record { pattern = link.pattern; end = link.end }

-- these chains, and then those of the links: the chain of a link is that before it, and its match
unfoldable pub chains_after : List (List ChainMatch) → List Link → List (List ChainMatch)
chains_after chains [] = chains
chains_after chains (link ∷ links) =
    chains_after (chains ++ (chain_at chains link.before ++ linked_match link ∷ []) ∷ []) links

abbrev pub chains_of : List Link → List (List ChainMatch)
chains_of links = chains_after ([] ∷ []) links

-- one list is the front of another
pub record IsFront (front all : List ChainMatch) : Type 0 where
  pub rest : List ChainMatch
  pub whole : all ≡ front ++ rest

-- a link in its place among all: its chain is that before it and its match, has as many matches as it counts, and begins with
-- the chain to which it jumps
pub record IsLink (chains : List (List ChainMatch)) (place : ℕ) (link : Link) : Type 0 where
  pub before : link.before ≤ place
  pub jump : link.jump ≤ place
  pub grows : chain_at chains (place + 1) ≡ chain_at chains link.before ++ linked_match link ∷ []
  pub count : link.count ≡ length (chain_at chains (place + 1))
  pub few : link.count ≤ place + 1
  pub skips : IsFront (chain_at chains link.jump) (chain_at chains (place + 1))

-- all of them are
pub record AreLinks (links : List Link) : Type 0 where
  pub many : length (chains_of links) ≡ length links + 1
  pub each : (place : ℕ) (link : Link) → slice_get links place ≡ Some link → IsLink (chains_of links) place link

-- the chains have become more, and the first ones are as they were
pub record HasChains (old new : List (List ChainMatch)) : Type 0 where
  pub added : List (List ChainMatch)
  pub whole : new ≡ old ++ added

-- a chain has grown by some matches, which is the chain of a number now
pub record GrowsBy (old : List (List ChainMatch)) (before : ℕ) (ms : List ChainMatch) (new : List (List ChainMatch))
    (number : ℕ) : Type 0 where
  pub kept : HasChains old new
  pub chained : number < length new
  pub grown : chain_at new number ≡ chain_at old before ++ ms

-- matches whose ends are counted from an offset on
abbrev pub shifted : ℕ → ChainMatch → ChainMatch
shifted offset m = record m { end = offset + m.end }

-- what contracts see of the commits of an automaton, and of all their chains
pub record CommitsView : Type 0 where
  pub commits : List Commit
  pub chains : List (List ChainMatch)

-- the commit of a state among some, or that it has none
abbrev pub FindsCommit : List Commit → ℕ → Option Commit → Type 0
FindsCommit commits s result =
    MatchOption result
    ((commit : Commit) → Contains commits commit → commit.state ≢ s)
    (λ commit. Contains commits commit × (commit.state ≡ s))

-- where a match of a chain stands
abbrev pub ending_in : Built → ChainMatch → Occurrence
ending_in built m = place_of built m.end m.pattern

-- it is one of a pattern, and lies in so many bytes
pub record IsChainMatch (patterns : List (List ℕ)) (rest : ℕ) (m : ChainMatch) : Type 0 where
  pub numbered : m.pattern < length patterns
  pub fits : length (pattern_of patterns m.pattern) ≤ m.end
  pub within : m.end ≤ rest

-- u is the string of a state with this commit: it says what is picked in u, and how many bytes come after that; a walk of these
-- gives the chain first, whatever comes after u, and then stands at the next state
pub record IsCommit (a : AutomatonView) (chains : List (List ChainMatch)) (u : List ℕ) (commit : Commit) : Type 0 where
  pub picked : Occurrence
  pub number : picked.pattern ≡ commit.pattern
  pub rest : picked.end + commit.rest ≡ length u
  pub chained : commit.chain < length chains
  pub matches : All (IsChainMatch a.built.patterns commit.rest) (chain_at chains commit.chain)
  pub node : List ℕ
  pub stands : a.stands No commit.next (Some node)
  pub gives : NodeCommits a.built.kind (plain_of a.built) u Anything picked
      (map (ending_in a.built) (chain_at chains commit.chain)) node

-- whether walks read on from match to match: under the leftmost kinds, unless some pattern is empty
abbrev pub reads_on : Built → Bool
reads_on built = is_leftmost built.kind && nat_lt 0 (shortest_len built.patterns)

-- the commits are those of the automaton: each state without matches whose string has a pick has one
pub record AreCommits (a : AutomatonView) (c : CommitsView) : Type 0 where
  pub each : (commit : Commit) → Contains c.commits commit → (u : List ℕ) → a.stands No commit.state (Some u)
      → IsCommit a c.chains u commit
  pub all : (s : ℕ) (u : List ℕ) → a.stands No s (Some u) → a.listed s ≡ []
      → ((commit : Commit) → Contains c.commits commit → commit.state ≢ s)
      → IsPickIn a.built.kind (plain_of a.built) No u None

-- that is so where walks read on
abbrev pub HasCommits : AutomatonView → CommitsView → Type 0
HasCommits a c = reads_on a.built ≡ true → AreCommits a c
