-- How the words of a contiguous NFA stand for nodes.
pub mod Builds
pub mod Packs
pub mod Plans
pub mod Reads
pub mod Words
use Rattle.std.specs.Prelude.{◌≡◌, ◌≢◌, ℕ, ◌<◌, ◌≤◌, ◌↔◌, ◌+◌, ◌-◌, ◌/◌, ◌%◌, ◌==◌, ◌&&◌, nat_lt, if◌then◌else◌, Bool, List, [], ◌∷◌, ◌++◌, drop, length, map, slice_index_or, take, Some, None}
use Rattle.ac_automaton.specs.Util.{alphabet_len, AreClasses, Both, Built, class_at, Counts, GREATEST, IsNode, longest_len, more_looks, No, Node, plain_byte, SetsApart, Yes}
use Rattle.ac_util.specs.declared.search.Anchored.{Anchored}
use Rattle.ac_automaton.specs.Automata.{AutomatonView, looks_of, step_of}
use Rattle.ac_automaton.specs.Prelude.{built_as, CommonView, matches_of, fallback, transition_bytes_of, plain_of}
use Rattle.ac_engines.specs.declared.nfa.contiguous.state.Edge.{Edge}
use Rattle.ac_engines.specs.Contiguous.Words.{dense_form, no_target, one_match, node_format, BeginsWith, PackedState}

-- what the words were built from, and whether to have a prefilter; below which length states are dense, the class of
-- each byte, the words, the numbers of the starts, and from which number on no state has matches
pub record ContiguousView : Type 0 where
  pub built : Built
  pub wants_prefilter : Bool
  pub dense_depth : ℕ
  pub classes : List ℕ
  pub words : List ℕ
  pub start : ℕ
  pub anchored_start : ℕ
  pub match_end : ℕ

-- the contiguous NFA of an engine that has this, with the numbers of the starts and the one after the match states
abbrev pub contiguous_of : CommonView → ℕ → List ℕ → List ℕ → ℕ → ℕ → ℕ → ContiguousView
contiguous_of common dense_depth classes words start anchored_start match_end = record {
  built = built_as common Both;
  wants_prefilter = common.wants_prefilter;
  dense_depth = dense_depth;
  classes = classes;
  words = words;
  start = start;
  anchored_start = anchored_start;
  match_end = match_end;
}

-- where states begin: that of each string, and the anchored start
pub record Places : Type 0 where
  pub place : List ℕ → ℕ
  pub anchored_start : ℕ

-- the number of a node's state: the address of its first word. The dead node's is 0
abbrev pub number_at : Places → Anchored → Node → ℕ
number_at at anchored None = 0
number_at at Yes (Some []) = at.anchored_start
number_at at No (Some []) = at.place []
number_at at anchored (Some (x ∷ w)) = at.place (x ∷ w)

-- matches as they are spelled: a single one stands in a word with the top bit set, several stand after their count
abbrev pub matches_in : List ℕ → List ℕ
matches_in [] = []
matches_in (first ∷ words) = if nat_lt first one_match then take first words else (first - one_match) ∷ []

-- how many words of a state stand before its matches, by its form and where there are so many classes
abbrev pub words_before_matches : ℕ → ℕ → ℕ
words_before_matches form classes = if form == dense_form then 2 + classes else 2 + (form + 3) / 4 + form

-- what the state at an address lists
abbrev pub match_list_at : ContiguousView → ℕ → List ℕ
match_list_at p s =
    if nat_lt 0 s && nat_lt s p.match_end
    then matches_in (drop (s + words_before_matches (slice_index_or p.words s 0 % 256) (alphabet_len p.classes)) p.words)
    else []

-- what the dead state spells: every class leads to itself
abbrev pub packed_dead : PackedState
packed_dead = record { failure = 0; default_target = 0; edges = []; matches = [] }

module _ (p : ContiguousView) (at : Places) where
  -- the transitions of a string: each byte that leads on, with the string that is longer by it
  abbrev pub edges_of : List ℕ → List Edge
  edges_of w =
      map (λ b. record {
        class = class_at p.classes b;
        target = at.place (w ++ plain_byte p.built.ignores_case b ∷ []);
      }) (transition_bytes_of p.built (Some w))

  -- what the words of a string spell
  abbrev pub packed_node : List ℕ → PackedState
  packed_node w = record {
    failure = number_at at No (fallback p.built.kind (plain_of p.built) (Some w));
    default_target = no_target;
    edges = edges_of w;
    matches = matches_of p.built No (Some w);
  }

  -- what the state of a node spells: the starts have no failure target, and an unanchored search goes on at its start,
  -- unless an empty pattern has begun its match
  abbrev pub packed_at : Anchored → Node → PackedState
  packed_at anchored None = packed_dead
  packed_at No (Some []) = record (packed_node []) {
    failure = 0;
    default_target = number_at at No (fallback p.built.kind (plain_of p.built) (Some []));
  }
  packed_at Yes (Some []) = record (packed_node []) { failure = 0 }
  packed_at anchored (Some (x ∷ w)) = packed_node (x ∷ w)

  -- the words stand for the nodes: each has a state, after the number that is no target but for the dead one, whose
  -- number is 0, and no string but the empty one has the number of a start. The states of strings that have matches come
  -- before the others, and list these. Patterns are few and short enough for their numbers and lengths
  pub record IsContiguous : Type 0 where
    pub classes : AreClasses p.classes
    pub apart : SetsApart p.built.ignores_case p.built.patterns p.classes
    pub small : length p.words ≤ GREATEST
    pub few : length p.built.patterns ≤ GREATEST + 1
    pub short : longest_len p.built.patterns < 18446744073709551616
    pub start : at.place [] ≡ p.start
    pub anchored_start : at.anchored_start ≡ p.anchored_start
    pub states : (anchored : Anchored) (u : Node) → IsNode p.built.kind (plain_of p.built) u
        → BeginsWith (drop (number_at at anchored u) p.words) (node_format p.built p.dense_depth u)
        (alphabet_len p.classes) (packed_at anchored u)
    pub within : (anchored : Anchored) (w : List ℕ) → IsNode p.built.kind (plain_of p.built) (Some w)
        → number_at at anchored (Some w) < length p.words
    pub after : (anchored : Anchored) (w : List ℕ) → IsNode p.built.kind (plain_of p.built) (Some w)
        → no_target < number_at at anchored (Some w)
    pub longer : (anchored : Anchored) (w : List ℕ) → IsNode p.built.kind (plain_of p.built) (Some w) → w ≢ []
        → at.place w ≢ number_at at anchored (Some [])
    pub ended : no_target < p.match_end
    pub matched : (anchored : Anchored) (w : List ℕ) → IsNode p.built.kind (plain_of p.built) (Some w)
        → number_at at anchored (Some w) < p.match_end ↔ matches_of p.built No (Some w) ≢ []
    pub lists : (anchored : Anchored) (w : List ℕ) → IsNode p.built.kind (plain_of p.built) (Some w)
        → match_list_at p (number_at at anchored (Some w)) ≡ matches_of p.built No (Some w)

-- the number stands for the node, in a search with this anchoring
pub record IsContiguousState (p : ContiguousView) (anchored : Anchored) (s : ℕ) (u : Node) : Type 0 where
  pub at : Places
  pub is_contiguous : IsContiguous p at
  pub node : IsNode p.built.kind (plain_of p.built) u
  pub number : s ≡ number_at at anchored u

-- what contracts see of the words as an automaton
abbrev pub contiguous_automaton : ContiguousView → AutomatonView
contiguous_automaton p = record {
  built = p.built;
  most = 2;
  wants_prefilter = p.wants_prefilter;
  stands = λ anchored s u. IsContiguousState p anchored s u;
  listed = λ s. match_list_at p s;
}

-- this holds of each byte of the class and of the node of the state
abbrev pub ForStep : List ℕ → ℕ → Anchored → ℕ → (ContiguousView → ℕ → Node → Type 0) → Type 0
ForStep words class anchored s P =
    (p : ContiguousView) (b : ℕ) (u : Node) → p.words ≡ words → b < 256 → class ≡ class_at p.classes b
    → IsContiguousState p anchored s u → P p b u

-- this step takes these further looks
abbrev pub LooksBy : List ℕ → ℕ → Anchored → ℕ → Counts → Counts → Type 0
LooksBy words class anchored s old new =
    ForStep words class anchored s (λ p b u. new ≡ more_looks (looks_of 2 p.built anchored u b) old)
