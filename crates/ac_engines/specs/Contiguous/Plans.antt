-- Where the states of the contiguous engine are placed.
use Rattle.std.specs.Prelude.{◌≡◌, ◌⊎◌, ℕ, zero, suc, ◌+◌, ◌<◌, ◌≤◌, nat_lt, Bool, true, false, List, length, slice_get, slice_index_or, Option, Some, None, if◌then◌else◌}
use Rattle.ac_util.specs.declared.error.BuildError.TheVariants.{Memory}
use Rattle.ac_automaton.specs.Util.{alphabet_len, AreClasses, BuildError, GREATEST, longest_len, No, Node, SetsApart}
use Rattle.ac_automaton.specs.declared.nfa.noncontiguous.state.TheConstants.{ANCHORED_START, START}
use Rattle.ac_automaton.specs.Prelude.{AreNodes, ForNode, matches_of, Trie}
use Rattle.ac_engines.specs.Dfa.Filling.{first_row_in}
use Rattle.ac_engines.specs.Contiguous.{ContiguousView, Places}
use Rattle.ac_engines.specs.Contiguous.Words.{node_format, node_words, packed_words}
use Rattle.ac_engines.specs.declared.nfa.contiguous.format.Format.{Format}

-- the sum of a function over the numbers below one
unfoldable pub total : (ℕ → ℕ) → ℕ → ℕ
total f zero = 0
total f (suc n) = total f n + f n

-- what is packed: a trie, the class of each byte, and the length below which states are dense
pub record PackPlan : Type 0 where
  pub trie : Trie
  pub classes : List ℕ
  pub dense_depth : ℕ

-- how many words there are in all
abbrev pub all_words : PackPlan → ℕ
all_words q = packed_words q.trie.built q.dense_depth (alphabet_len q.classes)

module _ (q : PackPlan) (nodes : List Node) where
  -- the nodes are those of the trie's state numbers, and each byte of a pattern has a class of its own
  pub record MayPack : Type 0 where
    pub are_nodes : AreNodes q.trie nodes
    pub classes : AreClasses q.classes
    pub apart : SetsApart q.trie.built.ignores_case q.trie.built.patterns q.classes
    pub few : length q.trie.built.patterns ≤ GREATEST + 1
    pub short : longest_len q.trie.built.patterns < 18446744073709551616

  -- how many words a node takes
  abbrev pub size_of : Node → ℕ
  size_of u = node_words q.trie.built q.dense_depth (alphabet_len q.classes) u

  abbrev pub has_matches : Node → Bool
  has_matches u = nat_lt 0 (length (matches_of q.trie.built No u))

  -- how many it takes among those that have matches, or among the others
  abbrev pub sized : Bool → Option Node → ℕ
  sized front None = 0
  sized true (Some u) = if has_matches u then size_of u else 0
  sized false (Some u) = if has_matches u then 0 else size_of u

  -- the same of the state of a number, if it is a start or stands after the starts
  abbrev pub size_at : Bool → ℕ → ℕ
  size_at front s = if nat_lt s START then 0 else sized front (slice_get nodes s)

  -- how many words the states before one take, of those that have matches or of the others
  abbrev pub before : Bool → ℕ → ℕ
  before front s = total (size_at front) s

  -- up to which place those stand that have matches: first of all comes the dead state
  abbrev pub front_end : ℕ
  front_end = size_of None + before true (length nodes)

  -- where the state of a number stands: those that have matches come before the others, and else the order is that of
  -- the trie
  abbrev pub placed : ℕ → Option Node → ℕ
  placed s None = 0
  placed s (Some u) =
      if has_matches u then size_of None + before true s else front_end + before false s

  abbrev pub place_at : ℕ → ℕ
  place_at s = if nat_lt s START then 0 else placed s (slice_get nodes s)

  -- the numbers are the places of all states
  pub record HasPlaces (numbers : List ℕ) : Type 0 where
    pub count : length numbers ≡ length nodes
    pub each : (s : ℕ) → s < length nodes → slice_index_or numbers s 0 ≡ place_at s

  -- what is packed so, and where
  abbrev pub packed_of : List ℕ → List ℕ → ContiguousView
  packed_of numbers words = record {
    built = q.trie.built;
    wants_prefilter = q.trie.wants_prefilter;
    dense_depth = q.dense_depth;
    classes = q.classes;
    words = words;
    start = slice_index_or numbers START 0;
    anchored_start = slice_index_or numbers ANCHORED_START 0;
    match_end = front_end;
  }

  abbrev pub places_of : List ℕ → Places
  places_of numbers = record {
    place = first_row_in nodes numbers;
    anchored_start = slice_index_or numbers ANCHORED_START 0;
  }

-- the state is a start or stands after the starts
pub record HasWords (q : PackPlan) (s : ℕ) : Type 0 where
  pub nodes : List Node
  pub may : MayPack q nodes
  pub node : Node
  pub named : slice_get nodes s ≡ Some node
  pub reached : START ≤ s

-- the form that the state of a node takes
abbrev pub format_for : PackPlan → Node → Format
format_for q u = node_format q.trie.built q.dense_depth u

-- a state has so many matches
abbrev pub HasMatchLen : PackPlan → ℕ → ℕ → Type 0
HasMatchLen q s matches = ForNode (MayPack q) s (λ nodes u. matches ≡ length (matches_of q.trie.built No u))

-- and this form
abbrev pub HasFormat : PackPlan → ℕ → Format → Type 0
HasFormat q s format = ForNode (MayPack q) s (λ nodes u. format ≡ format_for q u)
