-- How the states of a noncontiguous NFA stand for nodes, and what its readers give.
use Rattle.std.specs.Prelude.{◌≡◌, ◌≢◌, ◌↔◌, ℕ, zero, suc, ◌+◌, ◌-◌, ◌<◌, ◌≤◌, ◌&&◌, Bool, List, [], ◌∷◌, ◌++◌, length, map, drop, slice_get, slice_index, slice_range, slice_index_or, Contains, Option, None, Some, MatchOption, if◌then◌else◌, false, filter}
use Rattle.std.specs.List.Sorted.{IsStrictlyIncreasing}
use Rattle.std.proofs.Common.{sym, ◌∙◌, arith}
use Rattle.std.proofs.lemmas.List.{append-nil}
use Rattle.std.proofs.lemmas.Option.{slice_get_within}
use Rattle.ac_automaton.specs.Util.{begins_with_pattern, Both, Built, Counts, depth, failure, GREATEST, inner_nodes, is_leftmost, looks, matches, MatchKind, more_looks, No, Node, plain_byte, state_count, step, Yes, is_node}
use Rattle.ac_util.specs.declared.search.Anchored.{Anchored}
use Rattle.ac_automaton.specs.declared.automaton.listing.MatchRest.{MatchRest}
use Rattle.ac_automaton.specs.declared.nfa.noncontiguous.state.State.{State}
use Rattle.ac_automaton.specs.declared.nfa.noncontiguous.state.TheConstants.{DEAD, FAIL, START, ANCHORED_START, FIRST_INNER}
use Rattle.ac_automaton.specs.declared.nfa.noncontiguous.state.Transition.{Transition}
use Rattle.ac_automaton.specs.declared.nfa.noncontiguous.state.TrieSlices.{TrieSlices}
use Rattle.ac_automaton.specs.Automata.{AutomatonView, plain_of, Lists, CommonView, built_as}
use Rattle.std.specs.List.{range_with_len}

-- what an automaton was built from, and whether to have a prefilter; the numbers of the patterns that take part in
-- the sorted order, the transitions of all states, and the states
pub record Trie : Type 0 where
  pub built : Built
  pub wants_prefilter : Bool
  pub order : List ℕ
  pub transitions : List Transition
  pub states : List State

-- the trie of an engine that has this, with both starts
abbrev pub trie_of : CommonView → List ℕ → List Transition → List State → Trie
trie_of common order transitions states = record {
  built = built_as common Both;
  wants_prefilter = common.wants_prefilter;
  order = order;
  transitions = transitions;
  states = states;
}

-- a state from which nothing leads on
abbrev pub dead_state : State
dead_state = record {
  transitions = 0;
  transitions_end = 0;
  fail = DEAD;
  patterns = 0;
  patterns_end = 0;
  output_link = DEAD;
  depth = 0;
}

-- a state by its number
abbrev pub state_at : List State → ℕ → State
state_at states s = slice_index_or states s dead_state

-- the transitions of a state
abbrev pub transitions_of : List Transition → State → List Transition
transitions_of transitions t = slice_range transitions t.transitions t.transitions_end

-- the bytes of transitions
abbrev pub transition_bytes : List Transition → List ℕ
transition_bytes transitions = map (λ t. t.byte) transitions

-- the target of the transition by a byte, or that there is no transition by it
abbrev pub IsTarget : List Transition → ℕ → Option ℕ → Type 0
IsTarget transitions byte result =
    MatchOption result
    (Contains (transition_bytes transitions) byte → ⊥)
    (λ target. (k : ℕ) × (slice_get transitions k ≡ Some (record { byte = byte; target = target })))

-- the patterns of a state: those that equal its string
abbrev pub state_patterns : List ℕ → State → List ℕ
state_patterns order t = slice_range order t.patterns t.patterns_end

-- the patterns of a state and of those that its output links lead to, of at most n states
abbrev pub listed_within : List ℕ → List State → ℕ → ℕ → List ℕ
listed_within order states zero s = []
listed_within order states (suc n) s =
    state_patterns order (state_at states s) ++ listed_within order states n (state_at states s).output_link

-- where an unanchored search goes on from a node by a byte without a transition: from the start it stays there,
-- unless under a leftmost kind an empty pattern has begun the match
abbrev pub fallback : MatchKind → List (List ℕ) → Node → Node
fallback kind patterns None = None
fallback kind patterns (Some []) = if is_leftmost kind && begins_with_pattern patterns [] then None else Some []
fallback kind patterns (Some (x ∷ u)) = failure kind patterns (x ∷ u)

-- what the states of a trie mean: the kind, whether case is ignored, the plain patterns, the sorted order of
-- their numbers, the transitions of all states, and the node of each state's number
pub record TrieView : Type 0 where
  pub kind : MatchKind
  pub ignores_case : Bool
  pub patterns : List (List ℕ)
  pub order : List ℕ
  pub transitions : List Transition
  pub nodes : List Node

module _ (g : TrieView) where
  -- where a node's own transition by a byte leads: to the longer node, or to the dead node where there is none
  abbrev pub transition_target : Node → ℕ → Node
  transition_target v b = step g.kind g.patterns Yes v (plain_byte g.ignores_case b)

  -- the patterns that end at a node
  abbrev pub all_matches : Node → List ℕ
  all_matches v = matches g.kind g.patterns No v

  -- the output link leads to a node with the other patterns that end at this one
  pub record Links (s : ℕ) (v : Node) (link : ℕ) : Type 0 where
    pub linked : Node
    pub leads : slice_get g.nodes link ≡ Some linked
    pub back : link ≤ s - 1
    pub finds : all_matches v ≡ matches g.kind g.patterns Yes v ++ all_matches linked
    pub useful : link ≢ DEAD → all_matches linked ≢ []

  -- the state with this number stands for the node: its transitions are the node's own, in ascending order of
  -- their bytes, its failure target is where an unanchored search goes on by any other byte, given by the start of
  -- unanchored searches where that is the empty string, and its patterns are the node's. The first four states
  -- stand for the dead node and the start
  pub record Represents (s : ℕ) (v : Node) (t : State) : Type 0 where
    pub ordered : t.transitions ≤ t.transitions_end
    pub listed : t.transitions_end ≤ length g.transitions
    pub ascending : IsStrictlyIncreasing (transition_bytes (transitions_of g.transitions t))
    pub branches : (b : ℕ)
        → Contains (transition_bytes (transitions_of g.transitions t)) b ↔ (transition_target v b ≢ None)
    pub leads : (k : ℕ) (next : Transition) → slice_get (transitions_of g.transitions t) k ≡ Some next
        → slice_get g.nodes next.target ≡ Some (transition_target v next.byte)
    pub small : (k : ℕ) (next : Transition) → slice_get (transitions_of g.transitions t) k ≡ Some next
        → next.byte < 256
    pub fails : slice_get g.nodes t.fail ≡ Some (fallback g.kind g.patterns v)
    pub unanchored : t.fail ≢ ANCHORED_START
    pub back : FIRST_INNER ≤ s → t.fail < s
    pub patterns_ordered : t.patterns ≤ t.patterns_end
    pub within : t.patterns_end ≤ length g.order
    pub patterns : state_patterns g.order t ≡ matches g.kind g.patterns Yes v
    pub links : Links s v t.output_link
    pub long : t.depth ≡ depth v
    pub outer : s < FIRST_INNER → depth v ≡ 0
    pub inner : FIRST_INNER ≤ s → 0 < depth v

  -- each state stands for the node of its number, the dead state for the dead node
  pub record AreStates (states : List State) : Type 0 where
    pub dead : slice_get g.nodes DEAD ≡ Some None
    pub named : length states ≤ length g.nodes
    pub each : (s : ℕ) (v : Node) → s < length states → slice_get g.nodes s ≡ Some v
        → Represents s v (state_at states s)

  -- one of the states stands for the node
  pub record HasState (states : List State) (s : ℕ) (u : Node) : Type 0 where
    pub meant : AreStates states
    pub there : s < length states
    pub named : slice_get g.nodes s ≡ Some u

-- the entry of a root table for a byte: the state that an unanchored search at its start takes by it, which is never the
-- start of anchored searches
pub record IsRootEntry (transitions : List Transition) (states : List State) (b next : ℕ) : Type 0 where
  pub leads : (g : TrieView) (v : Node) → g.transitions ≡ transitions → HasState g states START v
      → slice_get g.nodes next ≡ Some (step g.kind g.patterns No v (plain_byte g.ignores_case b))
  pub inner : (g : TrieView) (v : Node) → g.transitions ≡ transitions → HasState g states START v
      → slice_get g.nodes ANCHORED_START ≡ Some (Some []) → next ≢ ANCHORED_START

-- a root table has an entry for each byte
pub record IsRoot (transitions : List Transition) (states : List State) (root : List ℕ) : Type 0 where
  pub whole : length root ≡ 256
  pub entries : (b : ℕ) → b < 256 → IsRootEntry transitions states b (slice_index root b)

-- r is one of a node's matches, that after so many, and where the matches after it stand in the list of a state;
-- or None where there are no more
abbrev pub TakesMatch : TrieView → List State → Node → ℕ → Option (ℕ × MatchRest) → Type 0
TakesMatch g states u index r =
    MatchOption r (drop index (all_matches g u) ≡ [])
    (λ first. (v : Node) × HasState g states first.1.state v
    × (drop index (all_matches g u) ≡ first.0 ∷ drop first.1.index (all_matches g v)))

-- what the states of an automaton mean
abbrev pub meaning_of : Trie → List Node → TrieView
meaning_of trie nodes = record {
  kind = trie.built.kind;
  ignores_case = trie.built.ignores_case;
  patterns = plain_of trie.built;
  order = trie.order;
  transitions = trie.transitions;
  nodes = nodes;
}

-- the number is that of an inner state, which stands for the string
pub record IsNumberOf (nodes : List Node) (s : ℕ) (u : List ℕ) : Type 0 where
  pub inner : FIRST_INNER ≤ s
  pub named : slice_get nodes s ≡ Some (Some u)

-- there are as many states as an automaton has, and the inner ones stand for the nonempty nodes, each for one
pub record NumbersNodes (kind : MatchKind) (patterns : List (List ℕ)) (nodes : List Node) : Type 0 where
  pub count : length nodes ≡ state_count kind patterns
  pub node : (s : ℕ) → FIRST_INNER ≤ s → s < length nodes → (u : List ℕ) × IsNumberOf nodes s u
  pub only : (s : ℕ) (u : List ℕ) → IsNumberOf nodes s u → Contains (inner_nodes kind patterns) u
  pub each : (u : List ℕ) → Contains (inner_nodes kind patterns) u → (s : ℕ) × IsNumberOf nodes s u
  pub once : (s t : ℕ) (u : List ℕ) → IsNumberOf nodes s u → IsNumberOf nodes t u → s ≡ t

-- the states are all those of an automaton, and no more than there are numbers: the first four are the dead state, one that no
-- search reaches, and the two starts, and deeper ones come later
pub record AreAllStates (g : TrieView) (states : List State) : Type 0 where
  pub meant : AreStates g states
  pub whole : length states ≡ length g.nodes
  pub few : length g.nodes ≤ GREATEST + 1
  pub unreached : slice_get g.nodes FAIL ≡ Some None
  pub start : slice_get g.nodes START ≡ Some (Some [])
  pub anchored_start : slice_get g.nodes ANCHORED_START ≡ Some (Some [])
  pub numbered : NumbersNodes g.kind g.patterns g.nodes
  pub rising : (s t : ℕ) (u v : Node) → slice_get g.nodes s ≡ Some u → slice_get g.nodes t ≡ Some v → s ≤ t
      → depth u ≤ depth v

-- they are so of an automaton that has both starts, and each lists the matches of its node
pub record IsTrie (trie : Trie) (nodes : List Node) : Type 0 where
  pub both : trie.built.start_kind ≡ Both
  pub states : AreAllStates (meaning_of trie nodes) trie.states
  pub lists : (s : ℕ) (v : Node) → slice_get nodes s ≡ Some v
      → listed_within trie.order trie.states s s ≡ all_matches (meaning_of trie nodes) v

-- the number stands for the node
pub record IsTrieState (trie : Trie) (s : ℕ) (u : Node) : Type 0 where
  pub nodes : List Node
  pub is_trie : IsTrie trie nodes
  pub named : slice_get nodes s ≡ Some u

-- a state lists the patterns that end at its node, first those that equal the node's string
pub stands-lists : (trie : Trie) (anchored : Anchored) (s : ℕ) (u : Node)
    → IsTrieState trie s u → Lists trie.built anchored u (listed_within trie.order trie.states s s)
stands-lists trie No s u h = h.is_trie.lists s u h.named
stands-lists trie Yes s u h =
    let there = slice_get_within h.nodes s u h.named in
    let whole = h.is_trie.states.whole in
    let links = (h.is_trie.states.meant.each s u (omega arith) h.named).links in
    record {
      passed_over = all_matches (meaning_of trie h.nodes) links.linked;
      first = h.is_trie.lists s u h.named ∙ links.finds;
      left_out = [];
      front = sym (h.is_trie.lists s u h.named) ∙ sym (append-nil _);
    }

-- what contracts see of the automaton of a trie
abbrev pub automaton_of : Trie → AutomatonView
automaton_of trie = record {
  built = trie.built;
  most = 2;
  wants_prefilter = trie.wants_prefilter;
  stands = λ anchored s u. IsTrieState trie s u;
  listed = λ s. listed_within trie.order trie.states s s;
}

-- the number is that of a state among those that a search follows
abbrev pub IsStateAmong : TrieSlices → ℕ → Type 0
IsStateAmong trie s = (g : TrieView) × (u : Node) × (g.transitions ≡ trie.transitions.now) × HasState g trie.states.now s u

-- this holds of what they mean, and of the node of such a state
abbrev pub ForState : TrieSlices → ℕ → (TrieView → Node → Type 0) → Type 0
ForState trie s P =
    (g : TrieView) (u : Node) → g.transitions ≡ trie.transitions.now → HasState g trie.states.now s u → P g u

-- this step takes these further looks
abbrev pub TakesLooks : TrieSlices → Anchored → ℕ → ℕ → Counts → Counts → Type 0
TakesLooks trie anchored s byte old new =
    ForState trie s (λ g u. new
    ≡ more_looks (looks g.kind g.patterns anchored u (plain_byte g.ignores_case byte)) old)

-- whether a byte leads on from a node to a longer one
abbrev pub leads_on : Built → Node → ℕ → Bool
leads_on built None b = false
leads_on built (Some u) b = is_node built.kind (plain_of built) (u ++ plain_byte built.ignores_case b ∷ [])

-- the bytes that do, in ascending order
unfoldable pub transition_bytes_of : Built → Node → List ℕ
transition_bytes_of built u = filter (leads_on built u) (range_with_len 0 256)

-- the nodes are those that the state numbers stand for. The table is for the proofs of the readers alone
pub record AreNodes (trie : Trie) (nodes : List Node) : Type 0 where
  pub is_trie : IsTrie trie nodes
  pub numbered : NumbersNodes trie.built.kind (plain_of trie.built) nodes
  pub dead : slice_get nodes DEAD ≡ Some None
  pub unreached : slice_get nodes FAIL ≡ Some None
  pub start : slice_get nodes START ≡ Some (Some [])
  pub anchored_start : slice_get nodes ANCHORED_START ≡ Some (Some [])
  pub stands : (s : ℕ) (u : Node) → slice_get nodes s ≡ Some u → IsTrieState trie s u

-- the node of a state number has an own transition at the index
pub record HasOwn (trie : Trie) (s index : ℕ) : Type 0 where
  pub nodes : List Node
  pub are_nodes : AreNodes trie nodes
  pub node : Node
  pub named : slice_get nodes s ≡ Some node
  pub within : index < length (transition_bytes_of trie.built node)

-- the byte stands at the index among those that lead on from the string, and leads to the state number
pub record IsOwn (trie : Trie) (nodes : List Node) (w : List ℕ) (index byte target : ℕ) : Type 0 where
  pub place : slice_get (transition_bytes_of trie.built (Some w)) index ≡ Some byte
  pub leads : slice_get nodes target ≡ Some (Some (w ++ plain_byte trie.built.ignores_case byte ∷ []))

-- this holds of the node of a state, where these are the nodes
abbrev pub ForNode : (List Node → Type 0) → ℕ → (List Node → Node → Type 0) → Type 0
ForNode AreThese s P = (nodes : List Node) (u : Node) → AreThese nodes → slice_get nodes s ≡ Some u → P nodes u

-- the state of a number stands for the string
abbrev pub IsNumbered : List Node → ℕ → List ℕ → Type 0
IsNumbered nodes s w = slice_get nodes s ≡ Some (Some w)

-- a state is the failure target of another, which stands for a string that isn't empty
abbrev pub IsFailureOf : Trie → ℕ → ℕ → Type 0
IsFailureOf trie s target =
    (nodes : List Node) (x : ℕ) (u : List ℕ) → AreNodes trie nodes → IsNumbered nodes s (x ∷ u)
    → slice_get nodes target ≡ Some (failure trie.built.kind (plain_of trie.built) (x ∷ u))
