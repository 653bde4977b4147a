-- A trie that is being built, breadth first: the states that are complete, and the queued ones, which wait for
-- their children.
use Rattle.std.specs.Prelude.{◌≡◌, ◌↔◌, ◌⊎◌, ℕ, ◌+◌, ◌-◌, ◌<◌, ◌≤◌, ◌&&◌, Bool, if◌then◌else◌, List, [], ◌∷◌, ◌++◌, ◌≢◌, nat_eq, true, map, length, take, drop, slice_get, MatchResult, None, Result, Some}
use Rattle.std.specs.Char.{is_ascii_lowercase, to_ascii_uppercase}
use Rattle.std.specs.List.{starts_with}
use Rattle.std.specs.List.Sorted.{IsPermutation, IsSortedByKey}
use Rattle.std.specs.Ordering.{nat_cmp}
use Rattle.ac_automaton.specs.Util.{BuildError, GREATEST, MatchKind, Node, plain, plain_byte, StateIdOverflow}
use Rattle.ac_util.specs.declared.error.BuildError.TheVariants.{Memory}
use Rattle.ac_automaton.specs.declared.nfa.noncontiguous.growth.Growth.{Growth}
use Rattle.ac_automaton.specs.declared.nfa.noncontiguous.growth.QueuedState.{QueuedState}
use Rattle.ac_automaton.specs.declared.nfa.noncontiguous.lists.TrieLists.{TrieLists}
use Rattle.ac_automaton.specs.declared.nfa.noncontiguous.state.State.{State}
use Rattle.ac_automaton.specs.declared.nfa.noncontiguous.state.TheConstants.{DEAD, START, ANCHORED_START, FIRST_INNER}
use Rattle.ac_automaton.specs.declared.nfa.noncontiguous.state.Transition.{Transition}
use Rattle.ac_automaton.specs.Builds.{IsRefused, too_many_states}
use Rattle.ac_automaton.specs.Sorted.{AreSorted, Keyed, IsOrder, Sorted, byte_at, key_at, numbers}
use Rattle.ac_automaton.specs.Tries.{TrieView, AreStates, IsTrie, Links, Represents, dead_state, fallback, trie_of}

-- the string of a queued state: the bytes of its first pattern up to its depth
abbrev pub word : List Keyed → QueuedState → List ℕ
word sorted p = take p.depth (key_at sorted p.from)

-- the nodes of the states, by number
abbrev pub nodes_of : List Keyed → List QueuedState → List Node
nodes_of sorted queue = None ∷ None ∷ Some [] ∷ Some [] ∷ map (λ p. Some (word sorted p)) queue

-- the transitions to a target by a plain byte: where case is ignored by a letter's capital too
abbrev pub leading : Bool → ℕ → ℕ → List Transition
leading ignores_case byte target =
    record { byte = byte; target = target }
    ∷ (if ignores_case && is_ascii_lowercase byte then record { byte = to_ascii_uppercase byte; target = target } ∷ []
    else [])

-- a state has been added to the queue, and the transitions to it by a plain byte to the others
pub record HasPushed (ignores_case : Bool) (byte : ℕ) (p : QueuedState) (transitions : List Transition)
    (queue : List QueuedState)
    (new_transitions : List Transition) (new_queue : List QueuedState) : Type 0 where
  pub leads : new_transitions ≡ transitions ++ leading ignores_case byte (FIRST_INNER + length queue)
  pub waits : new_queue ≡ queue ++ p ∷ []
  pub numbered : FIRST_INNER + length queue < GREATEST + 1

-- it has not: for lack of memory, where a number is left for it, or because none is
abbrev pub IsNotPushed : List QueuedState → BuildError → Type 0
IsNotPushed queue e =
    ((e ≡ Memory) × (FIRST_INNER + length queue ≤ GREATEST))
    ⊎ ((e ≡ StateIdOverflow GREATEST (GREATEST + 1)) × (FIRST_INNER + length queue ≡ GREATEST + 1))

-- the transitions from an index on have been put in ascending order of their bytes
pub record HasSorted (first : ℕ) (old new : List Transition) : Type 0 where
  pub sorted : List Transition
  pub split : new ≡ take first old ++ sorted
  pub permutation : IsPermutation (drop first old) sorted
  pub order : IsSortedByKey (λ t. t.byte) nat_cmp sorted

-- the patterns that equal the string of a queued state end at the index: the next one has a further byte
pub record EndsPatterns (sorted : List Keyed) (p : QueuedState) (place : ℕ) : Type 0 where
  pub later : p.from ≤ place
  pub within : place ≤ p.to
  pub whole : (k : ℕ) → p.from ≤ k → k < place → byte_at sorted p.depth k ≡ None
  pub other : place < p.to → byte_at sorted p.depth place ≢ None

-- the patterns from one index up to another are those that begin with the string
pub record IsRangeOf (sorted : List Keyed) (u : List ℕ) (from to : ℕ) : Type 0 where
  pub ordered : from ≤ to
  pub within : to ≤ length sorted
  pub begins : (k : ℕ) → k < length sorted
      → ((from ≤ k) × (k < to)) ↔ (starts_with nat_eq (key_at sorted k) u ≡ true)

module _ (kind : MatchKind) (patterns : List (List ℕ)) (sorted : List Keyed) where
  -- the state with this number waits for its children: it has the range of its string, and its failure target
  pub record Waits (queue : List QueuedState) (s : ℕ) (p : QueuedState) : Type 0 where
    pub deep : p.depth ≤ length (key_at sorted p.from)
    pub range : IsRangeOf sorted (word sorted p) p.from p.to
    pub fails : slice_get (nodes_of sorted queue) p.fail ≡ Some (fallback kind patterns (Some (word sorted p)))
    pub unanchored : p.fail ≢ ANCHORED_START
    pub back : FIRST_INNER ≤ s → p.fail < s
    pub some : FIRST_INNER ≤ s → p.from < p.to
    pub inner : FIRST_INNER ≤ s → 0 < p.depth

  -- one of the first states is the parent of a queued one
  pub record HasParent (whole : ℕ) (queue : List QueuedState) (q : QueuedState) : Type 0 where
    pub parent : ℕ
    pub early : parent < whole
    pub named : slice_get (nodes_of sorted queue) parent ≡ Some (Some (take (q.depth - 1) (word sorted q)))

  -- each state in the queue waits, no two have one string, each is a child of one of the first states, and deeper ones
  -- come later
  pub record IsGrown (whole : ℕ) (transitions : List Transition) (queue : List QueuedState) : Type 0 where
    pub few : FIRST_INNER + length queue ≤ GREATEST + 1
    pub counted : length transitions ≤ length queue + length queue
    pub waits : (k : ℕ) (p : QueuedState) → slice_get queue k ≡ Some p → Waits queue (FIRST_INNER + k) p
    pub apart : (j k : ℕ) (p q : QueuedState) → slice_get queue j ≡ Some p → slice_get queue k ≡ Some q
        → word sorted p ≡ word sorted q → j ≡ k
    pub parents : (k : ℕ) (q : QueuedState) → slice_get queue k ≡ Some q → HasParent whole queue q
    pub rising : (j k : ℕ) (p q : QueuedState) → slice_get queue j ≡ Some p → slice_get queue k ≡ Some q → j ≤ k
        → p.depth ≤ q.depth

  -- the next state is the start
  pub record IsFirstQueued (queue : List QueuedState) (s : ℕ) (p : QueuedState) : Type 0 where
    pub number : s ≡ START
    pub empty : queue ≡ []
    pub depth : p.depth ≡ 0

  -- the next state is the one at an index of the queue
  pub record IsQueued (queue : List QueuedState) (s : ℕ) (p : QueuedState) : Type 0 where
    pub place : ℕ
    pub number : s ≡ FIRST_INNER + place
    pub waits : slice_get queue place ≡ Some p

  -- the next state is the start, or the first in the queue that isn't complete
  abbrev pub IsNext : List QueuedState → ℕ → QueuedState → Type 0
  IsNext queue s p = IsFirstQueued queue s p ⊎ IsQueued queue s p

module _ (kind : MatchKind) (ignores_case : Bool) (patterns : List (List ℕ)) (sorted : List Keyed) where
  -- what the numbers mean as far as the trie has grown
  abbrev pub grown_view : List Transition → List QueuedState → TrieView
  grown_view transitions queue = record {
    kind = kind;
    ignores_case = ignores_case;
    patterns = patterns;
    order = numbers sorted;
    transitions = transitions;
    nodes = nodes_of sorted queue;
  }

  -- all states before the next one are complete
  pub record IsQueueReady (states : List State) (transitions : List Transition) (queue : List QueuedState)
      (p : QueuedState) : Type 0 where
    pub order : IsOrder kind patterns sorted
    pub settled : (place depth b : ℕ) → byte_at sorted depth place ≡ Some b → plain_byte ignores_case b ≡ b
    pub grown : IsGrown kind patterns sorted (length states) transitions queue
    pub meant : AreStates (grown_view transitions queue) states
    pub waits : Waits kind patterns sorted queue (length states) p
    pub next : IsNext kind patterns sorted queue (length states) p

  -- a queued state has a child by the byte, whose patterns begin at the index
  pub record HasChild (states : List State) (transitions : List Transition) (queue : List QueuedState)
      (p : QueuedState)
      (place byte : ℕ) : Type 0 where
    pub order : IsOrder kind patterns sorted
    pub settled : plain_byte ignores_case byte ≡ byte
    pub meant : AreStates (grown_view transitions queue) states
    pub waits : Waits kind patterns sorted queue (length states) p
    pub near : p.depth ≢ 0 → p.fail < length states
    pub to : ℕ
    pub range : IsRangeOf sorted (word sorted p ++ byte ∷ []) place to
    pub some : place < to

  -- the children of a queued state have been added to the queue, and it is complete
  pub record HasBranched (states : List State) (queue : List QueuedState) (p : QueuedState) (t : State)
      (new_transitions : List Transition)
      (new_queue : List QueuedState) : Type 0 where
    pub grown : IsGrown kind patterns sorted (length states + 1) new_transitions new_queue
    pub meant : AreStates (grown_view new_transitions new_queue) states
    pub represents : Represents (grown_view new_transitions new_queue) (length states)
        (Some (word sorted p)) t
    pub kept : (k : ℕ) (q : QueuedState) → slice_get queue k ≡ Some q → slice_get new_queue k ≡ Some q

-- what branching leaves as it is: the match kind, the sorted patterns, and the complete states
pub record Source : Type 0 where
  pub kind : MatchKind
  pub sorted : Sorted
  pub states : List State

-- that of a growing trie
abbrev pub source_of : {Z : Type 0} → Growth Z → Source
source_of growth = record { kind = growth.kind; sorted = growth.sorted; states = growth.states.items }

-- a growing trie may branch at a queued state
abbrev pub MayBranch : {Z : Type 0} → List (List ℕ) → Growth Z → QueuedState → Type 0
MayBranch patterns growth queued =
    IsQueueReady growth.kind growth.sorted.ignores_case patterns growth.sorted.patterns growth.states.items
    growth.transitions.items growth.queue.items queued

-- it has branched there, and the complete state is t
abbrev pub Branches : {Z : Type 0} → List (List ℕ) → Growth Z → Growth Z → QueuedState → State → Type 0
Branches patterns growth new_growth queued t =
    HasBranched growth.kind growth.sorted.ignores_case patterns growth.sorted.patterns growth.states.items
    growth.queue.items queued t new_growth.transitions.items new_growth.queue.items

-- a queued state of a growing trie has such a child
abbrev pub HasChildIn : {Z : Type 0} → List (List ℕ) → Growth Z → QueuedState → ℕ → ℕ → Type 0
HasChildIn patterns growth queued place byte =
    HasChild growth.kind growth.sorted.ignores_case patterns growth.sorted.patterns growth.states.items
    growth.transitions.items growth.queue.items queued place byte

-- the number fail stands for the failure target of the node; that of the start may be the start itself, any
-- other is less than s
pub record LinkIsDue (g : TrieView) (s : ℕ) (u : List ℕ) (fail : ℕ) : Type 0 where
  pub fails : slice_get g.nodes fail ≡ Some (fallback g.kind g.patterns (Some u))
  pub dead : slice_get g.nodes DEAD ≡ Some None
  pub near : u ≢ [] → fail < s
  pub start : u ≡ [] → fail < s → (fail < START) × (slice_get g.nodes fail ≡ Some None)

-- a trie of the patterns begins to grow: with its first two states, and nothing in the queue
pub record HasRoot {Z : Type 0} (ignores_case : Bool) (texts : List (List ℕ)) (growth : Growth Z) : Type 0 where
  pub sorts : AreSorted growth.kind ignores_case texts growth.sorted
  pub two : growth.states.items ≡ (dead_state ∷ dead_state ∷ [])
  pub no_transitions : growth.transitions.items ≡ []
  pub no_queue : growth.queue.items ≡ []

-- the transitions and states are those of an automaton, which has no more states than there are numbers
pub record IsWhole (texts : List (List ℕ)) (ignores_case : Bool) (kind : MatchKind) (order : List ℕ)
    (transitions : List Transition) (states : List State) : Type 0 where
  pub nodes : List Node
  pub is_trie : (wants_prefilter : Bool) → IsTrie (trie_of (record {
    patterns = texts;
    ignores_case = ignores_case;
    kind = kind;
    wants_prefilter = wants_prefilter;
  }) order transitions states) nodes
  pub few : too_many_states kind (map (plain ignores_case) texts) ≡ None

-- the lists of an automaton over these patterns are made, or refused: for lack of memory, or for too many states
abbrev pub BuildsLists : {Z : Type 0} → List (List ℕ) → Bool → MatchKind → Result (TrieLists Z) BuildError → Type 0
BuildsLists texts ignores_case kind result =
    MatchResult result
    (λ lists. IsWhole texts ignores_case kind lists.order.items lists.transitions.items lists.states.items)
    (IsRefused (too_many_states kind (map (plain ignores_case) texts)))

-- a growing trie that may branch at a queued state does so, or is refused as its lists are
abbrev pub BranchesAt : {Z : Type 0} → Growth Z → QueuedState → Result State BuildError → Growth Z → Type 0
BranchesAt growth queued result new_growth =
    (patterns : List (List ℕ)) → MayBranch patterns growth queued
    → MatchResult result (Branches patterns growth new_growth queued) (IsRefused (too_many_states growth.kind patterns))

-- a state is added to its queue, with the transitions to it by a plain byte, or is not
abbrev pub PushesState : {Z : Type 0} → Growth Z → ℕ → QueuedState → Result (Unit {0}) BuildError → Growth Z → Type 0
PushesState growth byte queued result new_growth =
    MatchResult result
    (λ done. HasPushed growth.sorted.ignores_case byte queued growth.transitions.items growth.queue.items
    new_growth.transitions.items new_growth.queue.items)
    (IsNotPushed growth.queue.items)

-- the number stands for the failure target of a queued state's child by a byte
abbrev pub IsChildFailure : {Z : Type 0} → Growth Z → QueuedState → ℕ → ℕ → ℕ → Type 0
IsChildFailure growth queued place byte target =
    (patterns : List (List ℕ)) → HasChildIn patterns growth queued place byte
    → slice_get (nodes_of growth.sorted.patterns growth.queue.items) target
    ≡ Some (fallback growth.kind patterns (Some (word growth.sorted.patterns queued ++ byte ∷ [])))

-- it is the output link of the next state, which has this failure target
abbrev pub IsLinkFrom : {Z : Type 0} → Growth Z → ℕ → ℕ → Type 0
IsLinkFrom growth fail link =
    (g : TrieView) (u : List ℕ) → AreStates g growth.states.items
    → LinkIsDue g (length growth.states.items) u fail → Links g (length growth.states.items) (Some u) link
