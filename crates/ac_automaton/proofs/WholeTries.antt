-- From the first states to a whole trie.
use Rattle.ac_util.proofs.Prelude.{◌≡◌, ℕ, zero, suc, ◌+◌, ◌≤◌, Bool, List, [], ◌∷◌, ◌++◌, map, length, inr, refl, sym, subst, arith, Some, None, slice_get, rules, get_or_past, length-map, length_push, slice_get_within, common_steps}
use Rattle.ac_automaton.specs.Prelude.{MatchKind, Node, pattern_of, plain, plain_byte, ANCHORED_START, AreStates, byte_at, FIRST_INNER, grown_view, Growth, HasRoot, HasBranched, IsGrown, IsOrder, IsTrie, Keyed, TrieView, nodes_of, numbers, NumbersNodes, QueuedState, Represents, Sorted, START, State, too_many_states, Transition, trie_of, Waits, word, IsQueueReady, dead_state}
use Rattle.ac_automaton.proofs.Grown.{AreStates-push, IsGrown-later, nodes-inner, nodes-rising}
use Rattle.ac_automaton.proofs.ListsOf.{listed_within-matches}
use Rattle.ac_automaton.proofs.StateCount.{numbers-nodes, too_many_states-none}

-- the state of the unanchored start is that of the anchored start too
pub Represents-beside : (g : TrieView) (v : Node) (t : State) → Represents g START v t
    → Represents g ANCHORED_START v t
Represents-beside g v t r = grind (arith, common_steps)

-- so does each byte of a plain string
plain-byte : (ignores_case : Bool) (text : List ℕ) (k b : ℕ) → slice_get (plain ignores_case text) k ≡ Some b
    → plain_byte ignores_case b ≡ b
plain-byte ignores_case [] k b e = absurd (cc)
plain-byte ignores_case (x ∷ text) zero b e = grind (arith, common_steps)
plain-byte ignores_case (x ∷ text) (suc k) b e = plain-byte ignores_case text k b e

-- and of a plain pattern
pub plain-pattern : (ignores_case : Bool) (texts : List (List ℕ)) (n k b : ℕ)
    → slice_get (pattern_of (map (plain ignores_case) texts) n) k ≡ Some b
    → plain_byte ignores_case b ≡ b
plain-pattern ignores_case [] n k b e = absurd (cc)
plain-pattern ignores_case (t ∷ texts) zero k b e = plain-byte ignores_case t k b e
plain-pattern ignores_case (t ∷ texts) (suc n) k b e = plain-pattern ignores_case texts n k b e

-- the bytes of patterns that are plain patterns are plain
pub sorted-plain : (kind : MatchKind) (ignores_case : Bool) (texts : List (List ℕ)) (sorted : List Keyed)
    → IsOrder kind (map (plain ignores_case) texts) sorted
    → (place depth b : ℕ) → byte_at sorted depth place ≡ Some b → plain_byte ignores_case b ≡ b
sorted-plain kind ignores_case texts sorted order place depth b e = search (rules, get_or_past, plain-pattern)

module _ (kind : MatchKind) (ignores_case : Bool) (patterns : List (List ℕ)) (sorted : List Keyed) where
  -- the start is next
  pub start-ready : (p : QueuedState) → IsOrder kind patterns sorted
      → ((place depth b : ℕ) → byte_at sorted depth place ≡ Some b → plain_byte ignores_case b ≡ b)
      → Waits kind patterns sorted [] START p → p.depth ≡ 0
      → IsQueueReady kind ignores_case patterns sorted (dead_state ∷ dead_state ∷ []) [] [] p
  start-ready p order settled waits depth = grind (arith, common_steps)

  -- the states up to those of the queue before `at` are whole
  pub record IsGoing (states : List State) (transitions : List Transition) (queue : List QueuedState)
      (at : ℕ) : Type 0 where
    pub order : IsOrder kind patterns sorted
    pub settled : (place depth b : ℕ) → byte_at sorted depth place ≡ Some b → plain_byte ignores_case b ≡ b
    pub grown : IsGrown kind patterns sorted (length states) transitions queue
    pub meant : AreStates (grown_view kind ignores_case patterns sorted transitions queue) states
    pub count : length states ≡ FIRST_INNER + at
    pub within : at ≤ length queue

  -- with the start at both its numbers the first four are whole
  started : (p : QueuedState) (t : State) (transitions : List Transition) (queue : List QueuedState)
      → IsOrder kind patterns sorted
      → ((place depth b : ℕ) → byte_at sorted depth place ≡ Some b → plain_byte ignores_case b ≡ b) → p.depth ≡ 0
      → HasBranched kind ignores_case patterns sorted (dead_state ∷ dead_state ∷ []) [] p t transitions queue
      → IsGoing (((dead_state ∷ dead_state ∷ []) ++ t ∷ []) ++ t ∷ []) transitions queue 0
  started p t transitions queue order settled depth h = record {
    order = order;
    settled = settled;
    grown = IsGrown-later (omega arith) (omega arith) h.grown;
    meant =
        AreStates-push (grown_view kind ignores_case patterns sorted transitions queue) ((dead_state ∷ dead_state
        ∷ []) ++ t ∷ [])
        (Some []) t once refl
        (Represents-beside (grown_view kind ignores_case patterns sorted transitions queue) (Some []) t start);
    count = refl;
    within = omega arith;
  }
    where
      start : Represents (grown_view kind ignores_case patterns sorted transitions queue) START (Some []) t
      start = search rules

      once : AreStates (grown_view kind ignores_case patterns sorted transitions queue) ((dead_state ∷ dead_state
          ∷ []) ++ t ∷ [])
      once = search (rules, AreStates-push, start)

  -- with the start at both its numbers a trie goes on to grow
  pub start-going : (first : List State) (none : List QueuedState) (p : QueuedState) (t : State)
      (transitions : List Transition) (queue : List QueuedState) → first ≡ (dead_state ∷ dead_state ∷ []) → none ≡ []
      → IsOrder kind patterns sorted
      → ((place depth b : ℕ) → byte_at sorted depth place ≡ Some b → plain_byte ignores_case b ≡ b) → p.depth ≡ 0
      → HasBranched kind ignores_case patterns sorted first none p t transitions queue
      → IsGoing ((first ++ t ∷ []) ++ t ∷ []) transitions queue 0
  start-going first none p t transitions queue is empty order settled depth h =
      subst (λ (ss : List State). IsGoing ((ss ++ t ∷ []) ++ t ∷ []) transitions queue 0) (sym is)
      (started p t transitions queue order settled depth
      (subst (λ (q : List QueuedState). HasBranched kind ignores_case patterns sorted (dead_state ∷ dead_state
      ∷ []) q p t transitions
      queue)
      empty
      (subst (λ (ss : List State). HasBranched kind ignores_case patterns sorted ss none p t transitions queue) is h)))

  -- the first in the queue that isn't whole is next
  pub going-ready : {states : List State} {transitions : List Transition} {queue : List QueuedState} {at : ℕ}
      {p : QueuedState} → IsGoing states transitions queue at → slice_get queue at ≡ Some p
      → IsQueueReady kind ignores_case patterns sorted states transitions queue p
  going-ready {queue = queue} {at = at} {p = p} h e = record {
    order = h.order;
    settled = h.settled;
    grown = h.grown;
    meant = h.meant;
    waits = subst (λ (n : ℕ). Waits kind patterns sorted queue n p) (sym h.count) (h.grown.waits at p e);
    next = inr (record { place = at; number = h.count; waits = e });
  }

  -- once a state of the queue has branched, the next one is next
  pub going-on : {states : List State} {transitions : List Transition} {queue : List QueuedState} {at : ℕ}
      {p : QueuedState} {t : State} {new_transitions : List Transition} {new_queue : List QueuedState}
      → IsGoing states transitions queue at
      → slice_get queue at ≡ Some p
      → HasBranched kind ignores_case patterns sorted states queue p t new_transitions new_queue
      → IsGoing (states ++ t ∷ []) new_transitions new_queue (at + 1)
  going-on {states} {transitions} {queue} {at} {p} {t} {new_transitions} {new_queue} h e b = record {
    order = h.order;
    settled = h.settled;
    grown = subst (λ (n : ℕ). IsGrown kind patterns sorted n new_transitions new_queue)
        (omega (arith, length_push states t)) b.grown;
    meant = AreStates-push (grown_view kind ignores_case patterns sorted new_transitions new_queue) states
        (Some (word sorted p)) t b.meant node b.represents;
    count = omega (arith, length_push states t, h.count);
    within = omega (arith, slice_get_within new_queue at p (b.kept at p e));
  }
    where
      node : slice_get (nodes_of sorted new_queue) (length states) ≡ Some (Some (word sorted p))
      node = search (rules, nodes-inner)

-- the states up to those of the queue before a place are whole, whatever list the sorted patterns are of
abbrev pub IsGoingFrom : MatchKind → Sorted → List State → List Transition → List QueuedState → ℕ → Type 0
IsGoingFrom kind sorted states transitions queue at =
    (texts : List (List ℕ)) → IsOrder kind (map (plain sorted.ignores_case) texts) sorted.patterns
    → IsGoing kind sorted.ignores_case (map (plain sorted.ignores_case) texts) sorted.patterns states transitions queue at

-- the patterns of a trie that begins to grow are in order
pub begun-order : {Z : Type 0} (ignores_case : Bool) (texts : List (List ℕ)) (growth : Growth Z)
    → HasRoot ignores_case texts growth
    → IsOrder growth.kind (map (plain growth.sorted.ignores_case) texts) growth.sorted.patterns
begun-order ignores_case texts growth begun = grind (arith, common_steps)

-- where the whole queue is, the states are those of an automaton
module _ (texts : List (List ℕ)) {ignores_case : Bool} {kind : MatchKind} {sorted : List Keyed}
    {states : List State} {transitions : List Transition} {queue : List QueuedState} {at : ℕ}
    (h : IsGoing kind ignores_case (map (plain ignores_case) texts) sorted states transitions queue at)
    (all : length queue ≤ at) where
  -- there are as many states as the first ones and the queue
  counted : length states ≡ FIRST_INNER + length queue
  counted = omega (arith, h.count, h.within)

  -- so their numbers are those of the nodes
  numbered : NumbersNodes kind (map (plain ignores_case) texts) (nodes_of sorted queue)
  numbered = search (rules, counted, numbers-nodes)

  -- the states are those of an automaton
  pub whole-trie : (wants_prefilter : Bool) → IsTrie (trie_of (record {
    patterns = texts;
    ignores_case = ignores_case;
    kind = kind;
    wants_prefilter = wants_prefilter;
  }) (numbers sorted) transitions states) (nodes_of sorted queue)
  whole-trie wants_prefilter =
      let named = length-map queue (λ (q : QueuedState). Some (word sorted q)) in
      record {
        both = refl;
        states = record {
          meant = h.meant;
          whole = omega (arith, counted);
          few = omega (arith, h.grown.few);
          unreached = refl;
          start = refl;
          anchored_start = refl;
          numbered = numbered;
          rising = nodes-rising h.grown;
        };
        lists = λ s v e.
            listed_within-matches
            (grown_view kind ignores_case (map (plain ignores_case) texts) sorted transitions queue) states s s v
            (record {
              meant = h.meant;
              there =
                  (omega (arith, slice_get_within (nodes_of sorted queue) s v e, counted));
              named = e;
            })
            (omega arith);
      }

  -- and there are enough numbers
  pub whole-few : too_many_states kind (map (plain ignores_case) texts) ≡ None
  whole-few = search (rules, length-map, numbered, too_many_states-none)
