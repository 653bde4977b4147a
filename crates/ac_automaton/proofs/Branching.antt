-- How the children of a state are put after the queue, one run of patterns after another.
use Rattle.ac_util.proofs.Prelude.{◌≡◌, ◌≢◌, ℕ, suc, ◌+◌, ◌<◌, ◌≤◌, true, Bool, List, [], ◌∷◌, ◌++◌, length, inl, inr, refl, ap, sym, subst, arith, Option, Some, None, nat_eq, slice_get, rules, starts_with, append-nil, length_push, length-take-le, slice_get_within, common_steps}
use Rattle.ac_automaton.specs.Prelude.{MatchKind, plain_byte, AreStates, byte_at, EndsPatterns, grown_view, HasChild, IsGrown, IsNext, IsRangeOf, key_at, Keyed, nodes_of, QueuedState, Source, State, Transition, Waits, word, IsQueueReady}
use Rattle.ac_util.proofs.Lists.{IsIn, IsOrdered}
use Rattle.ac_automaton.proofs.Grown.{AreStates-more, IsGrown-later, nodes-inner, nodes-more}
use Rattle.ac_automaton.proofs.Orders.{rank}
use Rattle.ac_util.proofs.Prefixes.{starts_with-length}
use Rattle.ac_automaton.proofs.Ranges.{run-range, next-greater}

module _ {kind : MatchKind} {patterns : List (List ℕ)} {sorted : List Keyed} {queue : List QueuedState}
    {s : ℕ} {p : QueuedState} (w : Waits kind patterns sorted queue s p) where
  -- the string of a waiting state has as many bytes as the state is deep
  pub word-length : length (word sorted p) ≡ p.depth
  word-length = length-take-le p.depth (key_at sorted p.from) w.deep

  -- what waits still does when more has come
  pub Waits-more : (more : List QueuedState) → Waits kind patterns sorted (queue ++ more) s p
  Waits-more more = search (rules, nodes-more)

-- the number of a state that is next stands for its string
next-node : (kind : MatchKind) (patterns : List (List ℕ)) (sorted : List Keyed) (queue : List QueuedState)
    (s : ℕ) (p : QueuedState) → IsNext kind patterns sorted queue s p
    → slice_get (nodes_of sorted queue) s ≡ Some (Some (word sorted p))
next-node kind patterns sorted queue s p (inl start) = cc
next-node kind patterns sorted queue s p (inr later) = search (rules, nodes-inner)

-- one of the transitions is by the byte
pub record HasTransition (x : ℕ) (transitions : List Transition) : Type 0 where
  pub transition : Transition
  pub among : IsIn transition transitions
  pub by : transition.byte ≡ x

-- a state whose children come: the trie as far as it has grown, the state, and where the patterns end that are
-- its string
pub record Site : Type 0 where
  pub kind : MatchKind
  pub ignores_case : Bool
  pub patterns : List (List ℕ)
  pub sorted : List Keyed
  pub states : List State
  pub transitions : List Transition
  pub queue : List QueuedState
  pub queued : QueuedState
  pub ready : IsQueueReady kind ignores_case patterns sorted states transitions queue queued
  pub patterns_end : ℕ
  pub ends : EndsPatterns sorted queued patterns_end

module _ (site : Site) where
  -- the string of the state, and the byte with which a pattern goes on after it
  abbrev pub string : List ℕ
  string = word site.sorted site.queued

  abbrev pub next_byte : ℕ → Option ℕ
  next_byte k = byte_at site.sorted site.queued.depth k

  -- a pattern before the place goes on after the string with the byte
  pub record GoesOnBy (place b : ℕ) : Type 0 where
    pub at : ℕ
    pub low : site.patterns_end ≤ at
    pub high : at < place
    pub byte : next_byte at ≡ Some b

  -- the queued state is a child by such a byte
  pub record IsChild (place : ℕ) (q : QueuedState) : Type 0 where
    pub byte : ℕ
    pub by : GoesOnBy place byte
    pub word_is : word site.sorted q ≡ string ++ byte ∷ []

  -- the children of the patterns up to a place have come
  pub record IsBranching (place : ℕ) (transitions : List Transition) (queue : List QueuedState) : Type 0 where
    pub grown : IsGrown site.kind site.patterns site.sorted (length site.states + 1) transitions queue
    pub meant : AreStates
        (grown_view site.kind site.ignores_case site.patterns site.sorted site.transitions queue) site.states
    pub waits : Waits site.kind site.patterns site.sorted queue (length site.states) site.queued
    pub node : slice_get (nodes_of site.sorted queue) (length site.states) ≡ Some (Some string)
    pub kept : (k : ℕ) (q : QueuedState) → slice_get site.queue k ≡ Some q → slice_get queue k ≡ Some q
    pub more : length site.queue ≤ length queue
    pub low : site.patterns_end ≤ place
    pub high : place ≤ site.queued.to
    pub children : (c : ℕ) (q : QueuedState) → length site.queue ≤ c → slice_get queue c ≡ Some q
        → IsChild place q
    pub added : List Transition
    pub split : transitions ≡ site.transitions ++ added
    pub leads : (t : Transition) → IsIn t added
        → slice_get (nodes_of site.sorted queue) t.target
        ≡ Some (Some (string ++ plain_byte site.ignores_case t.byte ∷ []))
    pub by_patterns : (t : Transition) → IsIn t added → GoesOnBy place (plain_byte site.ignores_case t.byte)
    pub small : (t : Transition) → IsIn t added → t.byte < 256
    pub covered : (k b x : ℕ) → site.patterns_end ≤ k → k < place → next_byte k ≡ Some b
        → plain_byte site.ignores_case x ≡ b
        → HasTransition x added
    pub apart : IsOrdered (λ s t. s.byte ≢ t.byte) added
    pub smaller : place < site.queued.to → (k : ℕ) → site.queued.from ≤ k → k < place
        → rank (next_byte k) < rank (next_byte place)

  -- a byte ranks above none
  rank-some : (r : Option ℕ) → r ≢ None → 0 < rank r
  rank-some None some = absurd (some refl)
  rank-some (Some b) some = omega arith

  -- it begins after the patterns that are the string
  pub branching-begins : IsBranching site.patterns_end site.transitions site.queue
  branching-begins = record {
    grown = IsGrown-later (omega arith) (omega arith) site.ready.grown;
    meant = site.ready.meant;
    waits = site.ready.waits;
    node = next-node site.kind site.patterns site.sorted site.queue
        (length site.states) site.queued site.ready.next;
    kept = λ k q e. e;
    more = omega arith;
    low = omega arith;
    high = site.ends.within;
    children = λ c q le e. absurd (omega (arith, slice_get_within site.queue c q e));
    added = [];
    split = sym (append-nil site.transitions);
    leads = λ t none. absurd none;
    by_patterns = λ t none. absurd none;
    small = λ t none. absurd none;
    covered = λ k b x l h e f. absurd (omega arith);
    apart = tt;
    smaller = λ more k a b.
        let zero : rank (next_byte k) ≡ 0 = ap rank (site.ends.whole k a b) in
        omega (arith, rank-some (next_byte site.patterns_end) (site.ends.other more));
  }

  -- after the patterns that are the string each pattern has a further byte
  pub goes-on : {place : ℕ} {transitions : List Transition} {queue : List QueuedState}
      → IsBranching place transitions queue
      → place < site.queued.to → next_byte place ≢ None
  goes-on {place} h more = grind (arith, common_steps)

  -- the patterns from a place up to another go on with the byte, and the next one doesn't
  pub record IsRun (place end b : ℕ) : Type 0 where
    pub more : place < site.queued.to
    pub some : place < end
    pub high : end ≤ site.queued.to
    pub byte : next_byte place ≡ Some b
    pub small : b < 256
    pub same : (k : ℕ) → place ≤ k → k < end → next_byte k ≡ next_byte place
    pub other : end < site.queued.to → next_byte end ≢ next_byte place

  -- such a run is that of a child
  module _ {place end b : ℕ} {transitions : List Transition} {queue : List QueuedState}
      (h : IsBranching place transitions queue)
      (run : IsRun place end b) where
    -- the string has as many bytes as the state is deep
    pub long : length string ≡ site.queued.depth
    long = word-length h.waits

    -- the patterns before the run have lesser bytes
    pub below : (k : ℕ) → site.queued.from ≤ k → k < place → rank (next_byte k) < suc b
    below k a c = grind (arith, common_steps)

    -- the run, by the bytes after the string
    record IsRunAfter (n : ℕ) : Type 0 where
      byte : byte_at site.sorted n place ≡ Some b
      before : (k : ℕ) → site.queued.from ≤ k → k < place → rank (byte_at site.sorted n k) < suc b
      same : (k : ℕ) → place ≤ k → k < end → byte_at site.sorted n k ≡ byte_at site.sorted n place
      other : end < site.queued.to → byte_at site.sorted n end ≢ byte_at site.sorted n place

    after-string : IsRunAfter (length string)
    after-string =
        subst IsRunAfter (sym long) (record { byte = run.byte; before = below; same = run.same; other = run.other })

    -- the patterns of the run are those that begin with the child's string
    pub child-range : IsRangeOf site.sorted (string ++ b ∷ []) place end
    child-range =
        run-range site.kind site.patterns site.sorted site.ready.order string site.queued.from
        site.queued.to h.waits.range place end b
        (omega (arith, h.low, site.ends.later)) run.some run.high after-string.byte after-string.before after-string.same
        after-string.other

    -- the pattern after the run has a greater one
    pub greater : end < site.queued.to → suc b < rank (next_byte end)
    greater l =
        subst (λ (n : ℕ). suc b < rank (byte_at site.sorted n end)) long
        (next-greater site.kind site.patterns site.sorted site.ready.order string site.queued.from
        site.queued.to h.waits.range place end b
        (omega (arith, h.low, site.ends.later)) run.some run.high after-string.byte after-string.before after-string.same
        after-string.other l)

    -- the string of the child is one byte longer
    pub pushed : length (string ++ b ∷ []) ≡ site.queued.depth + 1
    pushed = omega (arith, length_push string b, long)

    -- the pattern at the place begins with it
    pub front : starts_with nat_eq (key_at site.sorted place) (string ++ b ∷ []) ≡ true
    front = (child-range.begins place (omega (arith, h.waits.range.within))).0 (omega arith, run.some)

    -- the pattern at the place has the byte
    pub child-deep : site.queued.depth + 1 ≤ length (key_at site.sorted place)
    child-deep = search (rules, front, pushed, starts_with-length)

    -- what the child's failure target is given by
    pub has-child : HasChild site.kind site.ignores_case site.patterns site.sorted site.states transitions queue
        site.queued place b
    has-child = record {
      order = site.ready.order;
      settled = site.ready.settled place site.queued.depth b run.byte;
      meant =
          AreStates-more
          (grown_view site.kind site.ignores_case site.patterns site.sorted site.transitions queue) transitions
          h.added h.split (nodes_of site.sorted queue)
          (λ s v e. e) site.states (omega arith) h.meant;
      waits = h.waits;
      near = λ deep. near deep site.ready.next;
      to = end;
      range = child-range;
      some = run.some;
    }
      where
        near : site.queued.depth ≢ 0
            → IsNext site.kind site.patterns site.sorted site.queue (length site.states) site.queued
            → site.queued.fail < length site.states
        near deep (inl start) = absurd (deep start.depth)
        near deep (inr later) = h.waits.back (omega (arith, later.number))

-- from this source, with these transitions and this queue: the children of a state up to a place have come
abbrev pub IsBranchingFrom : Source → List Transition → List QueuedState → QueuedState → ℕ → ℕ
    → List Transition → List QueuedState → Type 0
IsBranchingFrom from transitions queue queued end place new_transitions new_queue =
    (patterns : List (List ℕ))
    (ready : IsQueueReady from.kind from.sorted.ignores_case patterns from.sorted.patterns from.states transitions queue
    queued)
    (ends : EndsPatterns from.sorted.patterns queued end)
    → IsBranching (record {
      kind = from.kind;
      ignores_case = from.sorted.ignores_case;
      patterns = patterns;
      sorted = from.sorted.patterns;
      states = from.states;
      transitions = transitions;
      queue = queue;
      queued = queued;
      ready = ready;
      patterns_end = end;
      ends = ends;
    })
    place new_transitions new_queue
