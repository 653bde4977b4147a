-- Once all its children have come a state is whole.
use Rattle.ac_util.proofs.Prelude.{◌≡◌, ◌≢◌, ℕ, ◌<◌, ◌≤◌, true, List, [], ◌∷◌, ◌++◌, length, length-append, inl, inr, refl, ap, sym, ◌∙◌, subst, arith, Some, None, nat_eq, slice_get, slice_range, Contains, ◌↔◌, rules, starts_with, IsPermutation, IsStrictlyIncreasing, cases_lt, length-map, common_steps}
use Rattle.ac_automaton.specs.Prelude.{is_node, MatchKind, plain_byte, step, Yes, AreStates, byte_at, FIRST_INNER, grown_view, HasBranched, HasSorted, IsNext, IsOrder, key_at, Keyed, LinkIsDue, Links, nodes_of, QueuedState, State, Transition, transition_bytes}
use Rattle.std.proofs.lemmas.List.Sorted.{Contains-permutation, IsPermutation-sym, length_permutation}
use Rattle.ac_util.proofs.Prefixes.{starts_with-front}
use Rattle.ac_util.proofs.Lists.{AllPairs-from_IsOrdered, Contains-from_IsIn, IsIn, IsIn-from_Contains, IsIn-from_map, IsIn-map}
use Rattle.ac_automaton.proofs.Branching.{IsBranching, Site, string, word-length}
use Rattle.ac_automaton.proofs.Grown.{AreStates-more, IsGrown-later}
use Rattle.ac_automaton.proofs.Leading.{sorted-ascends}
use Rattle.ac_automaton.proofs.Places.{IsIn-place}
use Rattle.ac_automaton.proofs.Ranges.{pattern-node, node-pattern, range-equal_to}
use Rattle.ac_automaton.proofs.Prefixes.{starts_with-last, starts_with-push}

-- an anchored search goes on exactly by the bytes that make a node
pub transition_target-is : (kind : MatchKind) (patterns : List (List ℕ)) (u : List ℕ) (b : ℕ)
    → is_node kind patterns (u ++ b ∷ []) ≡ true
    → step kind patterns Yes (Some u) b ≡ Some (u ++ b ∷ [])
transition_target-is kind patterns u b node = cc

-- where it goes on, the longer string is a node
pub transition_target-node : (kind : MatchKind) (patterns : List (List ℕ)) (u : List ℕ) (b : ℕ)
    → step kind patterns Yes (Some u) b ≢ None
    → is_node kind patterns (u ++ b ∷ []) ≡ true
transition_target-node kind patterns u b some = grind (arith, common_steps)

-- some pattern begins with a node
pub some_node : (kind : MatchKind) (patterns : List (List ℕ)) (sorted : List Keyed)
    → IsOrder kind patterns sorted
    → (u : List ℕ) (b : ℕ) → is_node kind patterns (u ++ b ∷ []) ≡ true
    → (k : ℕ) × (k < length sorted) × (starts_with nat_eq (key_at sorted k) (u ++ b ∷ []) ≡ true)
some_node kind patterns sorted order [] b node = node-pattern kind patterns sorted order b [] node
some_node kind patterns sorted order (x ∷ u) b node =
    node-pattern kind patterns sorted order x (u ++ b ∷ []) node

-- a state all of whose children have come, and whose transitions have been sorted
module _ (site : Site) {unsorted : List Transition} {queue : List QueuedState}
    (h : IsBranching site site.queued.to unsorted queue)
    {transitions : List Transition} (s : HasSorted (length site.transitions) unsorted transitions) where
  -- the string has as many bytes as the state is deep
  long : length (string site) ≡ site.queued.depth
  long = word-length h.waits

  -- the transitions after the old ones are the new ones, sorted
  split : transitions ≡ site.transitions ++ s.sorted
  split = grind (arith, common_steps)

  -- the sorted transitions are those that were added
  sorted-from : IsPermutation h.added s.sorted
  sorted-from = grind (arith, common_steps)

  -- the transitions of the state
  abbrev range : List Transition
  range = slice_range transitions (length site.transitions) (length transitions)

  -- they are the sorted ones
  range-is : range ≡ s.sorted
  range-is = grind (arith, common_steps)

  -- a transition that was added is one of them
  in-range : (t : Transition) → IsIn t h.added → IsIn t range
  in-range t has = search (rules, Contains-from_IsIn, Contains-permutation, IsIn-from_Contains, range-is, sorted-from)

  -- and each of them was added
  from-range : (t : Transition) → IsIn t range → IsIn t h.added
  from-range t has = search (rules, Contains-from_IsIn, Contains-permutation, IsIn-from_Contains, IsPermutation-sym, range-is, sorted-from)

  -- their bytes ascend
  ascending : IsStrictlyIncreasing (transition_bytes range)
  ascending =
      subst (λ (ts : List Transition). IsStrictlyIncreasing (transition_bytes ts)) (sym range-is)
      (sorted-ascends h.added s.sorted
      (AllPairs-from_IsOrdered (λ (a b : Transition). a.byte ≢ b.byte) h.added h.apart) sorted-from s.order)

  -- the patterns before the end of the string have no byte after it
  whole' : (k : ℕ) → site.queued.from ≤ k → k < site.patterns_end
      → byte_at site.sorted (length (string site)) k ≡ None
  whole' k a c = subst (λ (n : ℕ). byte_at site.sorted n k ≡ None) (sym long) (site.ends.whole k a c)

  -- and the first one after them has
  other' : site.patterns_end < site.queued.to → byte_at site.sorted (length (string site)) site.patterns_end
      ≢ None
  other' l = subst (λ (n : ℕ). byte_at site.sorted n site.patterns_end ≢ None) (sym long) (site.ends.other l)

  -- there is a transition by a byte exactly if it makes a node
  transition-node : (t : Transition) → IsIn t h.added
      → is_node site.kind site.patterns (string site ++ plain_byte site.ignores_case t.byte ∷ []) ≡ true
  transition-node t has =
      let m = h.by_patterns t has in
      let inside : m.at < length site.sorted =
      (omega (arith, h.waits.range.within, m.high)) in
      let front = (h.waits.range.begins m.at inside).0
      ((omega (arith, site.ends.later, m.low)), m.high) in
      pattern-node site.kind site.patterns site.sorted site.ready.order m.at
      (string site ++ plain_byte site.ignores_case t.byte ∷ []) inside
      (starts_with-push (key_at site.sorted m.at) (string site) (plain_byte site.ignores_case t.byte) front
      (subst (λ (n : ℕ). byte_at site.sorted n m.at ≡ Some (plain_byte site.ignores_case t.byte)) (sym long) m.byte))

  -- and each byte that makes a node has a transition
  node-transition : (b : ℕ)
      → is_node site.kind site.patterns (string site ++ plain_byte site.ignores_case b ∷ []) ≡ true
      → Contains (transition_bytes range) b
  node-transition b node =
      let m =
      some_node site.kind site.patterns site.sorted site.ready.order (string site)
      (plain_byte site.ignores_case b) node in
      let there =
      (h.waits.range.begins m.0 m.1).1
      (starts_with-front (key_at site.sorted m.0) (string site) (plain_byte site.ignores_case b) m.2) in
      let byte = starts_with-last (key_at site.sorted m.0) (string site) (plain_byte site.ignores_case b) m.2 in
      elim (cases_lt m.0 site.patterns_end) [
        | inl before ↦ absurd (let none = whole' m.0 there.0 before in cc)
        | inr le ↦
            let t =
            h.covered m.0 (plain_byte site.ignores_case b) b le there.1
            (subst (λ (n : ℕ). byte_at site.sorted n m.0 ≡ Some (plain_byte site.ignores_case b)) long byte) refl
            in
            subst (Contains (transition_bytes range)) t.by
            (Contains-from_IsIn t.transition.byte (transition_bytes range)
            (IsIn-map (λ (x : Transition). x.byte) t.transition range (in-range t.transition t.among)))
      ]

  -- so the transitions are by the bytes by which an anchored search goes on
  branches : (b : ℕ) → Contains (transition_bytes range) b ↔
      (step site.kind site.patterns Yes (Some (string site)) (plain_byte site.ignores_case b) ≢ None)
  branches b = (
    (λ has none.
        let t =
        IsIn-from_map (λ (x : Transition). x.byte) b range (IsIn-from_Contains b (transition_bytes range) has)
        in
        let node = transition-node t.0 (from-range t.0 t.1) in
        let some = transition_target-is site.kind site.patterns (string site) (plain_byte site.ignores_case t.0.byte) node in
        let same =
        ap (λ (x : ℕ). step site.kind site.patterns Yes (Some (string site)) (plain_byte site.ignores_case x)) t.2 in
        absurd (cc)),
    (λ some. node-transition b
        (transition_target-node site.kind site.patterns (string site) (plain_byte site.ignores_case b) some)),
  )

  -- and each leads where it goes on
  leads : (k : ℕ) (t : Transition) → slice_get range k ≡ Some t
      → slice_get (nodes_of site.sorted queue) t.target
      ≡ Some (step site.kind site.patterns Yes (Some (string site)) (plain_byte site.ignores_case t.byte))
  leads k t e = grind (arith, common_steps, from-range t (IsIn-place t range k e), IsIn-place t range k e, transition-node)

  -- the states that were whole stay what they are
  pub still-meant : AreStates
      (grown_view site.kind site.ignores_case site.patterns site.sorted transitions queue) site.states
  still-meant =
      AreStates-more
      (grown_view site.kind site.ignores_case site.patterns site.sorted site.transitions queue) transitions
      s.sorted split (nodes_of site.sorted queue)
      (λ k v e. e) site.states (omega arith) h.meant

  -- the failure target decides the link
  pub link-due : LinkIsDue (grown_view site.kind site.ignores_case site.patterns site.sorted transitions queue)
      (length site.states) (string site) site.queued.fail
  link-due = grind (arith, common_steps)

  -- the state that stands for the string
  abbrev pub whole_state : ℕ → State
  whole_state link = record {
    transitions = length site.transitions;
    transitions_end = length transitions;
    fail = site.queued.fail;
    patterns = site.queued.from;
    patterns_end = site.patterns_end;
    output_link = link;
    depth = site.queued.depth;
  }

  -- the trie has branched: the state is whole
  pub has-branched : {link : ℕ}
      → Links (grown_view site.kind site.ignores_case site.patterns site.sorted transitions queue)
      (length site.states) (Some (string site)) link
      → HasBranched site.kind site.ignores_case site.patterns site.sorted site.states site.queue site.queued
      (whole_state link) transitions queue
  has-branched {link} links = record {
    grown = IsGrown-later (omega arith) (omega (arith, as-many)) h.grown;
    meant = still-meant;
    represents = record {
      ordered = omega (arith, ap length split, length-append site.transitions s.sorted);
      listed = omega arith;
      ascending = ascending;
      branches = branches;
      leads = leads;
      small = λ k t e. h.small t (from-range t (IsIn-place t range k e));
      fails = h.waits.fails;
      unanchored = h.waits.unanchored;
      back = h.waits.back;
      patterns_ordered = site.ends.later;
      within = (let w = h.waits.range.within in let m = length-map site.sorted (λ (q : Keyed). q.number) in
          omega arith);
      patterns = range-equal_to site.kind site.patterns site.sorted site.ready.order
          (string site) site.queued.from site.queued.to h.waits.range site.patterns_end site.ends.later
          site.ends.within whole' other';
      links = links;
      long = sym long;
      outer = λ l. let m = long in outer l site.ready.next;
      inner = λ l. omega (arith, long, h.waits.inner l);
    };
    kept = h.kept;
  }
    where
      as-many : length transitions ≡ length unsorted
      as-many = grind (arith, common_steps, length_permutation h.added s.sorted sorted-from)

      outer : length site.states < FIRST_INNER
          → IsNext site.kind site.patterns site.sorted site.queue (length site.states) site.queued
          → length (string site) ≡ 0
      outer l (inl start) = long ∙ start.depth
      outer l (inr later) = absurd (omega (arith, later.number))
