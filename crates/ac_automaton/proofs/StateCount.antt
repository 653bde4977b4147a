-- A trie has as many states as there are nodes: each node has one state, and a build is refused only where
-- there are too many.
use Rattle.ac_util.proofs.Prelude.{◌≡◌, ◌≢◌, ℕ, zero, suc, ◌+◌, ◌<◌, ◌≤◌, Bool, true, List, [], ◌∷◌, ◌++◌, map, length, get_or, inl, inr, refl, ap, sym, ◌∙◌, subst, arith, Some, None, slice_get, Contains, rules, length-map, length_push, slice_get-get_or, slice_get-map, slice_get_within, common_steps}
use Rattle.ac_automaton.specs.Prelude.{BuildError, GREATEST, inner_nodes, is_node, MatchKind, Node, plain_byte, state_count, step, Yes, AreStates, byte_at, FIRST_INNER, grown_view, IsGrown, IsNotPushed, IsNumberOf, IsOrder, IsRangeOf, IsRefused, Keyed, fallback, nodes_of, NumbersNodes, QueuedState, Represents, START, State, state_at, too_many_states, Transition, transition_bytes, transitions_of, word}
use Rattle.ac_util.proofs.Lists.{IsIn, IsOrdered, IsIn-from_Contains, IsIn-from_map, Contains-from_IsIn}
use Rattle.ac_util.proofs.NodeCount.{inner_nodes-has, inner_nodes-only, inner_nodes-apart}
use Rattle.ac_util.proofs.Participants.{is_node-front}
use Rattle.ac_automaton.proofs.Branched.{transition_target-is, some_node}
use Rattle.ac_automaton.proofs.Branching.{IsBranching, IsRun, Site, child-range, string, word-length}
use Rattle.ac_automaton.proofs.Child.{fresh}
use Rattle.ac_automaton.proofs.Counting.{IsOrdered-from_AllPairs, length-le-from_IsOrdered}
use Rattle.ac_automaton.proofs.Grown.{IsInner, nodes-cases}
use Rattle.ac_automaton.proofs.Places.{ImageAt, get-from_map, place-of, IsIn-place, IsOrdered-places}
use Rattle.ac_automaton.proofs.Ranges.{pattern-node}
use Rattle.ac_automaton.proofs.Prefixes.{starts_with-last}

-- and else they are not
pub too_many_states-none : (kind : MatchKind) (patterns : List (List ℕ))
    → state_count kind patterns ≤ GREATEST + 1 → too_many_states kind patterns ≡ None
too_many_states-none kind patterns few = grind (arith, common_steps)

-- a string that isn't empty is a shorter one with one more byte
last-byte : (x : ℕ) (u : List ℕ) → (w : List ℕ) × (b : ℕ) × (x ∷ u ≡ w ++ b ∷ [])
last-byte x [] = ([], x, refl)
last-byte x (y ∷ u) = let r = last-byte y u in (x ∷ r.0, r.1, ap (λ (w : List ℕ). x ∷ w) r.2)

module _ (kind : MatchKind) (patterns : List (List ℕ)) (sorted : List Keyed)
    (order : IsOrder kind patterns sorted)
    (whole : ℕ) (transitions : List Transition) (queue : List QueuedState)
    (grown : IsGrown kind patterns sorted whole transitions queue) where
  -- the strings of the queue
  abbrev words : List (List ℕ)
  words = map (word sorted) queue

  -- each of them is that of a state in the queue
  word-at : (k : ℕ) (w : List ℕ) → slice_get words k ≡ Some w → ImageAt (word sorted) queue k w
  word-at k w e = get-from_map (word sorted) queue k w e

  -- no two are the same
  words-apart : IsOrdered (λ u w. u ≢ w) words
  words-apart = IsOrdered-places (λ u w. u ≢ w) words (λ j k u w l e f same.
      let q = word-at j u e in
      let r = word-at k w f in
      let at = grown.apart j k q.from r.from q.there r.there (q.is ∙ same ∙ sym r.is) in
      absurd (omega arith))

  -- a string with a range is a node
  range-node : (u : List ℕ) (from to : ℕ) → IsRangeOf sorted u from to → from < to
      → is_node kind patterns u ≡ true
  range-node u from to range some = grind (arith, common_steps, pattern-node kind patterns sorted order from u)

  -- each string of the queue is an inner node
  word-inner : (u : List ℕ) → IsIn u words → IsIn u (inner_nodes kind patterns)
  word-inner u h =
      let k = place-of u words h in
      let q = word-at k.place u k.there in
      let w = grown.waits k.place q.from q.there in
      let node = range-node (word sorted q.from) q.from.from q.from.to w.range (w.some (omega arith)) in
      let some : word sorted q.from ≢ [] =
      (λ e. let l = word-length w in let m = ap length e in
      let d = w.inner (omega arith) in absurd (omega arith)) in
      subst (λ (v : List ℕ). IsIn v (inner_nodes kind patterns)) q.is
      (IsIn-from_Contains (word sorted q.from) (inner_nodes kind patterns)
      (inner_nodes-has kind patterns (word sorted q.from) node some))

  -- an inner number is that of a place in the queue
  inner-at : (s : ℕ) (v : Node) → FIRST_INNER ≤ s → slice_get (nodes_of sorted queue) s ≡ Some v
      → IsInner sorted queue s v
  inner-at s v inner e = search (rules, nodes-cases)

  -- its string is that of the state at the place
  inner-is : (s : ℕ) (u : List ℕ) (i : IsInner sorted queue s (Some u)) → u ≡ word sorted i.queued
  inner-is s u i = let e : Some u ≡ Some (word sorted i.queued) = i.node in cc

  -- so the string of an inner number is one of the queue
  word-of_inner : (s : ℕ) (u : List ℕ) → IsInner sorted queue s (Some u) → IsIn u words
  word-of_inner s u i = search (rules, IsIn-place, slice_get-map (word sorted) queue i.place)

  -- with a further string the queue would have more states than there are numbers
  pub too-many : (u : List ℕ) (b from to : ℕ) → IsRangeOf sorted (u ++ b ∷ []) from to → from < to
      → ((k : ℕ) (q : QueuedState) → slice_get queue k ≡ Some q → word sorted q ≡ u ++ b ∷ [] → ⊥)
      → FIRST_INNER + length queue ≡ GREATEST + 1 → GREATEST + 1 < state_count kind patterns
  too-many u b from to range some fresh full =
      let node = range-node (u ++ b ∷ []) from to range some in
      let longer : u ++ b ∷ [] ≢ [] =
      (λ e. let l = length_push u b in let m = ap length e in absurd (omega arith)) in
      let here =
      IsIn-from_Contains (u ++ b ∷ []) (inner_nodes kind patterns)
      (inner_nodes-has kind patterns (u ++ b ∷ []) node longer) in
      let count = length-le-from_IsOrdered ((u ++ b ∷ []) ∷ words) (inner_nodes kind patterns) (
        (λ w h same. let k = place-of w words h in let q = word-at k.place w k.there in
            fresh k.place q.from q.there (q.is ∙ sym same)),
        words-apart,
      )
      (λ w h. elim h [
        | inl e ↦ subst (λ (v : List ℕ). IsIn v (inner_nodes kind patterns)) e here
        | inr later ↦ word-inner w later
      ]) in
      omega (arith, length-map queue (word sorted))

  module _ (ignores_case : Bool)
      (settled : (place depth b : ℕ) → byte_at sorted depth place ≡ Some b → plain_byte ignores_case b ≡ b)
      (states : List State)
      (meant : AreStates (grown_view kind ignores_case patterns sorted transitions queue) states)
      (all : length states ≡ FIRST_INNER + length queue) where
    -- the string has a state, with this number
    record HasNumber (u : List ℕ) : Type 0 where
      pub number : ℕ
      pub named : slice_get (nodes_of sorted queue) number ≡ Some (Some u)

    -- where the state of a string stands, and the byte that makes a longer node of it
    module _ (w : List ℕ) (b s : ℕ) (at : slice_get (nodes_of sorted queue) s ≡ Some (Some w))
        (longer : is_node kind patterns (w ++ b ∷ []) ≡ true) where
      -- the byte is a plain one
      settled-byte : plain_byte ignores_case b ≡ b
      settled-byte = search (rules, some_node, starts_with-last, some_node kind patterns sorted order w b longer)

      -- an anchored search goes on by it
      onto : step kind patterns Yes (Some w) (plain_byte ignores_case b) ≡ Some (w ++ b ∷ [])
      onto = ap (step kind patterns Yes (Some w)) settled-byte ∙ transition_target-is kind patterns w b longer

      -- the state stands for its string
      represented : Represents (grown_view kind ignores_case patterns sorted transitions queue) s (Some w)
          (state_at states s)
      represented =
          let count = length-map queue (λ (q : QueuedState). Some (word sorted q)) in
          let named = slice_get_within (nodes_of sorted queue) s (Some w) at in
          meant.each s (Some w) (omega arith) at

      -- a transition by the byte leads to the state of the longer string
      leads-on : (t : Transition) (k : ℕ)
          → slice_get (transitions_of transitions (state_at states s)) k ≡ Some t → t.byte ≡ b
          → slice_get (nodes_of sorted queue) t.target ≡ Some (Some (w ++ b ∷ []))
      leads-on t k e is = search (rules, onto, represented)

      -- and there is one
      onward : HasNumber (w ++ b ∷ [])
      onward =
          let own = transitions_of transitions (state_at states s) in
          let some : step kind patterns Yes (Some w) (plain_byte ignores_case b) ≢ None =
          λ none. let e = sym onto ∙ none in
          absurd (cc) in
          let t =
          IsIn-from_map (λ (x : Transition). x.byte) b own
          (IsIn-from_Contains b (transition_bytes own) ((represented.branches b).1 some)) in
          let k = place-of t.0 own t.1 in
          record { number = t.0.target; named = leads-on t.0 k.place k.there t.2 }

    -- each node has a state
    reaches : (n : ℕ) (u : List ℕ) → length u ≡ n → is_node kind patterns u ≡ true → HasNumber u
    reaches zero [] l node = record { number = START; named = refl }
    reaches zero (x ∷ u) l node = absurd (omega arith)
    reaches (suc n) [] l node = absurd (omega arith)
    reaches (suc n) (x ∷ u) l node =
        let last = last-byte x u in
        let longer : is_node kind patterns (last.0 ++ last.1 ∷ []) ≡ true =
        subst (λ (v : List ℕ). is_node kind patterns v ≡ true) last.2 node in
        let len : length last.0 ≡ n =
        (omega (arith, length_push last.0 last.1, ap length last.2)) in
        let s = reaches n last.0 len (is_node-front kind patterns last.0 last.1 longer) in
        subst HasNumber (sym last.2) (onward last.0 last.1 s.number s.named longer)

    -- and each nonempty one an inner state
    inner-number : (u : List ℕ) → Contains (inner_nodes kind patterns) u
        → (s : ℕ) × IsNumberOf (nodes_of sorted queue) s u
    inner-number u h = grind (arith, common_steps, reaches (length u) u refl (inner_nodes-only kind patterns u h).0)

    -- so each inner node is a string of the queue
    inner-word : (u : List ℕ) → IsIn u (inner_nodes kind patterns) → IsIn u words
    inner-word u h =
        let n = inner-number u (Contains-from_IsIn u (inner_nodes kind patterns) h) in
        word-of_inner n.0 u (inner-at n.0 (Some u) n.1.inner n.1.named)

    -- a whole trie has as many states as there are
    state-count : length states ≡ state_count kind patterns
    state-count =
        let l = length-map queue (word sorted) in
        let few = length-le-from_IsOrdered words (inner_nodes kind patterns) words-apart word-inner in
        let many = length-le-from_IsOrdered (inner_nodes kind patterns) words
        (IsOrdered-from_AllPairs (λ u w. u ≢ w) (inner_nodes kind patterns) (inner_nodes-apart kind patterns))
        inner-word in
        omega arith

    -- so its numbers are those of the nodes, each of one
    pub numbers-nodes : NumbersNodes kind patterns (nodes_of sorted queue)
    numbers-nodes = record {
      count = (let n = state-count in let l = length-map queue (λ (q : QueuedState). Some (word sorted q)) in
          omega arith);
      node = λ s inner within.
          let known = slice_get-get_or (nodes_of sorted queue) s None within in
          let i = inner-at s (get_or (nodes_of sorted queue) s None) inner known in (
            word sorted i.queued,
            record { inner = inner; named = known ∙ ap (λ (v : Node). Some v) i.node },
          );
      only = λ s u n.
          Contains-from_IsIn u (inner_nodes kind patterns)
          (word-inner u (word-of_inner s u (inner-at s (Some u) n.inner n.named)));
      each = inner-number;
      once = λ s t u m n.
          let i = inner-at s (Some u) m.inner m.named in
          let j = inner-at t (Some u) n.inner n.named in
          let same = sym (inner-is s u i) ∙ inner-is t u j in
          omega (arith, grown.apart i.place j.place i.queued j.queued i.waits j.waits same, i.number, j.number);
    }

-- a child for which there is no number is one node too many
module _ (site : Site) {place end b : ℕ} {transitions : List Transition} {queue : List QueuedState}
    (h : IsBranching site place transitions queue) (run : IsRun site place end b)
    (fail : ℕ) (fails : slice_get (nodes_of site.sorted queue) fail
    ≡ Some (fallback site.kind site.patterns (Some (string site ++ b ∷ [])))) where
  pub refused : (e : BuildError) → IsNotPushed queue e → IsRefused (too_many_states site.kind site.patterns) e
  refused e (inl memory) = inl memory.0
  refused e (inr full) =
      search (
        rules,
        too-many site.kind site.patterns site.sorted site.ready.order (length site.states + 1) transitions queue h.grown (string site) b place end
            (child-range site h run) run.some (fresh site h run fail fails) full.1,
        child-range site h run,
      )
