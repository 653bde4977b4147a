-- What stays as a trie grows.
use Rattle.ac_util.proofs.Prelude.{◌≡◌, ℕ, zero, suc, ◌+◌, ◌<◌, ◌≤◌, ◌≢◌, List, [], ◌∷◌, ◌++◌, length, map, ◌⊎◌, length-append, inl, inr, ap, sym, ◌∙◌, subst, arith, Some, None, get_or, slice_get, Contains, ◌↔◌, rules, IsStrictlyIncreasing, cases_lt, get_or_append_left, get_or_push, length-take-le, length_push, slice_get-map, slice_get-get_or, slice_get_within, common_steps}
use Rattle.ac_automaton.specs.Prelude.{depth, MatchKind, Node, AreStates, FIRST_INNER, IsGrown, key_at, Keyed, TrieView, nodes_of, transition_target, QueuedState, Represents, START, State, state_at, Transition, transition_bytes, transitions_of, word}
use Rattle.ac_util.proofs.PiecesLemmas.{slice_range-append}
use Rattle.ac_automaton.proofs.Places.{get-from_map, get-same}

-- what a number says of its node: dead, the start, or the string of a state in the queue
pub record IsDeadNumber (s : ℕ) (v : Node) : Type 0 where
  pub below : s < START
  pub node : v ≡ None

pub record IsStartNumber (s : ℕ) (v : Node) : Type 0 where
  pub from : START ≤ s
  pub below : s < FIRST_INNER
  pub node : v ≡ Some []

pub record IsInner (sorted : List Keyed) (queue : List QueuedState) (s : ℕ) (v : Node) : Type 0 where
  pub place : ℕ
  pub number : s ≡ FIRST_INNER + place
  pub queued : QueuedState
  pub waits : slice_get queue place ≡ Some queued
  pub node : v ≡ Some (word sorted queued)

module _ (sorted : List Keyed) where
  -- a string of the queue keeps its place
  words_more : (queue more : List QueuedState) (k : ℕ) (v : Node)
      → slice_get (map (λ p. Some (word sorted p)) queue) k ≡ Some v
      → slice_get (map (λ p. Some (word sorted p)) (queue ++ more)) k ≡ Some v
  words_more [] more k v e = absurd (cc)
  words_more (p ∷ queue) more zero v e = e
  words_more (p ∷ queue) more (suc k) v e = words_more queue more k v e

  -- a number keeps its node
  pub nodes-more : (queue more : List QueuedState) (s : ℕ) (v : Node)
      → slice_get (nodes_of sorted queue) s ≡ Some v → slice_get (nodes_of sorted (queue ++ more)) s ≡ Some v
  nodes-more queue more zero v e = e
  nodes-more queue more (suc zero) v e = e
  nodes-more queue more (suc (suc zero)) v e = e
  nodes-more queue more (suc (suc (suc zero))) v e = e
  nodes-more queue more (suc (suc (suc (suc k)))) v e = words_more queue more k v e

  -- the states from the fifth on stand for the strings of the queue
  pub nodes-inner : (queue : List QueuedState) (k : ℕ) (p : QueuedState) → slice_get queue k ≡ Some p
      → slice_get (nodes_of sorted queue) (FIRST_INNER + k) ≡ Some (Some (word sorted p))
  nodes-inner queue k p e = search (rules, slice_get-map)

  -- a number is one of the two that stand for the dead node, of a start, or of a state in the queue
  pub nodes-cases : (queue : List QueuedState) (s : ℕ) (v : Node) → slice_get (nodes_of sorted queue) s ≡ Some v
      → IsDeadNumber s v ⊎ (IsStartNumber s v ⊎ IsInner sorted queue s v)
  nodes-cases queue zero v e = inl (record { below = omega arith; node = (cc) })
  nodes-cases queue (suc zero) v e = inl (record { below = omega arith; node = (cc) })
  nodes-cases queue (suc (suc zero)) v e = grind (arith, common_steps)
  nodes-cases queue (suc (suc (suc zero))) v e = grind (arith, common_steps)
  nodes-cases queue (suc (suc (suc (suc k)))) v e =
      let r = get-from_map (λ p. Some (word sorted p)) queue k v e in
      inr (inr (record { place = k; number = omega arith; queued = r.from; waits = r.there; node = sym r.is }))

-- deeper nodes have greater numbers
pub nodes-rising : {kind : MatchKind} {patterns : List (List ℕ)} {sorted : List Keyed} {whole : ℕ}
    {transitions : List Transition} {queue : List QueuedState} → IsGrown kind patterns sorted whole transitions queue
    → (s t : ℕ) (u v : Node) → slice_get (nodes_of sorted queue) s ≡ Some u → slice_get (nodes_of sorted queue) t ≡ Some v
    → s ≤ t → depth u ≤ depth v
nodes-rising {sorted = sorted} {queue = queue} grown s t u v e f le = by (nodes-cases sorted queue s u e) (nodes-cases sorted queue t v f)
  where
    deep : (k : ℕ) (p : QueuedState) → slice_get queue k ≡ Some p → length (word sorted p) ≡ p.depth
    deep k p there = length-take-le p.depth (key_at sorted p.from) (grown.waits k p there).deep

    by : IsDeadNumber s u ⊎ (IsStartNumber s u ⊎ IsInner sorted queue s u)
        → IsDeadNumber t v ⊎ (IsStartNumber t v ⊎ IsInner sorted queue t v) → depth u ≤ depth v
    by (inl dead) other = let n = ap depth dead.node in omega arith
    by (inr (inl start)) other = let n = ap depth start.node in omega arith
    by (inr (inr inner)) (inl dead) = let b = dead.below in let n = inner.number in absurd (omega arith)
    by (inr (inr inner)) (inr (inl start)) = let b = start.below in let n = inner.number in absurd (omega arith)
    by (inr (inr inner)) (inr (inr other)) =
        let a = ap depth inner.node in let b = ap depth other.node in
        let c = deep inner.place inner.queued inner.waits in let d = deep other.place other.queued other.waits in
        let r = grown.rising inner.place other.place inner.queued other.queued inner.waits other.waits
        (let n = inner.number in let m = other.number in omega arith) in
        omega (arith, a, b, c, d, r)

-- it is still so for more states, and for other transitions that are no more
pub IsGrown-later : {kind : MatchKind} {patterns : List (List ℕ)} {sorted : List Keyed} {m n : ℕ}
    {transitions others : List Transition} {queue : List QueuedState} → m ≤ n → length others ≤ length transitions
    → IsGrown kind patterns sorted m transitions queue → IsGrown kind patterns sorted n others queue
IsGrown-later more few grown = search rules

-- the meaning with other transitions and nodes
abbrev pub more_meaning : TrieView → List Transition → List Node → TrieView
more_meaning g transitions nodes = record {
  kind = g.kind;
  ignores_case = g.ignores_case;
  patterns = g.patterns;
  order = g.order;
  transitions = transitions;
  nodes = nodes;
}

-- with more transitions, and with nodes of which each keeps its number
module _ (g : TrieView) (transitions more : List Transition) (split : transitions ≡ g.transitions ++ more)
    (nodes : List Node)
    (keeps : (s : ℕ) (v : Node) → slice_get g.nodes s ≡ Some v → slice_get nodes s ≡ Some v) where
  -- a state that is whole stays what it is
  pub Represents-more : (s : ℕ) (v : Node) (t : State) → Represents g s v t
      → Represents (more_meaning g transitions nodes) s v t
  Represents-more s v t r =
      let e : transitions_of transitions t ≡ transitions_of g.transitions t =
      ap (λ (ts : List Transition). transitions_of ts t) split
      ∙ slice_range-append g.transitions more t.transitions t.transitions_end r.ordered r.listed in
      let longer : t.transitions_end ≤ length transitions =
      (omega (arith, r.listed, ap length split, length-append g.transitions more)) in
      record {
        ordered = r.ordered;
        listed = longer;
        ascending = subst (λ (ts : List Transition). IsStrictlyIncreasing (transition_bytes ts))
            (sym e) r.ascending;
        branches = λ b. subst
            (λ (ts : List Transition). Contains (transition_bytes ts) b ↔ (transition_target g v b ≢ None)) (sym e)
            (r.branches b);
        leads =
            λ k next h. keeps _ _ (r.leads k next (sym (ap (λ (ts : List Transition). slice_get ts k) e) ∙ h));
        small = λ k next h. r.small k next (sym (ap (λ (ts : List Transition). slice_get ts k) e) ∙ h);
        fails = keeps _ _ r.fails;
        unanchored = r.unanchored;
        back = r.back;
        patterns_ordered = r.patterns_ordered;
        within = r.within;
        patterns = r.patterns;
        links = record {
          linked = r.links.linked;
          leads = keeps _ _ r.links.leads;
          back = r.links.back;
          finds = r.links.finds;
          useful = r.links.useful;
        };
        long = r.long;
        outer = r.outer;
        inner = r.inner;
      }

  -- so do all of them
  pub AreStates-more : (states : List State) → length g.nodes ≤ length nodes
      → AreStates g states → AreStates (more_meaning g transitions nodes) states
  AreStates-more states longer a = record {
    dead = keeps 0 None a.dead;
    named = omega (arith, a.named);
    each = λ s v l e.
        let h = slice_get_within nodes s v e in
        let known = slice_get-get_or g.nodes s None (omega (arith, a.named)) in
        let same = get-same nodes s (get_or g.nodes s None) v (keeps s (get_or g.nodes s None) known) e in
        Represents-more s v (state_at states s) (a.each s v l (known ∙ ap (λ (w : Node). Some w) same));
  }

-- one more state is whole
module _ (g : TrieView) (states : List State) (v : Node) (t : State) where
  -- then all of them are
  pub AreStates-push : AreStates g states → slice_get g.nodes (length states) ≡ Some v
      → Represents g (length states) v t
      → AreStates g (states ++ t ∷ [])
  AreStates-push a node r = record {
    dead = a.dead;
    named = omega (arith, slice_get_within g.nodes (length states) v node, length_push states t);
    each = λ s w l e. each s w e (cases_lt s (length states)) (omega (arith, length_push states t));
  }
    where
      each : (s : ℕ) (w : Node) → slice_get g.nodes s ≡ Some w → (s < length states) ⊎ (length states ≤ s)
          → s ≤ length states
          → Represents g s w (state_at (states ++ t ∷ []) s)
      each s w e (inl before) l =
          subst (λ (u : State). Represents g s w u)
          (sym (get_or_append_left states (t ∷ []) (state_at [] 0) s before)) (a.each s w before e)
      each s w e (inr at) l = search (rules, get-same, get_or_push)

-- a state that was read by its number
pub state-read : (states : List State) (t : State) (k s : ℕ) → k ≡ s → s < length states → t ≡ get_or states k t
    → t ≡ state_at states s
state-read states t k s same l is = grind (arith, common_steps)
