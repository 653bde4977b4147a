-- What the readers of a trie say of a state that they have read.
use Rattle.ac_util.proofs.Prelude.{◌≡◌, ◌≢◌, ℕ, ◌+◌, ◌-◌, ◌<◌, ◌≤◌, Bool, true, List, length, length-drop, drop, filter, get_or, refl, ◌∙◌, subst, arith, Some, None, slice_get, slice_range, Contains, ◌↔◌, rules, range_with_len, IsStrictlyIncreasing, false≢true, length-map, length-take-le, slice_get-get_or, slice_get-map, slice_get_within, common_steps}
use Rattle.ac_automaton.specs.Prelude.{Node, state_count, HasOwn, IsOwn, IsTrie, leads_on, meaning_of, transition_bytes_of, transition_target, plain_of, Represents, State, Transition, transition_bytes, transitions_of, Trie}
use Rattle.std.proofs.lemmas.List.Kept.{AllPairs-from_increasing}
use Rattle.ac_util.proofs.Lists.{Contains-from_IsIn, IsIn, IsIn-filter, IsIn-from_Contains, IsIn-from_filter, IsIn-from_map, IsIn-range, IsOrdered-filter, IsOrdered-range, IsOrdered-unique}
use Rattle.ac_automaton.proofs.Counting.{IsOrdered-from_AllPairs}
use Rattle.ac_automaton.proofs.Follows.{leads-on, represented}
use Rattle.ac_automaton.proofs.Places.{get-range, place-of}

-- rising numbers below n that are exactly those that pass are all of those
passing : (p : ℕ → Bool) (n : ℕ) (xs : List ℕ) → IsStrictlyIncreasing xs → ((b : ℕ) → IsIn b xs → b < n)
    → ((b : ℕ) → Contains xs b ↔ (p b ≡ true)) → xs ≡ filter p (range_with_len 0 n)
passing p n xs up below by =
    IsOrdered-unique (λ x y. x < y) (λ x y l m. absurd (omega arith)) xs (filter p (range_with_len 0 n))
    (λ b h. IsIn-filter p b (range_with_len 0 n) (IsIn-range b 0 n (omega arith) (omega (arith, below b h)))
    ((by b).0 (Contains-from_IsIn b xs h)))
    (λ b h. IsIn-from_Contains b xs ((by b).1 (IsIn-from_filter p b (range_with_len 0 n) h).1))
    (IsOrdered-from_AllPairs (λ x y. x < y) xs (AllPairs-from_increasing xs up))
    (IsOrdered-filter (λ x y. x < y) p (range_with_len 0 n) (IsOrdered-range 0 n))

-- a part of a list is as long as its bounds say
length-part : {X : Type 0} (xs : List X) (a b : ℕ) → b ≤ length xs → length (slice_range xs a b) ≡ b - a
length-part xs a b within = length-take-le (b - a) (drop a xs) (omega (arith, length-drop a xs))

-- the state stands for some node
pub record IsRead (trie : Trie) (s : ℕ) (t : State) : Type 0 where
  pub nodes : List Node
  pub node : Node
  pub represents : Represents (meaning_of trie nodes) s node t

module _ (trie : Trie) (nodes : List Node) where
  -- a byte leads on exactly if a state's own transitions go on by it
  goes-on : (u : Node) (b : ℕ) → (transition_target (meaning_of trie nodes) u b ≢ None) ↔ (leads_on trie.built u b ≡ true)
  goes-on None b = ((λ some. absurd (some refl)), (λ e. absurd (false≢true e)))
  goes-on (Some w) b = grind (arith, common_steps)

  -- a state that was read stands for the node of its number
  pub reads : (is_trie : IsTrie trie nodes) (s : ℕ) (u : Node) → slice_get nodes s ≡ Some u → (t : State)
      → t ≡ get_or trie.states s t → Represents (meaning_of trie nodes) s u t
  reads is_trie s u named t is = search (rules, represented, slice_get_within)

  -- a state that was read by a number below the count stands for some node
  pub is-read : (is_trie : IsTrie trie nodes) (s : ℕ) → s < state_count trie.built.kind (plain_of trie.built)
      → (t : State) → t ≡ get_or trie.states s t → IsRead trie s t
  is-read is_trie s numbered t is =
      grind (arith, common_steps, reads is_trie s (get_or nodes s None) (slice_get-get_or nodes s None (omega arith)) t is)

  -- what a state says that stands for a node
  module _ (s : ℕ) (u : Node) (t : State) (r : Represents (meaning_of trie nodes) s u t) where
    -- its transitions are by the bytes that lead on
    own-is : transition_bytes (transitions_of trie.transitions t) ≡ transition_bytes_of trie.built u
    unfolding transition_bytes_of
    own-is =
        let own = transitions_of trie.transitions t in
        passing (leads_on trie.built u) 256 (transition_bytes own) r.ascending
        (λ b h.
        let from = IsIn-from_map (λ (x : Transition). x.byte) b own h in
        let at = place-of from.0 own from.1 in
        subst (λ (x : ℕ). x < 256) from.2 (r.small at.place from.0 at.there))
        (λ b. (
          (λ has. (goes-on u b).0 ((r.branches b).0 has)),
          (λ leads. (r.branches b).1 ((goes-on u b).1 leads)),
        ))

    -- so it has as many
    pub own-length : t.transitions_end - t.transitions ≡ length (transition_bytes_of trie.built u)
    own-length = search (rules, length-map, length-part, own-is)

  -- and each place below their count is that of an own one
  pub has-own : (is_trie : IsTrie trie nodes) (s : ℕ) → s < state_count trie.built.kind (plain_of trie.built)
      → (t : State) → t ≡ get_or trie.states s t
      → (index : ℕ) → index < t.transitions_end - t.transitions → HasOwn trie s index
  has-own is_trie s numbered t is index within =
      grind (
        arith,
        common_steps,
        own-length s (get_or nodes s None) t (reads is_trie s (get_or nodes s None) (slice_get-get_or nodes s None (omega arith)) t is),
        reads is_trie s (get_or nodes s None) (slice_get-get_or nodes s None (omega arith)) t is,
        slice_get-get_or nodes s None (omega arith),
      )

  -- the transition at a place is by the byte at the place, and leads to the longer node
  pub own-read : (s : ℕ) (w : List ℕ) (t : State) → Represents (meaning_of trie nodes) s (Some w) t
      → (index : ℕ) → index < t.transitions_end - t.transitions → (next : Transition)
      → slice_get trie.transitions (t.transitions + index) ≡ Some next
      → IsOwn trie nodes w index next.byte next.target
  own-read s w t r index within next at =
      grind (
        arith,
        common_steps,
        get-range trie.transitions t.transitions t.transitions_end index (omega arith),
        leads-on (meaning_of trie nodes) trie.transitions refl s (Some w) t r next.byte index next.target (get-range trie.transitions t.transitions
            t.transitions_end index (omega arith) ∙ at),
        own-is s (Some w) t r,
        slice_get-map,
      )

-- the place is one among the transitions of a state, and so among those of all states
pub record IsPlace (trie : Trie) (t : State) (index : ℕ) : Type 0 where
  pub among : index < t.transitions_end - t.transitions
  pub listed : t.transitions + index < length trie.transitions

-- a place among the bytes that lead on from a state is one
pub own-place : (trie : Trie) (s index : ℕ) → HasOwn trie s index → (t : State) → t ≡ get_or trie.states s t
    → IsPlace trie t index
own-place trie s index own t is =
    grind (
      arith,
      common_steps,
      reads trie own.nodes own.are_nodes.is_trie s own.node own.named t is,
      own-length trie own.nodes s own.node t (reads trie own.nodes own.are_nodes.is_trie s own.node own.named t is),
    )
