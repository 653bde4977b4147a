-- The rows of a state and of those to which its own transitions lead.
use Rattle.ac_util.proofs.Prelude.{◌≡◌, ◌≢◌, ℕ, ◌+◌, ◌≤◌, List, [], ◌∷◌, ◌++◌, length, take, slice_set, refl, arith, Some, None, Contains, slice_get, rules, get_or_from_slice_get, slice_get_within, common_steps}
use Rattle.ac_engines.specs.Prelude.{Both, Built, class_at, No, Node, plain_byte, StartKind, Unanchored, Yes, IsOwn, transition_bytes_of, anchored_shift, Filling, HasRow, HasSet, row_at, row_input}
use Rattle.ac_util.specs.declared.search.Anchored.{Anchored}
use Rattle.ac_util.specs.declared.search.StartKind.TheVariants.{Anchored as AnchoredAlone}
use Rattle.ac_util.proofs.ClassLemmas.{stands-from_node}
use Rattle.ac_util.proofs.Lists.{Contains-from_IsIn, IsIn, IsIn-at}
use Rattle.ac_automaton.proofs.Places.{take-next}
use Rattle.ac_engines.proofs.Filled.{transition_bytes_of-only, transition_bytes_of-small}
use Rattle.ac_engines.proofs.Numbered.{after-starts, place-row}
use Rattle.ac_engines.proofs.Setting.{set-more}

-- no row stands further back than the anchored one
pub anchored_shift-most : (start_kind : StartKind) (anchored : Anchored) (stride : ℕ)
    → anchored_shift start_kind anchored stride ≤ anchored_shift start_kind Yes stride
anchored_shift-most Both No stride = omega arith
anchored_shift-most Both Yes stride = omega arith
anchored_shift-most Unanchored anchored stride = omega arith
anchored_shift-most AnchoredAlone anchored stride = omega arith

-- which starts there are says nothing of own transitions
pub transition_bytes_of-starts : (built : Built) (start_kind : StartKind) (u : Node)
    → transition_bytes_of (record built { start_kind = start_kind }) u ≡ transition_bytes_of built u
unfolding transition_bytes_of
transition_bytes_of-starts built start_kind None = refl
transition_bytes_of-starts built start_kind (Some w) = refl

-- what stands at a place is an element
IsIn-slice_get : (x : ℕ) (xs : List ℕ) (k : ℕ) → slice_get xs k ≡ Some x → IsIn x xs
IsIn-slice_get x xs k at =
    IsIn-at x x xs k (slice_get_within xs k x at) (get_or_from_slice_get xs k x x at)

-- a string with one byte more isn't empty
pub longer : (w : List ℕ) (b : ℕ) → w ++ b ∷ [] ≢ []
longer [] b e = absurd cc
longer (x ∷ w) b e = absurd cc

module _ (f : Filling) (nodes : List Node) (size s : ℕ) (w : List ℕ) (h : HasRow f nodes size s w) where
  -- the row of a string lies in the table
  pub row-room : (anchored : Anchored) → row_at (row_input f nodes) anchored (Some w) + f.stride ≤ size
  row-room anchored = grind (arith, common_steps, place-row f nodes size s w h, slice_get_within nodes s (Some w) h.named)

  module _ (index byte next : ℕ) (own : IsOwn f.trie nodes w index byte next) where
    -- an own transition leads to a state that has rows too
    pub next-row : HasRow f nodes size next (w ++ plain_byte f.trie.built.ignores_case byte ∷ [])
    next-row = search (rules, after-starts, longer)

    -- with one own transition more set, one more of the bytes leads on in the row
    pub own-more : (anchored : Anchored) (v : ℕ) (old now : List ℕ) → length now ≡ size
        → v ≡ row_at (row_input f nodes) anchored (Some (w ++ plain_byte f.trie.built.ignores_case byte ∷ []))
        → HasSet (row_input f nodes) anchored w (take index (transition_bytes_of f.trie.built (Some w))) old now
        → HasSet (row_input f nodes) anchored w (take (index + 1) (transition_bytes_of f.trie.built (Some w))) old
        (slice_set now (row_at (row_input f nodes) anchored (Some w) + class_at f.classes byte) v)
    own-more anchored v old now long e set =
        let has : Contains (transition_bytes_of f.trie.built (Some w)) byte = Contains-from_IsIn byte _ (IsIn-slice_get byte _ index own.place) in
        let small = transition_bytes_of-small f.trie.built (Some w) byte has in
        let leads = transition_bytes_of-only f.trie.built (Some w) byte has in
        let stands = stands-from_node f.trie.built.ignores_case f.trie.built.patterns f.trie.built.kind w byte leads in
        let room = row-room anchored in
        let below = h.may.below byte small in
        let fits = h.may.room in
        rw (take-next (transition_bytes_of f.trie.built (Some w)) index byte own.place)
        (set-more (row_input f nodes) anchored w h.may.below
        (take index (transition_bytes_of f.trie.built (Some w))) byte v old now small
        (λ a less same. h.may.apart.own a byte less small stands same) (omega arith) e set)
