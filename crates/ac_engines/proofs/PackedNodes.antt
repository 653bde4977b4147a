-- What the states of a trie spell.
use Rattle.ac_util.proofs.Prelude.{◌≡◌, ◌≢◌, ℕ, zero, suc, ◌<◌, ◌≤◌, List, [], ◌∷◌, ◌++◌, length, slice_index_or, refl, ap, sym, ◌∙◌, arith, Some, None, option_map, ◌&&◌, slice_get, if◌then◌else◌, rules, length-map, slice_get-map, slice_get_within, common_steps, nat_eq}
use Rattle.ac_engines.specs.Prelude.{begins_with_pattern, class_at, failure, is_leftmost, No, Node, plain_byte, Yes, AreNodes, IsOwn, matches_of, transition_bytes_of, plain_of, Trie, AreReady, ContiguousView, Edge, edges_of, FAIL, number_at, packed_of, Packer, Places, places_of, packed_at, packed_state, ANCHORED_START}
use Rattle.ac_util.specs.declared.search.Anchored.{Anchored}
use Rattle.ac_engines.proofs.Numbered.{inner-alive, inner-string, place-inner, place-start}

-- a node that is a string
pub record IsString (u : Node) : Type 0 where
  pub string : List ℕ
  pub is : u ≡ Some string

-- from the starts on each state stands for one
pub string-of : (trie : Trie) (nodes : List Node) → AreNodes trie nodes → (s : ℕ) (u : Node) → 2 ≤ s
    → slice_get nodes s ≡ Some u → IsString u
string-of trie nodes h s (Some w) reached named = record { string = w; is = refl }
string-of trie nodes h zero None reached named = absurd (omega arith)
string-of trie nodes h (suc zero) None reached named = absurd (omega arith)
string-of trie nodes h (suc (suc zero)) None reached named = let start = h.start in absurd cc
string-of trie nodes h (suc (suc (suc zero))) None reached named = let start = h.anchored_start in absurd cc
string-of trie nodes h (suc (suc (suc (suc s)))) None reached named =
    absurd (inner-alive trie nodes h (suc (suc (suc (suc s)))) (omega arith) named)

module _ (p : ContiguousView) (at : Places) where
  -- the transition of a string by a byte
  abbrev pub edge_by : List ℕ → ℕ → Edge
  edge_by w b = record { class = class_at p.classes b; target = at.place (w ++ plain_byte p.built.ignores_case b ∷ []) }

  -- the transitions of a string's state, whether it is a start or not
  pub edges-packed_at : (anchored : Anchored) (w : List ℕ) → (packed_at p at anchored (Some w)).edges ≡ edges_of p at w
  edges-packed_at No [] = refl
  edges-packed_at Yes [] = refl
  edges-packed_at anchored (x ∷ w) = refl

  -- and its matches
  pub matches-packed_at : (anchored : Anchored) (u : Node)
      → (packed_at p at anchored u).matches ≡ matches_of p.built No u
  matches-packed_at anchored None = refl
  matches-packed_at No (Some []) = refl
  matches-packed_at Yes (Some []) = refl
  matches-packed_at anchored (Some (x ∷ w)) = refl

module _ (f : Packer) (nodes : List Node) (h : AreReady f nodes) where
  -- where a state stands that is none of the starts for anchored searches
  pub number-placed : (t : ℕ) (v : Node) → slice_get nodes t ≡ Some v → t ≢ 3
      → slice_index_or f.numbers t 0 ≡ number_at (places_of f.plan nodes f.numbers) No v
  number-placed zero None named other = h.places.each 0 (slice_get_within nodes 0 None named)
  number-placed zero (Some w) named other = let dead = h.may.are_nodes.dead in absurd cc
  number-placed (suc zero) None named other = h.places.each 1 (slice_get_within nodes 1 None named)
  number-placed (suc zero) (Some w) named other = let dead = h.may.are_nodes.unreached in absurd cc
  number-placed (suc (suc zero)) None named other = let start = h.may.are_nodes.start in absurd cc
  number-placed (suc (suc zero)) (Some []) named other =
      sym (place-start f.plan.trie nodes h.may.are_nodes f.numbers h.places.count)
  number-placed (suc (suc zero)) (Some (x ∷ w)) named other = let start = h.may.are_nodes.start in absurd cc
  number-placed (suc (suc (suc zero))) v named other = absurd (other refl)
  number-placed (suc (suc (suc (suc t)))) None named other =
      absurd (inner-alive f.plan.trie nodes h.may.are_nodes (suc (suc (suc (suc t)))) (omega arith) named)
  number-placed (suc (suc (suc (suc t)))) (Some []) named other =
      absurd (inner-string f.plan.trie nodes h.may.are_nodes (suc (suc (suc (suc t)))) [] (omega arith) named refl)
  number-placed (suc (suc (suc (suc t)))) (Some (x ∷ w)) named other =
      sym (place-inner f.plan.trie nodes h.may.are_nodes f.numbers (suc (suc (suc (suc t)))) (x ∷ w) h.places.count
      (omega arith) named)

  -- the failure target of a state after the starts is that of its string
  pub failure-packed_state : (s t : ℕ) (u : Node) → 4 ≤ s → slice_get nodes s ≡ Some u → t ≢ 3
      → ((x : ℕ) (w : List ℕ) → slice_get nodes s ≡ Some (Some (x ∷ w))
      → slice_get nodes t ≡ Some (failure f.plan.trie.built.kind (plain_of f.plan.trie.built) (x ∷ w)))
      → slice_index_or f.numbers t 0 ≡ (packed_state f nodes s u).failure
  failure-packed_state s t None inner named other target =
      let string = (string-of f.plan.trie nodes h.may.are_nodes s None (omega arith) named).is in absurd cc
  failure-packed_state s t (Some []) inner named other target =
      absurd (inner-string f.plan.trie nodes h.may.are_nodes s [] inner named refl)
  failure-packed_state s t (Some (x ∷ w)) inner named other target = number-placed t _ (target x w named) other

  -- by a byte that doesn't lead on no state but the unanchored start leads anywhere
  pub default_target-fails : (s : ℕ) (u : Node) → 2 ≤ s → s ≢ 2 → slice_get nodes s ≡ Some u
      → FAIL ≡ (packed_state f nodes s u).default_target
  default_target-fails s None reached other named =
      let string = (string-of f.plan.trie nodes h.may.are_nodes s None reached named).is in absurd cc
  default_target-fails zero (Some []) reached other named = absurd (omega arith)
  default_target-fails (suc zero) (Some []) reached other named = absurd (omega arith)
  default_target-fails (suc (suc zero)) (Some []) reached other named = absurd (other refl)
  default_target-fails (suc (suc (suc zero))) (Some []) reached other named = refl
  default_target-fails (suc (suc (suc (suc s)))) (Some []) reached other named =
      absurd (inner-string f.plan.trie nodes h.may.are_nodes (suc (suc (suc (suc s)))) [] (omega arith) named refl)
  default_target-fails s (Some (x ∷ w)) reached other named = refl

  -- the unanchored start leads back to itself, or to the dead state where it stops there
  pub default_target-unanchored : (s n : ℕ) (u : Node) → s ≡ 2 → slice_get nodes s ≡ Some u
      → n ≡ (if is_leftmost f.plan.trie.built.kind && begins_with_pattern (plain_of f.plan.trie.built) [] then 0
      else slice_index_or f.numbers s 0)
      → n ≡ (packed_state f nodes s u).default_target
  default_target-unanchored s n None start named e = cc
  default_target-unanchored s n (Some []) start named e = search (rules, place-start f.plan.trie nodes h.may.are_nodes f.numbers h.places.count)
  default_target-unanchored s n (Some (x ∷ w)) start named e = cc

  -- an own transition leads to a state after the starts
  own-inner : (w : List ℕ) (index byte next : ℕ) → IsOwn f.plan.trie nodes w index byte next → 4 ≤ next
  own-inner w index byte next own = grind (arith, common_steps)

  -- and has a place
  pub own-numbered : (w : List ℕ) (index byte next : ℕ) → IsOwn f.plan.trie nodes w index byte next
      → next < length f.numbers
  own-numbered w index byte next own = rw h.places.count (slice_get_within nodes next _ own.leads)

  -- how many transitions are spelled
  pub edges-count : (s : ℕ) (u : Node) → 2 ≤ s → slice_get nodes s ≡ Some u
      → length (packed_state f nodes s u).edges ≡ length (transition_bytes_of f.plan.trie.built u)
  edges-count s None reached named =
      let string = (string-of f.plan.trie nodes h.may.are_nodes s None reached named).is in absurd cc
  edges-count s (Some w) reached named =
      rw (edges-packed_at (packed_of f.plan nodes f.numbers []) (places_of f.plan nodes f.numbers)
      (if nat_eq s ANCHORED_START then Yes else No) w)
      (length-map _ _)

  -- an own transition is spelled at its place
  pub edge-at : (s index byte next : ℕ) (u : Node) → 2 ≤ s → slice_get nodes s ≡ Some u
      → ((w : List ℕ) → slice_get nodes s ≡ Some (Some w) → IsOwn f.plan.trie nodes w index byte next)
      → slice_get (packed_state f nodes s u).edges index
      ≡ Some (record { class = class_at f.plan.classes byte; target = slice_index_or f.numbers next 0 })
  edge-at s index byte next None reached named own =
      let string = (string-of f.plan.trie nodes h.may.are_nodes s None reached named).is in absurd cc
  edge-at s index byte next (Some w) reached named own =
      let is = own w named in
      let p = packed_of f.plan nodes f.numbers [] in
      let at = places_of f.plan nodes f.numbers in
      let place = place-inner f.plan.trie nodes h.may.are_nodes f.numbers next
      (w ++ plain_byte f.plan.trie.built.ignores_case byte ∷ []) h.places.count (own-inner w index byte next is) is.leads in
      rw (edges-packed_at p at (if nat_eq s ANCHORED_START then Yes else No) w, sym place)
      (slice_get-map (edge_by p at w) (transition_bytes_of f.plan.trie.built (Some w)) index ∙ ap (option_map (edge_by p at w)) is.place)
