-- Where packed states are placed: each at the place of its number, and no two at the same place.
use Rattle.ac_util.proofs.Prelude.{◌≡◌, ◌≢◌, ℕ, ◌+◌, ◌<◌, ◌≤◌, Bool, true, false, List, [], ◌∷◌, length, None, Some, refl, sym, ◌∙◌, arith, inl, inr, slice_get, slice_index_or, cases_lt, false≢true, slice_get_within}
use Rattle.ac_engines.specs.Prelude.{IsNode, No, Node, Yes, START, plain_of, AreReady, ContiguousView, Dense, before, Format, format_for, front_end, has_matches, number_at, One, packed_of, Packer, place_at, Places, places_of, size_at, size_of, Sparse, packed_at, packed_state, words_of_state}
use Rattle.ac_util.specs.declared.search.Anchored.{Anchored}
use Rattle.ac_util.proofs.NodeCount.{inner_nodes-has}
use Rattle.ac_engines.proofs.Numbered.{place-inner, place-start}
use Rattle.ac_engines.proofs.PackedSums.{total-grows}
use Rattle.ac_engines.proofs.PlanSums.{takes}

module _ (f : Packer) (nodes : List Node) (ready : AreReady f nodes) (words : List ℕ) where
  -- what is packed, and where
  abbrev packed : ContiguousView
  packed = packed_of f.plan nodes f.numbers words

  abbrev places : Places
  places = places_of f.plan nodes f.numbers

  -- a string has a state of the trie, and its number is the place of that
  pub record HasPlace (anchored : Anchored) (w : List ℕ) : Type 0 where
    pub state : ℕ
    pub reached : START ≤ state
    pub named : slice_get nodes state ≡ Some (Some w)
    pub number : number_at places anchored (Some w) ≡ place_at f.plan nodes state
    pub spells : packed_state f nodes state (Some w) ≡ packed_at packed places anchored (Some w)

  numbered : (s : ℕ) (u : Node) → slice_get nodes s ≡ Some u → slice_index_or f.numbers s 0 ≡ place_at f.plan nodes s
  numbered s u named = ready.places.each s (slice_get_within nodes s u named)

  pub has-place : (anchored : Anchored) (w : List ℕ)
      → IsNode f.plan.trie.built.kind (plain_of f.plan.trie.built) (Some w) → HasPlace anchored w
  has-place No [] node =
      let start = ready.may.are_nodes.start in
      record {
        state = 2;
        reached = omega arith;
        named = start;
        number = place-start f.plan.trie nodes ready.may.are_nodes f.numbers ready.places.count ∙ numbered 2 (Some []) start;
        spells = refl;
      }
  has-place Yes [] node =
      let start = ready.may.are_nodes.anchored_start in
      record { state = 3; reached = omega arith; named = start; number = numbered 3 (Some []) start; spells = refl }
  has-place anchored (x ∷ w) node =
      let in_list = inner_nodes-has f.plan.trie.built.kind (plain_of f.plan.trie.built) (x ∷ w) node (λ e. absurd cc) in
      let (s, at) = ready.may.are_nodes.numbered.each (x ∷ w) in_list in
      record {
        state = s;
        reached = let inner = at.inner in omega arith;
        named = at.named;
        number = inner anchored
            ∙ place-inner f.plan.trie nodes ready.may.are_nodes f.numbers s (x ∷ w) ready.places.count at.inner at.named
            ∙ numbered s (Some (x ∷ w)) at.named;
        spells = refl;
      }
    where
      inner : (anchored : Anchored) → number_at places anchored (Some (x ∷ w)) ≡ places.place (x ∷ w)
      inner No = refl
      inner Yes = refl

-- each form takes some words
words-some : (format : Format) (classes transitions matches : ℕ) → 0 < words_of_state format classes transitions matches
words-some Dense classes transitions matches = omega arith
words-some One classes transitions matches = omega arith
words-some Sparse classes transitions matches = omega arith

module _ (f : Packer) (nodes : List Node) (ready : AreReady f nodes) where
  -- where the states begin that have matches, and the others
  abbrev side : Bool → ℕ
  side true = size_of f.plan nodes None
  side false = front_end f.plan nodes

  -- where a state is placed: in front or after, and no other state has a place before its words end
  pub record IsPlacedAt (s : ℕ) (t : Bool) : Type 0 where
    pub begins : place_at f.plan nodes s ≡ side t + before f.plan nodes t s
    pub ends : place_at f.plan nodes s < side t + before f.plan nodes t (s + 1)
    pub front_within : t ≡ true → place_at f.plan nodes s < front_end f.plan nodes

  -- each state takes some words
  size-some : (u : Node) → 0 < size_of f.plan nodes u
  size-some u = words-some (format_for f.plan u) _ _ _

  pub placed-at : (s : ℕ) (u : Node) → 2 ≤ s → slice_get nodes s ≡ Some u → (t : Bool) → t ≡ has_matches f.plan nodes u
      → IsPlacedAt s t
  placed-at s u reached named true is =
      let step = takes f.plan nodes s u reached named true (size_of f.plan nodes u) is refl in
      let below = slice_get_within nodes s u named in
      record {
        begins = step.place;
        ends = omega (arith, step.place, step.front, size-some u);
        front_within = λ matched. omega (
          arith,
          step.place,
          step.front,
          size-some u,
          total-grows (size_at f.plan nodes true) (s + 1) (length nodes) (omega (arith, below)),
        );
      }
  placed-at s u reached named false is =
      let step = takes f.plan nodes s u reached named false (size_of f.plan nodes u) is refl in
      record {
        begins = step.place;
        ends = omega (arith, step.place, step.back, size-some u);
        front_within = λ matched. absurd (false≢true matched);
      }

  -- two states on one side have two places
  places-beside : (s t : ℕ) (b : Bool) → s < t → IsPlacedAt s b → IsPlacedAt t b
      → place_at f.plan nodes s ≢ place_at f.plan nodes t
  places-beside s t b earlier at then e =
      omega (arith, total-grows (size_at f.plan nodes b) (s + 1) t (omega arith), at.ends, then.begins)

  -- and so have any two
  places-apart : (s t : ℕ) (u v : Node) → 2 ≤ s → s < t → slice_get nodes s ≡ Some u → slice_get nodes t ≡ Some v
      → place_at f.plan nodes s ≢ place_at f.plan nodes t
  places-apart s t u v reached earlier named other e =
      by (has_matches f.plan nodes u) (has_matches f.plan nodes v) refl refl
    where
      by : (a b : Bool) → a ≡ has_matches f.plan nodes u → b ≡ has_matches f.plan nodes v → ⊥
      by true true is js =
          places-beside s t true earlier (placed-at s u reached named true is) (placed-at t v (omega arith) other true js) e
      by false false is js =
          places-beside s t false earlier (placed-at s u reached named false is) (placed-at t v (omega arith) other false js) e
      by true false is js =
          let inside = (placed-at s u reached named true is).front_within refl in
          let begins = (placed-at t v (omega arith) other false js).begins in
          omega arith
      by false true is js =
          let begins = (placed-at s u reached named false is).begins in
          let ends = (placed-at t v (omega arith) other true js).front_within refl in
          omega arith

  -- states at one place are one state
  pub one-place : (s t : ℕ) (u v : Node) → 2 ≤ s → 2 ≤ t → slice_get nodes s ≡ Some u → slice_get nodes t ≡ Some v
      → place_at f.plan nodes s ≡ place_at f.plan nodes t → s ≡ t
  one-place s t u v first second named there same =
      elim (cases_lt s t) [
        | inl less ↦ absurd (places-apart s t u v first less named there same)
        | inr no_less ↦ elim (cases_lt t s) [
          | inl less ↦ absurd (places-apart t s v u second less there named (sym same))
          | inr no_more ↦ omega (arith, no_less, no_more)
        ]
      ]
