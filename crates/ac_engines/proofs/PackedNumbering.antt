-- The numbers of a trie's states are those of the packed states.
use Rattle.ac_util.proofs.Prelude.{◌≡◌, ◌≢◌, ◌⊎◌, ℕ, zero, suc, ◌<◌, ◌≤◌, List, [], length, inl, inr, ap, sym, ◌∙◌, arith, Some, None, slice_get, slice_index_or, cases_lt, get_or_from_slice_get, slice_get-get_or, slice_get_within}
use Rattle.ac_engines.specs.Prelude.{IsNode, No, Node, ANCHORED_START, AreNodes, IsNumbered, matches_of, plain_of, Trie, contiguous_automaton, AreReady, ContiguousView, IsContiguous, IsContiguousState, match_list_at, Packer, Places, places_of}
use Rattle.ac_engines.proofs.NodeBytes.{named-node, named-place, stated}
use Rattle.ac_engines.proofs.Numbered.{place-inner, place-start}
use Rattle.ac_engines.proofs.PackedPlaces.{place-number, same-place}
use Rattle.ac_engines.proofs.PlacedStates.{one-place}
use Rattle.ac_engines.proofs.Renumbered.{IsNumbering, IsNumbersState}

module _ (f : Packer) (nodes : List Node) (ready : AreReady f nodes) (p : ContiguousView)
    (built : p.built ≡ f.plan.trie.built) (is : IsContiguous p (places_of f.plan nodes f.numbers)) where
  abbrev trie : Trie
  trie = f.plan.trie

  abbrev at : Places
  at = places_of f.plan nodes f.numbers

  are : AreNodes trie nodes
  are = ready.may.are_nodes

  -- a string stands where its state is placed
  stated-place : (s : ℕ) (w : List ℕ) → IsNumbered nodes s w → (s ≡ 2) ⊎ (4 ≤ s)
      → at.place w ≡ slice_index_or f.numbers s 0
  stated-place s w named (inr inner) = place-inner trie nodes are f.numbers s w ready.places.count inner named
  stated-place s w named (inl start) =
      let empty : w ≡ [] = let begins = are.start in let here = ap (slice_get nodes) start in cc in
      ap at.place empty ∙ place-start trie nodes are f.numbers ready.places.count
      ∙ ap (λ (k : ℕ). slice_index_or f.numbers k 0) (sym start)

  -- a number of the packed states is that of a state
  packed-each : (n : ℕ) (w : List ℕ) → IsContiguousState p No n (Some w) → IsNumbersState nodes f.numbers w n
  packed-each n w stands =
      let node : IsNode trie.built.kind (plain_of trie.built) (Some w) = rw (sym built) stands.node in
      let there = stated trie nodes are w node in
      let within = slice_get_within nodes there.state (Some w) there.named in
      let count = ready.places.count in
      let number : slice_index_or f.numbers there.state 0 ≡ n =
      sym (stated-place there.state w there.named there.place)
      ∙ same-place trie nodes are p (ap (λ (b : _). b.kind) built) (ap plain_of built) (ap (λ (b : _). b.ignores_case) built)
      at stands.at is stands.is_contiguous w stands.node
      ∙ sym (stands.number ∙ place-number trie nodes are p (ap (λ (b : _). b.kind) built) (ap plain_of built) (ap (λ (b : _). b.ignores_case) built) stands.at w) in
      record {
        state = there.state;
        other = λ e. elim there.place [ inl start ↦ omega (arith, start, e) | inr inner ↦ omega (arith, inner, e) ];
        named = there.named;
        number = slice_get-get_or f.numbers there.state 0 (omega (arith, within, count)) ∙ ap (λ (k : ℕ). Some k) number;
      }

  -- no two of these states have one number
  one-state : (s t : ℕ) (u v : Node) → 2 ≤ s → 2 ≤ t → slice_get nodes s ≡ Some u → slice_get nodes t ≡ Some v
      → slice_index_or f.numbers s 0 ≡ slice_index_or f.numbers t 0 → s ≡ t
  one-state s t u v first second named there same =
      one-place f nodes ready s t u v first second named there
      (sym (ready.places.each s (slice_get_within nodes s u named)) ∙ same
      ∙ ready.places.each t (slice_get_within nodes t v there))

  packed-only : (s n : ℕ) (w : List ℕ) → s ≢ ANCHORED_START → slice_get f.numbers s ≡ Some n
      → IsContiguousState p No n (Some w) → IsNumbered nodes s w
  packed-only s n w other number stands =
      let at_state = packed-each n w stands in
      let within = slice_get_within f.numbers s n number in
      let count = ready.places.count in
      let below : s < length nodes = omega (arith, within, count) in
      let is_number = get_or_from_slice_get f.numbers s n 0 number in
      let state_number = get_or_from_slice_get f.numbers at_state.state n 0 at_state.number in
      let late = stands.is_contiguous.after No w stands.node in
      elim (cases_lt s 2) [
        | inl early ↦ absurd (omega (arith, is_number, stands.number, late, first-zero s early below))
        | inr from ↦ elim (cases_lt at_state.state 2) [
          | inl early ↦ absurd (omega (
            arith,
            state_number,
            stands.number,
            late,
            first-zero at_state.state early (slice_get_within nodes at_state.state (Some w) at_state.named),
          ))
          | inr after ↦
              let same = one-state s at_state.state _ (Some w) from after (slice_get-get_or nodes s None below) at_state.named
              (is_number ∙ sym state_number) in
              ap (slice_get nodes) same ∙ at_state.named
        ]
      ]
    where
      first-zero : (s : ℕ) → s < 2 → s < length nodes → slice_index_or f.numbers s 0 ≡ 0
      first-zero zero early below = ready.places.each 0 below
      first-zero (suc zero) early below = ready.places.each 1 below
      first-zero (suc (suc s)) early below = absurd (omega arith)

  -- so they are the numbers of the automaton's states
  pub packed-numbering : IsNumbering trie nodes f.numbers (contiguous_automaton p)
  packed-numbering = record {
    stands = λ m v stands w n state. record {
      at = at;
      is_contiguous = is;
      node = rw built (named-node trie nodes are state.state w state.named);
      number = sym (get_or_from_slice_get f.numbers state.state n 0 state.number)
          ∙ sym (stated-place state.state w state.named (place-of-state state.state w state.named state.other))
          ∙ sym (place-number trie nodes are p (ap (λ (b : _). b.kind) built) (ap plain_of built) (ap (λ (b : _). b.ignores_case) built) at w);
    };
    only = packed-only;
    each = packed-each;
    lists = λ n w stands.
        ap (match_list_at p) stands.number ∙ stands.is_contiguous.lists No w stands.node
        ∙ ap (λ (b : _). matches_of b No (Some w)) built;
  }
    where
      place-of-state : (s : ℕ) (w : List ℕ) → IsNumbered nodes s w → s ≢ ANCHORED_START → (s ≡ 2) ⊎ (4 ≤ s)
      place-of-state s w named other = named-place trie nodes are s w named other
