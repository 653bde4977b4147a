-- The numbers of the first rows of a trie's states are those of a DFA's states in unanchored searches.
use Rattle.ac_util.proofs.Prelude.{◌≡◌, ◌≢◌, ◌⊎◌, ℕ, zero, suc, ◌^◌, ◌<◌, ◌≤◌, List, length, inl, inr, refl, ap, sym, ◌∙◌, arith, Some, slice_get, slice_index_or, cases_lt, get_or_from_slice_get, slice_get-get_or, slice_get_within}
use Rattle.ac_engines.specs.Prelude.{Both, IsNode, No, Node, StartKind, Unanchored, ANCHORED_START, AreNodes, IsNumbered, matches_of, plain_of, Trie, dfa_automaton, anchored_shift, DfaView, Filling, first_row_in, IsDfa, IsDfaState, list_at, MayFill}
use Rattle.ac_util.specs.declared.search.StartKind.TheVariants.{Anchored as AnchoredAlone}
use Rattle.ac_engines.proofs.DfaPlaces.{same-place}
use Rattle.ac_engines.proofs.NodeBytes.{named-node, named-place, stated}
use Rattle.ac_engines.proofs.Numbered.{place-row}
use Rattle.ac_engines.proofs.Renumbered.{IsNumbering, IsNumbersState}

-- the unanchored row of a string is the first
pub shift-none : (start_kind : StartKind) (stride : ℕ) → anchored_shift start_kind No stride ≡ 0
shift-none Both stride = refl
shift-none Unanchored stride = refl
shift-none AnchoredAlone stride = refl

module _ (f : Filling) (nodes : List Node) (size : ℕ) (may : MayFill f nodes size) (t : DfaView)
    (built : t.built ≡ record f.trie.built { start_kind = f.start_kind })
    (is : IsDfa t (first_row_in nodes f.numbers)) where
  abbrev trie : Trie
  trie = f.trie

  are : AreNodes trie nodes
  are = may.are_nodes

  -- a string's first row begins at the number of its state
  stated-place : (s : ℕ) (w : List ℕ) → IsNumbered nodes s w → (s ≡ 2) ⊎ (4 ≤ s)
      → first_row_in nodes f.numbers w ≡ slice_index_or f.numbers s 0
  stated-place s w named place = place-row f nodes size s w (record { may = may; named = named; place = place })

  -- a state of the DFA has the number of a state
  dfa-each : (n : ℕ) (w : List ℕ) → IsDfaState t No n (Some w) → IsNumbersState nodes f.numbers w n
  dfa-each n w stands =
      let kind = ap (λ (b : _). b.kind) built in
      let plains = ap plain_of built in
      let node : IsNode trie.built.kind (plain_of trie.built) (Some w) = rw (sym kind, sym plains) stands.node in
      let there = stated trie nodes are w node in
      let within = slice_get_within nodes there.state (Some w) there.named in
      let count = may.laid.count in
      let places = same-place trie nodes are t kind plains (ap (λ (b : _). b.ignores_case) built) stands.supported
      (first_row_in nodes f.numbers) stands.place is stands.is_dfa w stands.node in
      let row = stated-place there.state w there.named there.place in
      let none = shift-none t.built.start_kind (2 ^ t.stride2) in
      let is_number = stands.number in
      let number : slice_index_or f.numbers there.state 0 ≡ n = omega (arith, row, places, none, is_number) in
      record {
        state = there.state;
        other = λ e. elim there.place [ inl start ↦ omega (arith, start, e) | inr inner ↦ omega (arith, inner, e) ];
        named = there.named;
        number = slice_get-get_or f.numbers there.state 0 (omega (arith, within, count)) ∙ ap (λ (k : ℕ). Some k) number;
      }

  -- where the row of a state begins that isn't one of the first two, by whether it is the start
  begins-late : (s : ℕ) → (s ≡ 2) ⊎ (4 ≤ s) → s < length f.numbers → 0 < slice_index_or f.numbers s 0
  begins-late s (inl start) below =
      let first = ap (λ (k : ℕ). slice_index_or f.numbers k 0) start ∙ may.laid.start in
      omega (arith, first, may.laid.positive)
  begins-late s (inr inner) below = omega (arith, may.laid.inner s inner below, may.laid.positive)

  -- no two states have one number
  one-state : (s t : ℕ) → (s ≡ 2) ⊎ (4 ≤ s) → (t ≡ 2) ⊎ (4 ≤ t) → s < length f.numbers → t < length f.numbers
      → slice_index_or f.numbers s 0 ≡ slice_index_or f.numbers t 0 → s ≡ t
  one-state s t (inl start) (inl first) below within same = start ∙ sym first
  one-state s t (inl start) (inr inner) below within same =
      let first = ap (λ (k : ℕ). slice_index_or f.numbers k 0) start ∙ may.laid.start in
      absurd (omega (arith, first, same, may.laid.inner t inner within, may.laid.positive))
  one-state s t (inr inner) (inl start) below within same =
      let first = ap (λ (k : ℕ). slice_index_or f.numbers k 0) start ∙ may.laid.start in
      absurd (omega (arith, first, same, may.laid.inner s inner below, may.laid.positive))
  one-state s t (inr first) (inr second) below within same = elim (cases_lt s t) [
    | inl less ↦ absurd (elim (may.laid.apart s t first less within) [
      | inl before ↦ omega (arith, before, same, may.laid.positive)
      | inr after ↦ omega (arith, after, same, may.laid.positive)
    ])
    | inr no_less ↦ elim (cases_lt t s) [
      | inl less ↦ absurd (elim (may.laid.apart t s second less below) [
        | inl before ↦ omega (arith, before, same, may.laid.positive)
        | inr after ↦ omega (arith, after, same, may.laid.positive)
      ])
      | inr no_more ↦ omega (arith, no_less, no_more)
    ]
  ]

  dfa-only : (s n : ℕ) (w : List ℕ) → s ≢ ANCHORED_START → slice_get f.numbers s ≡ Some n
      → IsDfaState t No n (Some w) → IsNumbered nodes s w
  dfa-only s n w other number stands =
      let there = dfa-each n w stands in
      let below = slice_get_within f.numbers s n number in
      let within = slice_get_within f.numbers there.state n there.number in
      let place = named-place trie nodes are there.state w there.named there.other in
      let is_number = get_or_from_slice_get f.numbers s n 0 number in
      let its_number = get_or_from_slice_get f.numbers there.state n 0 there.number in
      let late = begins-late there.state place within in
      let here = by s other (λ zeros. omega (arith, zeros, is_number, its_number, late)) in
      ap (slice_get nodes) (one-state s there.state here place below within (is_number ∙ sym its_number)) ∙ there.named
    where
      by : (s : ℕ) → s ≢ ANCHORED_START → (slice_index_or f.numbers s 0 ≡ 0 → ⊥) → (s ≡ 2) ⊎ (4 ≤ s)
      by zero other some = absurd (some may.laid.dead)
      by (suc zero) other some = absurd (some may.laid.unreached)
      by (suc (suc zero)) other some = inl refl
      by (suc (suc (suc zero))) other some = absurd (other refl)
      by (suc (suc (suc (suc s)))) other some = inr (omega arith)

  -- so they are the numbers of the automaton's states
  pub dfa-numbering : IsNumbering trie nodes f.numbers (dfa_automaton t)
  dfa-numbering = record {
    stands = λ m v stands w n state.
        let row = stated-place state.state w state.named (named-place trie nodes are state.state w state.named state.other) in
        let is_number = get_or_from_slice_get f.numbers state.state n 0 state.number in
        let none = shift-none t.built.start_kind (2 ^ t.stride2) in
        record {
          place = first_row_in nodes f.numbers;
          is_dfa = is;
          supported = stands.supported;
          node = rw built (named-node trie nodes are state.state w state.named);
          number = omega (arith, row, is_number, none);
        };
    only = dfa-only;
    each = dfa-each;
    lists = λ n w stands.
        ap (list_at t) stands.number ∙ stands.is_dfa.lists No w stands.supported stands.node
        ∙ ap (λ (b : _). matches_of b No (Some w)) built;
  }
