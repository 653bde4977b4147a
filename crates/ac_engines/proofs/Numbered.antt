-- Where the rows of the states of a trie stand.
use Rattle.ac_util.proofs.Prelude.{common_steps, ◌≡◌, ◌≢◌, ℕ, zero, suc, ◌<◌, ◌≤◌, List, [], length, slice_index_or, arith, None, Some, slice_get, rules, slice_get_within}
use Rattle.ac_engines.specs.Prelude.{Node, AreNodes, plain_of, Trie, Filling, HasRow, first_row_in}
use Rattle.ac_util.proofs.NodeCount.{inner_nodes-only}
use Rattle.ac_engines.proofs.Places.{place-at}

module _ (trie : Trie) (nodes : List Node) (h : AreNodes trie nodes) where
  -- the state of a string that isn't empty stands after the starts, and is the only one
  pub inner-string : (s : ℕ) (w : List ℕ) → 4 ≤ s → slice_get nodes s ≡ Some (Some w) → w ≢ []
  inner-string s w inner named =
      let (node, some) = inner_nodes-only trie.built.kind (plain_of trie.built) w
      (h.numbered.only s w (record { inner = inner; named = named })) in
      some

  -- none after the starts is the dead one
  pub inner-alive : (s : ℕ) → 4 ≤ s → slice_get nodes s ≢ Some None
  inner-alive s inner dead =
      let (w, number) = h.numbered.node s inner (slice_get_within nodes s None dead) in
      let named = number.named in
      absurd cc

  first-inner : (s : ℕ) (w : List ℕ) → 4 ≤ s → slice_get nodes s ≡ Some (Some w)
      → (t : ℕ) → t < s → slice_get nodes t ≢ Some (Some w)
  first-inner s w inner named zero before same = let dead = h.dead in absurd cc
  first-inner s w inner named (suc zero) before same = let dead = h.unreached in absurd cc
  first-inner s w inner named (suc (suc zero)) before same = search (rules, inner-string)
  first-inner s w inner named (suc (suc (suc zero))) before same = search (rules, inner-string)
  first-inner s w inner named (suc (suc (suc (suc t)))) before same =
      let once = h.numbered.once (suc (suc (suc (suc t)))) s w (record { inner = omega arith; named = same })
      (record { inner = inner; named = named }) in
      omega arith

  -- its row is the one of its state
  pub place-inner : (numbers : List ℕ) (s : ℕ) (w : List ℕ) → length numbers ≡ length nodes → 4 ≤ s
      → slice_get nodes s ≡ Some (Some w) → first_row_in nodes numbers w ≡ slice_index_or numbers s 0
  place-inner numbers s w count inner named = place-at nodes numbers w s count named (first-inner s w inner named)

  -- the empty string has that of the unanchored start
  pub place-start : (numbers : List ℕ) → length numbers ≡ length nodes
      → first_row_in nodes numbers [] ≡ slice_index_or numbers 2 0
  place-start numbers count = search (rules, place-at)

-- a string that isn't empty stands after the starts
pub after-starts : (trie : Trie) (nodes : List Node) → AreNodes trie nodes → (s : ℕ) (w : List ℕ) → w ≢ []
    → slice_get nodes s ≡ Some (Some w) → 4 ≤ s
after-starts trie nodes h zero w some named = let dead = h.dead in absurd cc
after-starts trie nodes h (suc zero) w some named = let dead = h.unreached in absurd cc
after-starts trie nodes h (suc (suc zero)) w some named = let start = h.start in absurd (some cc)
after-starts trie nodes h (suc (suc (suc zero))) w some named = let start = h.anchored_start in absurd (some cc)
after-starts trie nodes h (suc (suc (suc (suc s)))) w some named = omega arith

module _ (f : Filling) (nodes : List Node) (size : ℕ) where
  -- the rows of a string begin at the number of its state
  pub place-row : (s : ℕ) (w : List ℕ) → HasRow f nodes size s w
      → first_row_in nodes f.numbers w ≡ slice_index_or f.numbers s 0
  place-row s w h =
      grind (
        arith,
        common_steps,
        place-start f.trie nodes h.may.are_nodes f.numbers h.may.laid.count,
        place-inner f.trie nodes h.may.are_nodes f.numbers s w h.may.laid.count,
      )
