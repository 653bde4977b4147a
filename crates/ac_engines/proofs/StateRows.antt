-- Which states of a trie have rows in a DFA, and that these stand apart.
use Rattle.ac_util.proofs.Prelude.{◌≡◌, ◌≢◌, ◌⊎◌, inl, inr, ℕ, zero, suc, ◌+◌, ◌*◌, ◌<◌, ◌≤◌, List, [], ◌∷◌, length, slice_index_or, refl, arith, Some, None, slice_get, rules, common_steps}
use Rattle.ac_engines.specs.Prelude.{alphabet_len, Both, class_at, failure, MatchKind, No, Node, StartKind, Unanchored, anchored_shift, Filling, HasRow, MayFill, row_at, row_input, width}
use Rattle.ac_util.specs.declared.search.StartKind.TheVariants.{Anchored as AnchoredAlone}
use Rattle.ac_engines.proofs.Numbered.{inner-alive, place-inner, place-start}

-- an unanchored row stands at the place of its state
pub anchored_shift-none : (start_kind : StartKind) (stride : ℕ) → anchored_shift start_kind No stride ≡ 0
anchored_shift-none Both stride = refl
anchored_shift-none Unanchored stride = refl
anchored_shift-none AnchoredAlone stride = refl

module _ (f : Filling) (nodes : List Node) (size : ℕ) (may : MayFill f nodes size) where
  -- a class stands in its row
  pub narrow : (b : ℕ) → b < 256 → class_at f.classes b < f.stride
  narrow b byte = let below = may.below b byte in let room = may.room in omega arith

  -- the number of a state is where the unanchored row of its node begins
  pub row-of : (t : ℕ) (u : Node) → slice_get nodes t ≡ Some u → t ≢ 3
      → slice_index_or f.numbers t 0 ≡ row_at (row_input f nodes) No u
  row-of zero None named other = may.laid.dead
  row-of zero (Some w) named other = let dead = may.are_nodes.dead in absurd cc
  row-of (suc zero) None named other = may.laid.unreached
  row-of (suc zero) (Some w) named other = let dead = may.are_nodes.unreached in absurd cc
  row-of (suc (suc zero)) None named other = let start = may.are_nodes.start in absurd cc
  row-of (suc (suc zero)) (Some w) named other = search (rules, anchored_shift-none, place-start)
  row-of (suc (suc (suc zero))) u named other = absurd (other refl)
  row-of (suc (suc (suc (suc t)))) None named other =
      absurd (inner-alive f.trie nodes may.are_nodes (suc (suc (suc (suc t)))) (omega arith) named)
  row-of (suc (suc (suc (suc t)))) (Some w) named other =
      grind (arith, common_steps, place-inner f.trie nodes may.are_nodes f.numbers (suc (suc (suc (suc t)))) w may.laid.count (omega arith) named)

  -- a state that stands for a string has a row, but for the start of anchored searches
  pub has-row : (t : ℕ) (w : List ℕ) → slice_get nodes t ≡ Some (Some w) → t ≢ 3 → HasRow f nodes size t w
  has-row zero w named other = let dead = may.are_nodes.dead in absurd cc
  has-row (suc zero) w named other = let dead = may.are_nodes.unreached in absurd cc
  has-row (suc (suc zero)) w named other = record { may = may; named = named; place = inl refl }
  has-row (suc (suc (suc zero))) w named other = absurd (other refl)
  has-row (suc (suc (suc (suc t)))) w named other = record { may = may; named = named; place = inr (omega arith) }

  -- each state after the starts has a row
  pub row-at : (s : ℕ) → 4 ≤ s → s < length nodes → (w : List ℕ) × HasRow f nodes size s w
  row-at s inner within =
      let (w, node) = may.are_nodes.numbered.node s inner within in
      (w, record { may = may; named = node.named; place = inr inner })

  -- the rows of two states stand apart
  pub rows-apart : (s t : ℕ) → (s ≡ 2) ⊎ (4 ≤ s) → 4 ≤ t → s < t → t < length f.numbers
      → (slice_index_or f.numbers s 0 + width (row_input f nodes) ≤ slice_index_or f.numbers t 0)
      ⊎ (slice_index_or f.numbers t 0 + width (row_input f nodes) ≤ slice_index_or f.numbers s 0)
  rows-apart s t (inl start) inner order there = grind (arith, common_steps)
  rows-apart s t (inr other) inner order there = may.laid.apart s t other order there

  -- and after that of the dead state
  pub row-anchored_shift : (s : ℕ) → (s ≡ 2) ⊎ (4 ≤ s) → s < length f.numbers
      → 2 * f.stride ≤ slice_index_or f.numbers s 0
  row-anchored_shift s (inl start) there = grind (arith, common_steps)
  row-anchored_shift s (inr inner) there = let later = may.laid.inner s inner there in omega arith

  -- a part of a row as long as its classes is apart from another where the rows are
  narrower : (m n : ℕ) → (m + width (row_input f nodes) ≤ n) ⊎ (n + width (row_input f nodes) ≤ m)
      → (m + alphabet_len f.classes ≤ n) ⊎ (n + alphabet_len f.classes ≤ m)
  narrower m n (inl less) = let room = may.room in inl (omega arith)
  narrower m n (inr more) = let room = may.room in inr (omega arith)

  -- the classes of a state and of one after it stand apart, those of the dead state too
  pub classes-apart : (t s : ℕ) → t < s → t ≢ 3 → 4 ≤ s → s < length f.numbers
      → (slice_index_or f.numbers t 0 + alphabet_len f.classes ≤ slice_index_or f.numbers s 0)
      ⊎ (slice_index_or f.numbers s 0 + alphabet_len f.classes ≤ slice_index_or f.numbers t 0)
  classes-apart zero s before other inner within =
      let dead = may.laid.dead in let room = may.room in let after = row-anchored_shift s (inr inner) within in
      inl (omega arith)
  classes-apart (suc zero) s before other inner within = search (rules, row-anchored_shift)
  classes-apart (suc (suc zero)) s before other inner within = narrower _ _ (rows-apart 2 s (inl refl) inner before within)
  classes-apart (suc (suc (suc zero))) s before other inner within = absurd (other refl)
  classes-apart (suc (suc (suc (suc t)))) s before other inner within =
      narrower _ _ (rows-apart (suc (suc (suc (suc t)))) s (inr (omega arith)) inner before within)

  -- and within the table
  pub classes-within : (t : ℕ) → t ≢ 3 → t < length f.numbers → slice_index_or f.numbers t 0 + alphabet_len f.classes ≤ size
  classes-within zero other within = search rules
  classes-within (suc zero) other within = search rules
  classes-within (suc (suc zero)) other within = search rules
  classes-within (suc (suc (suc zero))) other within = absurd (other refl)
  classes-within (suc (suc (suc (suc t)))) other within = search rules

-- the failure target of a string that isn't empty
pub failed-to : (kind : MatchKind) (patterns : List (List ℕ)) (nodes : List Node) (s t : ℕ) (w : List ℕ) → w ≢ []
    → ((x : ℕ) (u : List ℕ) → slice_get nodes s ≡ Some (Some (x ∷ u))
    → slice_get nodes t ≡ Some (failure kind patterns (x ∷ u)))
    → slice_get nodes s ≡ Some (Some w) → slice_get nodes t ≡ Some (failure kind patterns w)
failed-to kind patterns nodes s t [] some target named = absurd (some refl)
failed-to kind patterns nodes s t (x ∷ w) some target named = target x w named
