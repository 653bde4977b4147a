-- The rows of a node and their lists, by the starts that a DFA has.
use Rattle.ac_util.proofs.Prelude.{◌≡◌, ◌⊎◌, inl, inr, ℕ, zero, suc, ◌+◌, ◌-◌, ◌*◌, ◌<◌, ◌≤◌, List, [], ◌∷◌, ◌++◌, slice_index_or, refl, ap, sym, ◌∙◌, arith, Some, None}
use Rattle.ac_engines.specs.Prelude.{Both, Built, No, Node, start_refusal, StartKind, Unanchored, Yes, IsTrieState, listed_within, matches_of, stands-lists, Trie, anchored_shift, first_lists, row_list, row_lists, rows_each, table_rows}
use Rattle.std.proofs.Math.Nat.{mul-div_cancel}
use Rattle.ac_util.specs.declared.search.Anchored.{Anchored}
use Rattle.ac_util.specs.declared.search.StartKind.TheVariants.{Anchored as AnchoredAlone}
use Rattle.ac_util.proofs.Advance.{append_nil_left}

-- a state that lists nothing has no matches, unanchored or anchored
pub unmatched : (trie : Trie) (s : ℕ) (u : Node) → IsTrieState trie s u
    → listed_within trie.order trie.states s s ≡ [] → (anchored : Anchored) → matches_of trie.built anchored u ≡ []
unmatched trie s u h none No = sym (stands-lists trie No s u h) ∙ none
unmatched trie s u h none Yes =
    let own = stands-lists trie Yes s u h in
    append_nil_left (matches_of trie.built Yes u) own.passed_over (sym own.first ∙ none)

module _ (start_kind : StartKind) (built : Built) where
  -- both starts have a list
  pub both-starts : start_kind ≡ Both
      → [] ∷ [] ∷ row_lists start_kind built (Some []) ≡ first_lists start_kind built
  both-starts is = rw is refl

  -- after that of one start stands an empty one
  pub one-start : (start_kind ≡ Unanchored) ⊎ (start_kind ≡ AnchoredAlone)
      → ([] ∷ [] ∷ row_lists start_kind built (Some [])) ++ [] ∷ [] ≡ first_lists start_kind built
  one-start (inl is) = rw is refl
  one-start (inr is) = rw is refl

-- where the anchored row stands, counted in rows
pub anchored_shift-rows : (start_kind : StartKind) (anchored : Anchored) (row stride : ℕ)
    → row * stride + anchored_shift start_kind anchored stride ≡ (row + anchored_shift start_kind anchored 1) * stride
anchored_shift-rows Both No row stride = omega arith
anchored_shift-rows Both Yes row stride = omega arith
anchored_shift-rows Unanchored anchored row stride = omega arith
anchored_shift-rows AnchoredAlone anchored row stride = omega arith

-- the rows of a state, counted in entries
pub each-rows : (start_kind : StartKind) (row stride : ℕ)
    → (row + rows_each start_kind) * stride ≡ row * stride + (stride + anchored_shift start_kind Yes stride)
each-rows Both row stride = omega arith
each-rows Unanchored row stride = omega arith
each-rows AnchoredAlone row stride = omega arith

-- what a state's rows take of the room that is left
pub each-room : (start_kind : StartKind) (states s : ℕ) → s < states
    → rows_each start_kind * (states - s) ≡ rows_each start_kind + rows_each start_kind * (states - (s + 1))
each-room Both states s left = omega (arith, left)
each-room Unanchored states s left = omega (arith, left)
each-room AnchoredAlone states s left = omega (arith, left)

-- nothing is left where all states have their rows
pub none-left : (start_kind : StartKind) (states : ℕ) → rows_each start_kind * (states - states) ≡ 0
none-left Both states = omega arith
none-left Unanchored states = omega arith
none-left AnchoredAlone states = omega arith

-- a DFA has the first four rows, and those of each other state
pub table_rows-each : (start_kind : StartKind) (states : ℕ) → 4 ≤ states
    → table_rows start_kind states ≡ 4 + rows_each start_kind * (states - 4)
table_rows-each Both states enough = omega (arith, enough)
table_rows-each Unanchored states enough = omega (arith, enough)
table_rows-each AnchoredAlone states enough = omega (arith, enough)

-- the list at a number is that of its row
pub listed-row : (lists : List (List ℕ)) (row stride : ℕ) → 0 < stride
    → row_list lists stride (row * stride) ≡ slice_index_or lists row []
listed-row lists row stride positive = ap (λ k. slice_index_or lists k []) (mul-div_cancel row positive)

-- an anchored row is one of a state's rows
pub anchored_shift-each : (start_kind : StartKind) (anchored : Anchored) → anchored_shift start_kind anchored 1 < rows_each start_kind
anchored_shift-each Both No = omega arith
anchored_shift-each Both Yes = omega arith
anchored_shift-each Unanchored anchored = omega arith
anchored_shift-each AnchoredAlone anchored = omega arith

module _ (built : Built) (u : Node) where
  -- it lists what searches with its anchoring find
  pub row_lists-at : (start_kind : StartKind) (anchored : Anchored) → start_refusal start_kind anchored ≡ None
      → slice_index_or (row_lists start_kind built u) (anchored_shift start_kind anchored 1) [] ≡ matches_of built anchored u
  row_lists-at Both No h = refl
  row_lists-at Both Yes h = refl
  row_lists-at Unanchored No h = refl
  row_lists-at AnchoredAlone Yes h = refl
  row_lists-at start_kind anchored h = absurd cc

module _ (built : Built) where
  -- so do those of the start
  pub first_lists-at : (start_kind : StartKind) (anchored : Anchored) → start_refusal start_kind anchored ≡ None
      → slice_index_or (first_lists start_kind built) (2 + anchored_shift start_kind anchored 1) []
      ≡ matches_of built anchored (Some [])
  first_lists-at Both No h = refl
  first_lists-at Both Yes h = refl
  first_lists-at Unanchored No h = refl
  first_lists-at AnchoredAlone Yes h = refl
  first_lists-at start_kind anchored h = absurd cc

  -- all four are where the start has no matches
  pub first_lists-none : (start_kind : StartKind) → ((anchored : Anchored) → matches_of built anchored (Some []) ≡ [])
      → (k : ℕ) → k < 4 → slice_index_or (first_lists start_kind built) k [] ≡ []
  first_lists-none Both none zero h = refl
  first_lists-none Both none (suc zero) h = refl
  first_lists-none Both none (suc (suc zero)) h = none No
  first_lists-none Both none (suc (suc (suc zero))) h = none Yes
  first_lists-none Unanchored none zero h = refl
  first_lists-none Unanchored none (suc zero) h = refl
  first_lists-none Unanchored none (suc (suc zero)) h = none No
  first_lists-none Unanchored none (suc (suc (suc zero))) h = refl
  first_lists-none AnchoredAlone none zero h = refl
  first_lists-none AnchoredAlone none (suc zero) h = refl
  first_lists-none AnchoredAlone none (suc (suc zero)) h = none Yes
  first_lists-none AnchoredAlone none (suc (suc (suc zero))) h = refl
  first_lists-none start_kind none (suc (suc (suc (suc k)))) h = absurd (omega arith)
