-- What it is that the first so many states of a trie have their rows.
use Rattle.ac_util.proofs.Prelude.{◌≡◌, ◌⊎◌, ℕ, ◌+◌, ◌-◌, ◌*◌, ◌^◌, ◌<◌, ◌≤◌, List, [], ◌∷◌, ◌++◌, length, slice_index_or, arith, Some, slice_get, common_steps}
use Rattle.ac_engines.specs.Prelude.{Built, Node, StartKind, state_count, Yes, AreNodes, matches_of, plain_of, Trie, anchored_shift, first_lists, row_lists, rows_each}
use Rattle.ac_util.specs.declared.search.Anchored.{Anchored}
use Rattle.ac_engines.proofs.RowLists.{each-rows}

-- the node that a state stands for
pub record IsNamed (nodes : List Node) (s : ℕ) : Type 0 where
  pub node : Node
  pub named : slice_get nodes s ≡ Some node

-- an inner state of a trie stands for one
pub named-inner : (trie : Trie) (nodes : List Node) (s : ℕ) → AreNodes trie nodes → 4 ≤ s
    → s < state_count trie.built.kind (plain_of trie.built) → IsNamed nodes s
named-inner trie nodes s h inner within =
    let c = h.numbered.count in
    let (w, node) = h.numbered.node s inner (omega (arith, c, within)) in
    record { node = Some w; named = node.named }

-- what is laid out: which starts the table has, what it is built from, which node each state stands for, and how many
-- entries a row has
pub record Plan : Type 0 where
  pub start_kind : StartKind
  pub built : Built
  pub nodes : List Node
  pub stride : ℕ

-- the plan of a DFA, where it is known which nodes the states of the trie stand for
abbrev pub plan_of : Trie → StartKind → ℕ → List Node → Plan
plan_of trie start_kind stride2 nodes = record {
  start_kind = start_kind;
  built = trie.built;
  nodes = nodes;
  stride = 2 ^ stride2;
}

module _ (p : Plan) where
  -- how many rows a state has
  abbrev pub each : ℕ
  each = rows_each p.start_kind

  -- a state's rows stand in front, with its lists
  pub record StandsInFront (lists : List (List ℕ)) (s row : ℕ) : Type 0 where
    pub inner : 4 ≤ row
    pub within : row + each ≤ length lists
    pub listed : (u : Node) (k : ℕ) → slice_get p.nodes s ≡ Some u → k < each
        → slice_index_or lists (row + k) [] ≡ slice_index_or (row_lists p.start_kind p.built u) k []

  -- a state without matches has its rows at the back
  pub record StandsAtBack (back last s row : ℕ) : Type 0 where
    pub after : back ≤ row
    pub within : row + each ≤ last
    pub none : (u : Node) (anchored : Anchored) → slice_get p.nodes s ≡ Some u → matches_of p.built anchored u ≡ []

  -- a state has its rows, in front or at the back
  pub record HasRows (lists : List (List ℕ)) (back last s n : ℕ) : Type 0 where
    pub row : ℕ
    pub number : n ≡ row * p.stride
    pub place : StandsInFront lists s row ⊎ StandsAtBack back last s row

  -- two states' rows are apart
  abbrev pub Apart : ℕ → ℕ → Type 0
  Apart m n = (m + (p.stride + anchored_shift p.start_kind Yes p.stride) ≤ n) ⊎ (n + (p.stride + anchored_shift p.start_kind Yes p.stride) ≤ m)

  -- the first so many states have their rows, and what is left between front and back is room for the others
  pub record IsLaidUpTo (s : ℕ) (numbers : List ℕ) (lists : List (List ℕ)) (back last : ℕ) : Type 0 where
    pub count : length numbers ≡ s
    pub dead : slice_index_or numbers 0 0 ≡ 0
    pub unreached : slice_index_or numbers 1 0 ≡ 0
    pub start : slice_index_or numbers 2 0 ≡ 2 * p.stride
    pub more : List (List ℕ)
    pub first : lists ≡ first_lists p.start_kind p.built ++ more
    pub room : back ≡ length lists + each * (length p.nodes - s)
    pub within : back ≤ last
    pub rows : (t : ℕ) → 4 ≤ t → t < s → HasRows lists back last t (slice_index_or numbers t 0)
    pub apart : (t r : ℕ) → 4 ≤ t → t < r → r < s → Apart (slice_index_or numbers t 0) (slice_index_or numbers r 0)

  -- rows that end in front of a row, counted in rows, do so in entries
  pub row-order : (row next : ℕ) → row + each ≤ next
      → row * p.stride + (p.stride + anchored_shift p.start_kind Yes p.stride) ≤ next * p.stride
  row-order row next h = grind (arith, common_steps, each-rows p.start_kind row p.stride)

  -- rows stay where they are when lists are added, and the back comes nearer
  pub kept : (lists more : List (List ℕ)) (back new_back last s n : ℕ) → new_back ≤ back
      → HasRows lists back last s n → HasRows (lists ++ more) new_back last s n
  kept lists more back new_back last s n nearer h = grind (arith, common_steps)

  -- nothing is laid but the first four
  pub none-laid : (last : ℕ) → 4 ≤ length p.nodes → last ≡ 4 + each * (length p.nodes - 4)
      → IsLaidUpTo 4 (0 ∷ 0 ∷ 2 * p.stride ∷ 3 * p.stride ∷ []) (first_lists p.start_kind p.built) last last
  none-laid last enough e = grind (arith, common_steps)
