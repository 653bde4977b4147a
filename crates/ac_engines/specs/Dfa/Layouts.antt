-- Where the rows of a DFA stand, and what they list.
use Rattle.std.specs.Prelude.{◌≡◌, ◌⊎◌, ℕ, ◌+◌, ◌-◌, ◌*◌, ◌^◌, ◌/◌, ◌<◌, ◌≤◌, IfOk, List, [], ◌∷◌, ◌++◌, length, Result, slice_get, slice_index_or, Some, None}
use Rattle.ac_util.specs.declared.search.Anchored.{Anchored}
use Rattle.ac_automaton.specs.Util.{Both, Built, No, Node, start_refusal, StartKind, state_count, Unanchored, Yes}
use Rattle.ac_util.specs.declared.search.StartKind.TheVariants.{Anchored as AnchoredAlone}
use Rattle.ac_automaton.specs.Prelude.{AreNodes, ForNode, matches_of, plain_of, Trie}
use Rattle.ac_engines.specs.declared.dfa.layout.Layout.{Layout}
use Rattle.ac_engines.specs.declared.dfa.layout.Rows.{Rows}
use Rattle.ac_engines.specs.Dfa.Filling.{AreLaid}
use Rattle.ac_engines.specs.Dfa.{anchored_shift}

-- how many rows a DFA has for a trie of so many states: one for each, or for both starts two for each but the first
-- four
abbrev pub table_rows : StartKind → ℕ → ℕ
table_rows Both states = 2 * states - 4
table_rows Unanchored states = states
table_rows AnchoredAlone states = states

-- how many rows a string has
abbrev pub rows_each : StartKind → ℕ
rows_each Both = 2
rows_each Unanchored = 1
rows_each AnchoredAlone = 1

-- the lists of a node's rows
abbrev pub row_lists : StartKind → Built → Node → List (List ℕ)
row_lists Both built u = matches_of built No u ∷ matches_of built Yes u ∷ []
row_lists Unanchored built u = matches_of built No u ∷ []
row_lists AnchoredAlone built u = matches_of built Yes u ∷ []

-- the lists of the first four rows: that of the dead node, that of no node, and those of the start, which for one
-- start are one and an empty one
abbrev pub first_lists : StartKind → Built → List (List ℕ)
first_lists Both built = [] ∷ [] ∷ row_lists Both built (Some [])
first_lists start_kind built = [] ∷ [] ∷ row_lists start_kind built (Some []) ++ [] ∷ []

-- a node's rows are the first after those that have lists, and their lists were added
pub record IsInFront (start_kind : StartKind) (built : Built) (u : Node) (row : ℕ) (lists : List (List ℕ)) (back : ℕ)
    (new_lists : List (List ℕ)) (new_back : ℕ) : Type 0 where
  pub after : row ≡ length lists
  pub added : new_lists ≡ lists ++ row_lists start_kind built u
  pub same : new_back ≡ back

-- a node has no matches, and its rows are the last before those at the back
pub record IsAtBack (start_kind : StartKind) (built : Built) (u : Node) (row : ℕ) (lists : List (List ℕ)) (back : ℕ)
    (new_lists : List (List ℕ)) (new_back : ℕ) : Type 0 where
  pub none : (anchored : Anchored) → matches_of built anchored u ≡ []
  pub first : row ≡ new_back
  pub same : new_lists ≡ lists
  pub before : new_back + rows_each start_kind ≡ back

-- a node was given its rows: at the one side or at the other
abbrev pub HasPlaced : StartKind → Built → Node → ℕ → List (List ℕ) → ℕ → List (List ℕ) → ℕ → Type 0
HasPlaced start_kind built u row lists back new_lists new_back =
    IsInFront start_kind built u row lists back new_lists new_back
    ⊎ IsAtBack start_kind built u row lists back new_lists new_back

-- what a state lists, where each row has a list
abbrev pub row_list : List (List ℕ) → ℕ → ℕ → List ℕ
row_list lists stride s = slice_index_or lists (s / stride) []

-- the rows of a DFA are laid out: the number of each state's first row, the match list of each row, and from which
-- number up to which the states stand that have matches
pub record IsLayout (built : Built) (stride size : ℕ) (nodes : List Node) (numbers : List ℕ) (lists : List (List ℕ))
    (first end : ℕ) : Type 0 where
  pub laid : (classes : List ℕ) → AreLaid (record {
    built = built;
    classes = classes;
    stride = stride;
    nodes = nodes;
    numbers = numbers;
  }) size
  pub rows : (s : ℕ) (w : List ℕ) → slice_get nodes s ≡ Some (Some w) → (s ≡ 2) ⊎ (4 ≤ s)
      → (anchored : Anchored) → start_refusal built.start_kind anchored ≡ None
      → row_list lists stride (slice_index_or numbers s 0 + anchored_shift built.start_kind anchored stride)
      ≡ matches_of built anchored (Some w)
  pub unlisted : row_list lists stride 0 ≡ []
  pub early : (s : ℕ) → s < first → row_list lists stride s ≡ []
  pub late : (s : ℕ) → end ≤ s → row_list lists stride s ≡ []
  pub starts : 4 * stride ≤ end

-- how many rows a DFA has that is built from this trie
abbrev pub rows_over : StartKind → Trie → ℕ
rows_over start_kind trie = table_rows start_kind (state_count trie.built.kind (plain_of trie.built))

-- the layout is one for this trie, with rows of two to the power of stride2 entries
abbrev pub IsLayoutOver : {Z : Type 0} → Trie → StartKind → ℕ → Layout Z → Type 0
IsLayoutOver trie start_kind stride2 layout =
    (nodes : List Node) → AreNodes trie nodes
    → IsLayout (record trie.built { start_kind = start_kind }) (2 ^ stride2) (rows_over start_kind trie * 2 ^ stride2) nodes
    layout.numbers.items layout.lists layout.first_match layout.match_end

-- where a state succeeds in being given its rows, it was
abbrev pub PlacesState : {E Z : Type 0} → Trie → StartKind → ℕ → Rows Z → Result ℕ E → Rows Z → Type 0
PlacesState trie start_kind s old result new =
    ForNode (AreNodes trie) s
    (λ nodes u. IfOk result (λ row. HasPlaced start_kind trie.built u row old.lists old.back new.lists new.back))
