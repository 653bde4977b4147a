-- Filling the rows of a DFA from a noncontiguous NFA.
use Rattle.std.specs.Prelude.{◌≡◌, ◌≢◌, ◌⊎◌, ℕ, ◌+◌, ◌*◌, ◌<◌, ◌≤◌, List, [], ◌∷◌, ◌++◌, Contains, bytes_eq, length, slice_get, slice_index_or, if◌then◌else◌, Some, None}
use Rattle.ac_util.specs.declared.search.Anchored.{Anchored}
use Rattle.ac_automaton.specs.Util.{alphabet_len, Built, class_at, GREATEST, No, Node, plain_byte, SetsApart, start_refusal, StartKind, Yes}
use Rattle.ac_automaton.specs.Prelude.{AreNodes, step_of, transition_bytes_of, Trie}
use Rattle.ac_engines.specs.Dfa.{anchored_shift, entry, number_of}

-- what a DFA is filled from: what it is built from, the class of each byte, how many entries a row has, which node
-- each state of the trie stands for, and the number of each state's first row
pub record RowInput : Type 0 where
  pub built : Built
  pub classes : List ℕ
  pub stride : ℕ
  pub nodes : List Node
  pub numbers : List ℕ

-- the number of the first of the states that stand for a string
abbrev pub first_row_in : List Node → List ℕ → List ℕ → ℕ
first_row_in [] numbers w = 0
first_row_in (v ∷ vs) [] w = 0
first_row_in (None ∷ vs) (n ∷ ns) w = first_row_in vs ns w
first_row_in (Some v ∷ vs) (n ∷ ns) w = if bytes_eq v w then n else first_row_in vs ns w

-- the entries beside a part of the table are the same
abbrev pub SameBeside : ℕ → ℕ → List ℕ → List ℕ → Type 0
SameBeside first width old new = (k : ℕ) → (k < first) ⊎ (first + width ≤ k)
    → slice_index_or new k 0 ≡ slice_index_or old k 0

module _ (p : RowInput) where
  -- where the row of a node begins
  abbrev pub row_at : Anchored → Node → ℕ
  row_at anchored u = number_of (first_row_in p.nodes p.numbers) (anchored_shift p.built.start_kind anchored p.stride) u

  -- in the row of a node the entries past the classes are dead
  abbrev pub EndsDead : Anchored → Node → List ℕ → Type 0
  EndsDead anchored u entries = (k : ℕ) → alphabet_len p.classes ≤ k → k < p.stride
      → slice_index_or entries (row_at anchored u + k) 0 ≡ 0

  -- the row of a node is filled: from it each class of bytes leads to the row of the node after the step
  pub record IsFilled (anchored : Anchored) (u : Node) (entries : List ℕ) : Type 0 where
    pub steps : (b : ℕ) → b < 256
        → entry p.classes entries (row_at anchored u) b ≡ row_at anchored (step_of p.built anchored u b)
    pub past : EndsDead anchored u entries

  -- the own transitions of a string by these bytes have been set in its row, and nothing else
  pub record HasSet (anchored : Anchored) (w : List ℕ) (bytes : List ℕ) (old new : List ℕ) : Type 0 where
    pub same_length : length new ≡ length old
    pub beside : SameBeside (row_at anchored (Some w)) (alphabet_len p.classes) old new
    pub own : (b : ℕ) → b < 256 → Contains bytes b
        → entry p.classes new (row_at anchored (Some w)) b
        ≡ row_at anchored (Some (w ++ plain_byte p.built.ignores_case b ∷ []))
    pub others : (b : ℕ) → b < 256 → (Contains bytes b → ⊥)
        → entry p.classes new (row_at anchored (Some w)) b ≡ entry p.classes old (row_at anchored (Some w)) b

  -- the row of a string has been filled, and nothing else
  pub record HasFilled (anchored : Anchored) (w : List ℕ) (old new : List ℕ) : Type 0 where
    pub same_length : length new ≡ length old
    pub beside : SameBeside (row_at anchored (Some w)) p.stride old new
    pub filled : IsFilled anchored (Some w) new

  -- how many entries the rows of a string have together
  abbrev pub width : ℕ
  width = p.stride + anchored_shift p.built.start_kind Yes p.stride

  -- the rows of the states stand in a table of this size, apart from each other: first those of the dead node and of
  -- the start, whose state is 2, then those of the states from 4 on
  pub record AreLaid (size : ℕ) : Type 0 where
    pub count : length p.numbers ≡ length p.nodes
    pub positive : 0 < p.stride
    pub dead : slice_index_or p.numbers 0 0 ≡ 0
    pub unreached : slice_index_or p.numbers 1 0 ≡ 0
    pub start : slice_index_or p.numbers 2 0 ≡ 2 * p.stride
    pub whole : 4 * p.stride ≤ size
    pub inner : (s : ℕ) → 4 ≤ s → s < length p.numbers → 4 * p.stride ≤ slice_index_or p.numbers s 0
    pub rows : (s : ℕ) → 4 ≤ s → s < length p.numbers → (row : ℕ) × (slice_index_or p.numbers s 0 ≡ row * p.stride)
    pub within : (s : ℕ) → 4 ≤ s → s < length p.numbers → slice_index_or p.numbers s 0 + width ≤ size
    pub apart : (s t : ℕ) → 4 ≤ s → s < t → t < length p.numbers
        → (slice_index_or p.numbers s 0 + width ≤ slice_index_or p.numbers t 0)
        ⊎ (slice_index_or p.numbers t 0 + width ≤ slice_index_or p.numbers s 0)

-- what rows are filled by: the trie, the class of each byte, which starts the table has, how many entries a row has,
-- and the number of the first row of each state
pub record Filling : Type 0 where
  pub trie : Trie
  pub classes : List ℕ
  pub start_kind : StartKind
  pub stride : ℕ
  pub numbers : List ℕ

-- the sheet of a DFA, where it is known which nodes the states of the trie stand for
abbrev pub row_input : Filling → List Node → RowInput
row_input f nodes = record {
  built = record f.trie.built { start_kind = f.start_kind };
  classes = f.classes;
  stride = f.stride;
  nodes = nodes;
  numbers = f.numbers;
}

module _ (f : Filling) (nodes : List Node) (size : ℕ) where
  -- rows can be filled in a table of this size: they have room for each class, and each byte of a pattern has a
  -- class of its own
  pub record MayFill : Type 0 where
    pub are_nodes : AreNodes f.trie nodes
    pub below : (b : ℕ) → b < 256 → class_at f.classes b < alphabet_len f.classes
    pub room : alphabet_len f.classes ≤ f.stride
    pub apart : SetsApart f.trie.built.ignores_case f.trie.built.patterns f.classes
    pub laid : AreLaid (row_input f nodes) size
    pub small : size ≤ GREATEST + f.stride

  -- a state stands for a string, which has rows in the table: it is the unanchored start, or none of the first four
  pub record HasRow (s : ℕ) (w : List ℕ) : Type 0 where
    pub may : MayFill
    pub named : slice_get nodes s ≡ Some (Some w)
    pub place : (s ≡ 2) ⊎ (4 ≤ s)

  -- the rows of all states before this one are filled, and those of the others are as empty as that of the dead state
  pub record FilledUpTo (s : ℕ) (entries : List ℕ) : Type 0 where
    pub long : length entries ≡ size
    pub dead : (k : ℕ) → k < f.stride → slice_index_or entries k 0 ≡ 0
    pub filled : (t : ℕ) (u : Node) → t < s → t ≢ 3 → slice_get nodes t ≡ Some u → (anchored : Anchored)
        → start_refusal f.start_kind anchored ≡ None → IsFilled (row_input f nodes) anchored u entries
    pub blank : (t k : ℕ) → s ≤ t → t ≢ 3 → t < length nodes → slice_index_or f.numbers t 0 ≤ k
        → k < slice_index_or f.numbers t 0 + width (row_input f nodes) → slice_index_or entries k 0 ≡ 0

  -- the row of a state is as empty as that of the dead state, and if it is unanchored those of all states before are
  -- filled
  pub record MayFillRow (s : ℕ) (w : List ℕ) (anchored : Anchored) (entries : List ℕ) : Type 0 where
    pub row : HasRow s w
    pub blank : (k : ℕ) → k < f.stride
        → slice_index_or entries (row_at (row_input f nodes) anchored (Some w) + k) 0 ≡ 0
    pub earlier : anchored ≡ No → (t : ℕ) (u : Node) → t < s → t ≢ 3 → slice_get nodes t ≡ Some u
        → IsFilled (row_input f nodes) No u entries

-- the own transitions of a string were set in its row
abbrev pub SetsOwn : Filling → ℕ → Anchored → List ℕ → List ℕ → Type 0
SetsOwn f s anchored old new =
    (nodes : List Node) (w : List ℕ) → HasRow f nodes (length old) s w
    → HasSet (row_input f nodes) anchored w (transition_bytes_of (row_input f nodes).built (Some w)) old new

-- the row of a string is to be filled
abbrev pub IsRowToFill : Filling → ℕ → List ℕ → Anchored → List ℕ → Type 0
IsRowToFill f s w anchored old = (nodes : List Node) × MayFillRow f nodes (length old) s w anchored old

-- it was
abbrev pub FillsRow : Filling → ℕ → List ℕ → Anchored → List ℕ → List ℕ → Type 0
FillsRow f s w anchored old new =
    (nodes : List Node) → MayFillRow f nodes (length old) s w anchored old → HasFilled (row_input f nodes) anchored w old new

-- the rows of a state were filled, after those of all before it
abbrev pub FillsState : Filling → ℕ → List ℕ → List ℕ → Type 0
FillsState f s old new =
    (nodes : List Node) (w : List ℕ) → HasRow f nodes (length old) s w → FilledUpTo f nodes (length old) s old
    → FilledUpTo f nodes (length old) (s + 1) new

-- all rows of a table of this size are filled, where they can be
abbrev pub FillsAll : Filling → ℕ → List ℕ → Type 0
FillsAll f size entries = (nodes : List Node) → MayFill f nodes size → FilledUpTo f nodes size (length nodes) entries
