-- What is read in the words of a state.
use Rattle.std.specs.Prelude.{ℕ, ◌+◌, ◌/◌, ◌%◌, ◌<◌, ◌≡◌, ◌≢◌, ◌==◌, ◌++◌, List, [], ◌∷◌, length, map, slice_index_or, All, Option, Some, None, if◌then◌else◌}
use Rattle.std.specs.List.{range_with_len}
use Rattle.std.specs.Borrow.{Bor}
use Rattle.std.specs.Int.{to_le_bytes, w32}
use Rattle.ac_engines.specs.declared.nfa.contiguous.format.Format.{Format}
use Rattle.ac_engines.specs.declared.nfa.contiguous.format.Format.TheVariants.{Dense, One, Sparse}
use Rattle.ac_engines.specs.declared.nfa.contiguous.state.Edge.{Edge}
use Rattle.ac_engines.specs.Contiguous.Words.{BeginsWith, match_list_words, no_target, PackedState, target_by}

-- some state is spelled where the words begin, and this holds of it
abbrev pub SomeState : List ℕ → (Format → ℕ → PackedState → Type 0) → Type 0
SomeState words P =
    (format : Format) × (classes : ℕ) × (s : PackedState) × BeginsWith words format classes s × P format classes s

-- this holds of each state that is spelled there
abbrev pub EachState : List ℕ → (Format → ℕ → PackedState → Type 0) → Type 0
EachState words P = (format : Format) (classes : ℕ) (s : PackedState) → BeginsWith words format classes s → P format classes s

-- the same where it is known how many classes there are
abbrev pub SomeStateOf : List ℕ → ℕ → (PackedState → Type 0) → Type 0
SomeStateOf words classes P = (format : Format) × (s : PackedState) × BeginsWith words format classes s × P s

abbrev pub StateOf : List ℕ → ℕ → (Format → PackedState → Type 0) → Type 0
StateOf words classes P = (format : Format) (s : PackedState) → BeginsWith words format classes s → P format s

-- the target that a word names, if it isn't the number that no state has
abbrev pub named : ℕ → Option ℕ
named target = if target == no_target then None else Some target

-- each transition leads to a state
abbrev pub AreNamed : List Edge → Type 0
AreNamed edges = All (λ e. e.target ≢ no_target) edges

-- a state leads so by a class
abbrev pub LeadsBy : ℕ → Option ℕ → Format → ℕ → PackedState → Type 0
LeadsBy class target format classes s =
    AreNamed s.edges → class < classes → target ≡ named (target_by s.default_target s.edges class)

-- the same of a sparse state with so many transitions
abbrev pub SparseLeadsBy : List ℕ → ℕ → ℕ → Option ℕ → Type 0
SparseLeadsBy words transitions class target =
    (classes : ℕ) (s : PackedState) → BeginsWith words Sparse classes s → AreNamed s.edges → transitions ≡ length s.edges
    → target ≡ named (target_by no_target s.edges class)

-- which of four classes is this one first, or 4 where none is
abbrev pub first_of : ℕ → ℕ → ℕ → ℕ → ℕ → ℕ
first_of a b c d class =
    if a == class then 0
    else if b == class then 1
    else if c == class then 2
    else if d == class then 3
    else 4

-- the words are those of a state's matches, and what follows the state
abbrev pub AreMatchWords : List ℕ → ℕ → List ℕ → Type 0
AreMatchWords words classes matches =
    (format : Format) (s : PackedState) (begins : BeginsWith words format classes s) → s.matches ≢ []
    → matches ≡ match_list_words s.matches ++ begins.rest

-- the transitions that a state's words tell, in ascending order of their classes; a dense state says where each class
-- leads
abbrev pub transitions_of_state : Format → ℕ → PackedState → List Edge
transitions_of_state Dense classes s =
    map (λ class. record { class = class; target = target_by s.default_target s.edges class }) (range_with_len 0 classes)
transitions_of_state One classes s = s.edges
transitions_of_state Sparse classes s = s.edges

-- the class of a place: that in the class words, four in each, or the place itself where there are none
abbrev pub class_of_place : Option (Bor (List ℕ)) → ℕ → ℕ
class_of_place (Some words) place = slice_index_or (to_le_bytes w32 (slice_index_or words.now (place / 4) 0)) (place % 4) 0
class_of_place None place = place

-- transitions to these targets, by the classes of places from one on
unfoldable pub edges_from : (ℕ → ℕ) → ℕ → List ℕ → List Edge
edges_from class_of place [] = []
edges_from class_of place (target ∷ targets) =
    record { class = class_of place; target = target } ∷ edges_from class_of (place + 1) targets
