-- How the rows of a DFA's transition table stand for nodes.
pub mod Builds
pub mod Filling
pub mod Layouts
use Rattle.std.specs.Prelude.{◌≡◌, ◌≢◌, ◌⊎◌, ℕ, ◌+◌, ◌*◌, ◌^◌, ◌/◌, ◌<◌, ◌≤◌, Bool, List, [], length, slice_index_or, Some, None}
use Rattle.ac_util.specs.declared.search.Anchored.{Anchored}
use Rattle.ac_automaton.specs.Util.{alphabet_len, Both, Built, class_at, IsNode, No, Node, start_refusal, StartKind, Unanchored, Yes}
use Rattle.ac_util.specs.declared.search.StartKind.TheVariants.{Anchored as AnchoredAlone}
use Rattle.ac_automaton.specs.Prelude.{AutomatonView, built_as, CommonView, matches_of, plain_of, step_of}

-- what a DFA was built from, and whether to have a prefilter; the class of each byte, the exponent of the length of
-- a row, the entries of all rows, and the match list of each row up to the last that has one
pub record DfaView : Type 0 where
  pub built : Built
  pub wants_prefilter : Bool
  pub classes : List ℕ
  pub stride2 : ℕ
  pub entries : List ℕ
  pub lists : List (List ℕ)

-- how many entries a row has
abbrev pub stride_of : DfaView → ℕ
stride_of t = 2 ^ t.stride2

-- what stands in the row of a state's number at the class of a byte
abbrev pub entry : List ℕ → List ℕ → ℕ → ℕ → ℕ
entry classes entries s b = slice_index_or entries (s + class_at classes b) 0

-- the match list of a state
abbrev pub list_at : DfaView → ℕ → List ℕ
list_at t s = slice_index_or t.lists (s / stride_of t) []

-- how far the anchored row of a node stands after its unanchored one: a row where there are both, else it is the
-- only one
abbrev pub anchored_shift : StartKind → Anchored → ℕ → ℕ
anchored_shift Both No stride = 0
anchored_shift Both Yes stride = stride
anchored_shift Unanchored anchored stride = 0
anchored_shift AnchoredAlone anchored stride = 0

-- the state of a node, where the first row of each string's node is known; the dead node is 0
abbrev pub number_of : (List ℕ → ℕ) → ℕ → Node → ℕ
number_of place shift None = 0
number_of place shift (Some w) = place w + shift

-- the rows of a DFA stand for nodes; `place` says at which entry the first row of a string's node begins. Row 0 is
-- the dead node's, row 1 is no node's, rows 2 and 3 are kept for the start, and those of all other nodes come after
-- these; no two nodes share a row. At the class of a byte a row has the state after that byte, and past the classes
-- the dead state, which is 0. The match list of a row has the matches of its node
pub record IsDfa (t : DfaView) (place : List ℕ → ℕ) : Type 0 where
  pub narrow : (b : ℕ) → b < 256 → class_at t.classes b < stride_of t
  pub dead : (k : ℕ) → k < stride_of t → slice_index_or t.entries k 0 ≡ 0
  pub unlisted : list_at t 0 ≡ []
  pub start : place [] ≡ 2 * stride_of t
  pub inner : (w : List ℕ) → IsNode t.built.kind (plain_of t.built) (Some w) → w ≢ [] → 4 * stride_of t ≤ place w
  pub rows : (anchored : Anchored) (w : List ℕ) → IsNode t.built.kind (plain_of t.built) (Some w)
      → (row : ℕ) × (place w + anchored_shift t.built.start_kind anchored (stride_of t) ≡ row * stride_of t)
  pub within : (anchored : Anchored) (w : List ℕ) → IsNode t.built.kind (plain_of t.built) (Some w)
      → place w + anchored_shift t.built.start_kind anchored (stride_of t) + stride_of t ≤ length t.entries
  pub apart : (v w : List ℕ) → IsNode t.built.kind (plain_of t.built) (Some v)
      → IsNode t.built.kind (plain_of t.built) (Some w) → v ≢ w
      → (place v + anchored_shift t.built.start_kind Yes (stride_of t) + stride_of t ≤ place w)
      ⊎ (place w + anchored_shift t.built.start_kind Yes (stride_of t) + stride_of t ≤ place v)
  pub steps : (anchored : Anchored) (w : List ℕ) (b : ℕ) → start_refusal t.built.start_kind anchored ≡ None
      → IsNode t.built.kind (plain_of t.built) (Some w) → b < 256
      → entry t.classes t.entries (place w + anchored_shift t.built.start_kind anchored (stride_of t)) b
      ≡ number_of place (anchored_shift t.built.start_kind anchored (stride_of t)) (step_of t.built anchored (Some w) b)
  pub past : (anchored : Anchored) (w : List ℕ) (k : ℕ) → start_refusal t.built.start_kind anchored ≡ None
      → IsNode t.built.kind (plain_of t.built) (Some w) → alphabet_len t.classes ≤ k → k < stride_of t
      → slice_index_or t.entries (place w + anchored_shift t.built.start_kind anchored (stride_of t) + k) 0 ≡ 0
  pub lists : (anchored : Anchored) (w : List ℕ) → start_refusal t.built.start_kind anchored ≡ None
      → IsNode t.built.kind (plain_of t.built) (Some w)
      → list_at t (place w + anchored_shift t.built.start_kind anchored (stride_of t)) ≡ matches_of t.built anchored (Some w)

-- the states that have matches stand from one number up to another, after which neither the dead state nor a start
-- stands
pub record HasMatchesAmong (t : DfaView) (first end : ℕ) : Type 0 where
  pub early : (s : ℕ) → s < first → list_at t s ≡ []
  pub late : (s : ℕ) → end ≤ s → list_at t s ≡ []
  pub starts : 4 * stride_of t ≤ end

-- the DFA of an engine that has this, with these starts
abbrev pub dfa_of : CommonView → StartKind → List ℕ → ℕ → List ℕ → List (List ℕ) → DfaView
dfa_of common start_kind classes stride2 entries lists =
    record { built = built_as common start_kind; wants_prefilter = common.wants_prefilter; classes = classes; stride2 = stride2; entries = entries; lists = lists }

-- the state at which a search with this anchoring begins, or the dead one where there is none
abbrev pub start_number : StartKind → Anchored → ℕ → ℕ
start_number Both No stride = 2 * stride
start_number Both Yes stride = 3 * stride
start_number Unanchored No stride = 2 * stride
start_number Unanchored Yes stride = 0
start_number AnchoredAlone No stride = 0
start_number AnchoredAlone Yes stride = 2 * stride

-- the number stands for the node, in a search with this anchoring
pub record IsDfaState (t : DfaView) (anchored : Anchored) (s : ℕ) (u : Node) : Type 0 where
  pub place : List ℕ → ℕ
  pub is_dfa : IsDfa t place
  pub supported : start_refusal t.built.start_kind anchored ≡ None
  pub node : IsNode t.built.kind (plain_of t.built) u
  pub number : s ≡ number_of place (anchored_shift t.built.start_kind anchored (stride_of t)) u

-- what contracts see of it as an automaton
abbrev pub dfa_automaton : DfaView → AutomatonView
dfa_automaton t = record {
  built = t.built;
  most = 1;
  wants_prefilter = t.wants_prefilter;
  stands = λ anchored s u. IsDfaState t anchored s u;
  listed = λ s. list_at t s;
}
