-- Packing states one after another.
use Rattle.std.specs.Prelude.{◌≡◌, ℕ, ◌+◌, ◌<◌, ◌≤◌, Bool, List, [], ◌++◌, drop, IfOk, length, nat_eq, Result, slice_get, Some, if◌then◌else◌}
use Rattle.ac_automaton.specs.Util.{alphabet_len, No, Node, Yes}
use Rattle.ac_automaton.specs.Prelude.{ForNode}
use Rattle.ac_automaton.specs.declared.nfa.noncontiguous.state.TheConstants.{ANCHORED_START, START}
use Rattle.ac_engines.specs.Contiguous.{IsContiguous, packed_at, packed_dead}
use Rattle.ac_engines.specs.Contiguous.Plans.{HasPlaces, HasWords, MayPack, PackPlan, before, format_for, has_matches, packed_of, places_of}
use Rattle.ac_engines.specs.Contiguous.Words.{Appends, BeginsWith, PackedState, format_words}
use Rattle.ac_engines.specs.declared.nfa.contiguous.format.Format.TheVariants.{Dense}
use Rattle.std.specs.declared.alloc.AllocError.{AllocError}

-- what states are packed by: a plan, and the address of each state of the trie
pub record Packer : Type 0 where
  pub plan : PackPlan
  pub numbers : List ℕ

module _ (f : Packer) (nodes : List Node) where
  -- the states have addresses
  pub record AreReady : Type 0 where
    pub may : MayPack f.plan nodes
    pub places : HasPlaces f.plan nodes f.numbers

  -- what the state of a number spells
  abbrev pub packed_state : ℕ → Node → PackedState
  packed_state s u =
      packed_at (packed_of f.plan nodes f.numbers []) (places_of f.plan nodes f.numbers)
      (if nat_eq s ANCHORED_START then Yes else No) u

  -- its words
  abbrev pub state_words : ℕ → Node → List ℕ
  state_words s u = format_words (format_for f.plan u) (alphabet_len f.plan.classes) (packed_state s u)

  -- the states before one that have matches were pushed, or the others: each stands after those before it
  pub record HasPushedUpTo (front : Bool) (state : ℕ) (old new : List ℕ) : Type 0 where
    pub pushed : List ℕ
    pub same : new ≡ old ++ pushed
    pub long : length new ≡ length old + before f.plan nodes front state
    pub each : (s : ℕ) (u : Node) → START ≤ s → s < state → slice_get nodes s ≡ Some u
        → has_matches f.plan nodes u ≡ front
        → BeginsWith (drop (length old + before f.plan nodes front s) new) (format_for f.plan u)
        (alphabet_len f.plan.classes) (packed_state s u)

-- the state has words, whose address is known
pub record HasPlaceIn (f : Packer) (s : ℕ) : Type 0 where
  pub words : HasWords f.plan s
  pub ready : AreReady f words.nodes

-- the words of the dead state
abbrev pub dead_words : PackPlan → List ℕ
dead_words q = format_words Dense (alphabet_len q.classes) packed_dead

-- this holds of what a state spells, where all states have addresses
abbrev pub ForPacked : Packer → ℕ → (PackedState → Type 0) → Type 0
ForPacked f s P = ForNode (AreReady f) s (λ nodes u. P (packed_state f nodes s u))

-- where the words of a state succeed in being appended, they were
abbrev pub AppendsWordsOf : Packer → ℕ → List ℕ → List ℕ → Result (Unit {0}) AllocError → Type 0
AppendsWordsOf f s old new result = ForNode (AreReady f) s (λ nodes u. Appends old new (state_words f nodes s u) result)

-- where those of all states that have matches do, or those of all others, they were
abbrev pub AppendsSide : Packer → Bool → List ℕ → List ℕ → Result (Unit {0}) AllocError → Type 0
AppendsSide f front old new result =
    (nodes : List Node) → AreReady f nodes → IfOk result (λ done. HasPushedUpTo f nodes front (length nodes) old new)

-- the words are those of a contiguous NFA, where all states have addresses
abbrev pub PacksAll : Packer → List ℕ → Type 0
PacksAll f words =
    (nodes : List Node) → AreReady f nodes
    → IsContiguous (packed_of f.plan nodes f.numbers words) (places_of f.plan nodes f.numbers)
