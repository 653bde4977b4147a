-- The forms of the states of a contiguous NFA, how many words each takes, and how they are spelled in words of 32 bits.
use Rattle.std.specs.Prelude.{ℕ, zero, suc, ◌+◌, ◌/◌, nat_lt, if◌then◌else◌, ◌*◌, List, [], ◌∷◌, length, Some, None, ◌≡◌, ◌<◌, ◌≤◌, ◌==◌, ◌&&◌, ◌++◌, map, slice_index_or, All, IfOk, Result, ⊤}
use Rattle.ac_engines.specs.declared.nfa.contiguous.format.Format.{Format}
use Rattle.ac_engines.specs.declared.nfa.contiguous.format.Format.TheVariants.{Dense, One, Sparse}
use Rattle.std.specs.List.{sum_by, range_with_len}
use Rattle.ac_automaton.specs.Util.{Built, inner_nodes, No, Node}
use Rattle.ac_automaton.specs.Prelude.{matches_of, transition_bytes_of, plain_of}
use Rattle.std.specs.List.Sorted.{IsStrictlyIncreasing}
use Rattle.ac_engines.specs.declared.nfa.contiguous.state.Edge.{Edge}

-- the most transitions of a state that is not dense
abbrev pub most_sparse : ℕ
most_sparse = 127

-- the low byte of the first word of a dense state
abbrev pub dense_form : ℕ
dense_form = 255

-- the low byte of the first word of a state with one transition
abbrev pub one_form : ℕ
one_form = 254

-- what stands in place of a target where a class has none
abbrev pub no_target : ℕ
no_target = 1

-- what is added to the number of a match that is the only one: the top bit of its word
abbrev pub one_match : ℕ
one_match = 2147483648

-- the form of a state other than the dead one and the starts, which are dense: one transition has a form of its own,
-- where nothing matches. The depth of a state is the length of its node
abbrev pub format_of : ℕ → ℕ → ℕ → ℕ → Format
format_of depth dense_depth transitions matches =
    if nat_lt depth dense_depth then Dense
    else if nat_lt most_sparse transitions then Dense
    else if transitions == 1 && matches == 0 then One
    else Sparse

-- a match stands in one word; several stand after their count
abbrev pub match_words : ℕ → ℕ
match_words zero = 0
match_words (suc zero) = 1
match_words (suc (suc more)) = 3 + more

-- how many words a state takes: two at its head, a target for each class or for each transition, with the classes of
-- these, four in a word, and its matches. No state of one transition has matches
abbrev pub words_of_state : Format → ℕ → ℕ → ℕ → ℕ
words_of_state Dense classes transitions matches = 2 + classes + match_words matches
words_of_state One classes transitions matches = 3 + match_words matches
words_of_state Sparse classes transitions matches = 2 + (transitions + 3) / 4 + transitions + match_words matches

-- the form of a node's state, by the length below which states are dense: the dead one and the starts are dense always
abbrev pub node_format : Built → ℕ → Node → Format
node_format built dense_depth None = Dense
node_format built dense_depth (Some []) = Dense
node_format built dense_depth (Some (x ∷ w)) =
    let u = Some (x ∷ w) in
    format_of (length (x ∷ w)) dense_depth (length (transition_bytes_of built u)) (length (matches_of built No u))

-- how many words it takes, where there are so many classes
abbrev pub node_words : Built → ℕ → ℕ → Node → ℕ
node_words built dense_depth classes u =
    words_of_state (node_format built dense_depth u) classes (length (transition_bytes_of built u))
    (length (matches_of built No u))

-- how many words there are: those of the dead state, of the two starts, and of the nodes that aren't empty
abbrev pub packed_words : Built → ℕ → ℕ → ℕ
packed_words built dense_depth classes =
    node_words built dense_depth classes None + 2 * node_words built dense_depth classes (Some [])
    + sum_by (λ w. node_words built dense_depth classes (Some w)) (inner_nodes built.kind (plain_of built))

-- what the words of a state spell: its failure target, where it leads by a class without a transition, its transitions
-- in ascending order of their classes, and its matches
pub record PackedState : Type 0 where
  pub failure : ℕ
  pub default_target : ℕ
  pub edges : List Edge
  pub matches : List ℕ

-- where a class leads
unfoldable pub target_by : ℕ → List Edge → ℕ → ℕ
target_by default_target [] class = default_target
target_by default_target (e ∷ edges) class = if e.class == class then e.target else target_by default_target edges class

-- four classes in one word, the first in the low byte
abbrev pub word_of : ℕ → ℕ → ℕ → ℕ → ℕ
word_of a b c d = a + 256 * (b + 256 * (c + 256 * d))

-- classes, four in a word; the last word is filled up with the last class again
unfoldable pub class_words : List ℕ → List ℕ
class_words [] = []
class_words (a ∷ []) = word_of a a a a ∷ []
class_words (a ∷ b ∷ []) = word_of a b b b ∷ []
class_words (a ∷ b ∷ c ∷ []) = word_of a b c c ∷ []
class_words (a ∷ b ∷ c ∷ d ∷ classes) = word_of a b c d ∷ class_words classes

-- no match has no word, a single one has its number with the top bit set, and several have their count and their
-- numbers
abbrev pub match_list_words : List ℕ → List ℕ
match_list_words [] = []
match_list_words (p ∷ []) = (one_match + p) ∷ []
match_list_words (p ∷ q ∷ ps) = length (p ∷ q ∷ ps) ∷ p ∷ q ∷ ps

-- one transition, whose class stands beside the form
abbrev pub one_words : ℕ → List Edge → List ℕ
one_words failure [] = []
one_words failure (e ∷ edges) = (one_form + 256 * e.class) ∷ failure ∷ e.target ∷ []

-- the words of a state but for its matches, by its form
abbrev pub dense_head : ℕ → PackedState → List ℕ
dense_head classes s = dense_form ∷ s.failure ∷ map (target_by s.default_target s.edges) (range_with_len 0 classes)

abbrev pub sparse_head : PackedState → List ℕ
sparse_head s = length s.edges ∷ s.failure ∷ class_words (map (λ e. e.class) s.edges) ++ map (λ e. e.target) s.edges

-- the words of a state, where there are so many classes
unfoldable pub format_words : Format → ℕ → PackedState → List ℕ
format_words Dense classes s = dense_head classes s ++ match_list_words s.matches
format_words One classes s = one_words s.failure s.edges
format_words Sparse classes s = sparse_head s ++ match_list_words s.matches

-- a form can spell these transitions and matches: a form that isn't dense leads nowhere where there is no transition
abbrev pub Fits : Format → PackedState → Type 0
Fits Dense s = ⊤
Fits One s = (length s.edges ≡ 1) × (s.matches ≡ []) × (s.default_target ≡ no_target)
Fits Sparse s = (length s.edges ≤ most_sparse) × (s.default_target ≡ no_target)

-- the words begin with those of a state: its classes are below their number and ascend, and its matches are fewer than
-- the mark of a single one
pub record BeginsWith (words : List ℕ) (format : Format) (classes : ℕ) (s : PackedState) : Type 0 where
  pub rest : List ℕ
  pub words_are : words ≡ format_words format classes s ++ rest
  pub fits : Fits format s
  pub few : classes ≤ 256
  pub below : All (λ e. e.class < classes) s.edges
  pub ascending : IsStrictlyIncreasing (map (λ e. e.class) s.edges)
  pub few_matches : length s.matches < one_match
  pub numbers : (k : ℕ) → slice_index_or s.matches k 0 < one_match

-- some targets are as the old ones, but for those of the transitions, which stand at their classes
pub record HasTargets (old : List ℕ) (edges : List Edge) (now : List ℕ) : Type 0 where
  pub same_length : length now ≡ length old
  pub each : (class : ℕ) → class < length old
      → slice_index_or now class 0 ≡ target_by (slice_index_or old class 0) edges class

-- where words succeed in being appended, they were
abbrev pub Appends : {E : Type 0} → List ℕ → List ℕ → List ℕ → Result (Unit {0}) E → Type 0
Appends old new words result = IfOk result (λ done. new ≡ old ++ words)
