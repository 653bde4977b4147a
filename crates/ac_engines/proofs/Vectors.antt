-- States whose words are written by hand.
use Rattle.ac_util.proofs.Prelude.{refl, ◌≡◌, ℕ, zero, suc, ◌+◌, ◌<◌, ◌≤◌, ◌≢◌, List, [], ◌∷◌, ◌++◌, length, map, arith, All, slice_index, slice_index_or, IsStrictlyIncreasing}
use Rattle.ac_engines.specs.Prelude.{Fits, AreNamed, BeginsWith, class_words, Dense, Edge, FAIL, Format, One, ONE_MATCH, Sparse, format_words, PackedState, target_by}

-- a transition
abbrev edge : ℕ → ℕ → Edge
edge class target = record { class = class; target = target }

-- words that are those of a state, and no more
by_hand : (words : List ℕ) (format : Format) (classes : ℕ) (s : PackedState) → words ≡ format_words format classes s ++ []
    → Fits format s → classes ≤ 256 → All (λ e. e.class < classes) s.edges
    → IsStrictlyIncreasing (map (λ e. e.class) s.edges) → length s.matches < ONE_MATCH
    → ((k : ℕ) → slice_index_or s.matches k 0 < ONE_MATCH) → BeginsWith words format classes s
by_hand words format classes s are fits few below up some numbers =
    record { rest = []; words_are = are; fits = fits; few = few; below = below; ascending = up; few_matches = some; numbers = numbers }

-- five transitions and one match
abbrev pub five_edges : PackedState
five_edges = record {
  failure = 40;
  default_target = FAIL;
  edges = edge 3 100 ∷ edge 7 110 ∷ edge 9 120 ∷ edge 12 130 ∷ edge 20 140 ∷ [];
  matches = 6 ∷ [];
}

five-ascend : (k : ℕ) → k + 1 < 5
    → slice_index (3 ∷ 7 ∷ 9 ∷ 12 ∷ 20 ∷ []) k < slice_index (3 ∷ 7 ∷ 9 ∷ 12 ∷ 20 ∷ []) (k + 1)
five-ascend zero low = omega arith
five-ascend (suc zero) low = omega arith
five-ascend (suc (suc zero)) low = omega arith
five-ascend (suc (suc (suc zero))) low = omega arith
five-ascend (suc (suc (suc (suc k)))) low = absurd (omega (arith, low))

-- each transition has a class and a target
record IsAmongFive (e : Edge) : Type 0 where
  below : e.class < 131
  named : e.target ≢ FAIL

five-each : (k : ℕ) (d : Edge) → k < 5 → IsAmongFive (slice_index_or five_edges.edges k d)
five-each zero d low = record { below = omega arith; named = omega arith }
five-each (suc zero) d low = record { below = omega arith; named = omega arith }
five-each (suc (suc zero)) d low = record { below = omega arith; named = omega arith }
five-each (suc (suc (suc zero))) d low = record { below = omega arith; named = omega arith }
five-each (suc (suc (suc (suc zero)))) d low = record { below = omega arith; named = omega arith }
five-each (suc (suc (suc (suc (suc k))))) d low = absurd (omega (arith, low))

pub five-named : AreNamed five_edges.edges
five-named k d low = (five-each k d low).named

six-numbers : (k : ℕ) → slice_index_or (6 ∷ []) k 0 < ONE_MATCH
six-numbers zero = omega arith
six-numbers (suc k) = omega arith

abbrev pub sparse_words : List ℕ
sparse_words = 5 ∷ 40 ∷ 201918211 ∷ 336860180 ∷ 100 ∷ 110 ∷ 120 ∷ 130 ∷ 140 ∷ 2147483654 ∷ []

pub sparse-begins : BeginsWith sparse_words Sparse 131 five_edges
unfolding format_words class_words
sparse-begins =
    by_hand _ _ _ _ refl (omega arith, refl) (omega arith) (λ k d low. (five-each k d low).below) five-ascend (omega arith) six-numbers

-- one transition
abbrev pub one_edge : PackedState
one_edge = record { failure = 40; default_target = FAIL; edges = edge 9 100 ∷ []; matches = [] }

no-numbers : (k : ℕ) → slice_index_or [] k 0 < ONE_MATCH
no-numbers zero = omega arith
no-numbers (suc k) = omega arith

one-ascends : (a k : ℕ) → k + 1 < 1 → slice_index (a ∷ []) k < slice_index (a ∷ []) (k + 1)
one-ascends a k low = absurd (omega (arith, low))

one-below : All (λ e. e.class < 131) one_edge.edges
one-below zero d low = omega arith
one-below (suc k) d low = absurd (omega (arith, low))

pub one-begins : BeginsWith (2558 ∷ 40 ∷ 100 ∷ []) One 131 one_edge
unfolding format_words
one-begins = by_hand _ _ _ _ refl (refl, refl, refl) (omega arith) one-below (one-ascends 9) (omega arith) no-numbers

-- three classes, one of them with a transition, and three matches
abbrev pub three_classes : PackedState
three_classes = record { failure = 40; default_target = FAIL; edges = edge 1 100 ∷ []; matches = 6 ∷ 2 ∷ 9 ∷ [] }

three-numbers : (k : ℕ) → slice_index_or (6 ∷ 2 ∷ 9 ∷ []) k 0 < ONE_MATCH
three-numbers zero = omega arith
three-numbers (suc zero) = omega arith
three-numbers (suc (suc zero)) = omega arith
three-numbers (suc (suc (suc k))) = omega arith

three-below : All (λ e. e.class < 3) three_classes.edges
three-below zero d low = omega arith
three-below (suc k) d low = absurd (omega (arith, low))

pub dense-begins : BeginsWith (255 ∷ 40 ∷ 1 ∷ 100 ∷ 1 ∷ 3 ∷ 6 ∷ 2 ∷ 9 ∷ []) Dense 3 three_classes
unfolding format_words target_by
dense-begins = by_hand _ _ _ _ refl tt (omega arith) three-below (one-ascends 1) (omega arith) three-numbers

-- no transition and one match
abbrev pub no_edges : PackedState
no_edges = record { failure = 40; default_target = FAIL; edges = []; matches = 0 ∷ [] }

zero-numbers : (k : ℕ) → slice_index_or (0 ∷ []) k 0 < ONE_MATCH
zero-numbers zero = omega arith
zero-numbers (suc k) = omega arith

pub bare-begins : BeginsWith (0 ∷ 40 ∷ 2147483648 ∷ []) Sparse 131 no_edges
unfolding format_words class_words
bare-begins =
    by_hand _ _ _ _ refl (omega arith, refl) (omega arith) (λ k d low. absurd (omega (arith, low)))
    (λ k low. absurd (omega (arith, low))) (omega arith) zero-numbers
