-- How many words and how many entries the engines take, as the definitions compute them for worked lists of patterns.
use Rattle.ac_util.proofs.Prelude.{◌≡◌, ℕ, ◌*◌, Bool, true, false, List, [], ◌∷◌, codes, map, refl}
use Rattle.ac_engines.specs.Prelude.{alphabet_len, Both, Built, class_of, classes_of, LeftmostFirst, MatchKind, singletons, Standard, StartKind, state_count, stride, stride2, Unanchored, transition_bytes_of, plain_of, classes_by, Dense, packed_words, Sparse, table_rows, words_of_state}
use Rattle.ac_util.specs.declared.search.StartKind.TheVariants.{Anchored as AnchoredAlone}

-- three patterns, two of which begin alike, and one alone
abbrev three : List (List ℕ)
three = codes "b" ∷ codes "abc" ∷ codes "abcd" ∷ []

abbrev alone : List (List ℕ)
alone = codes "abcd" ∷ []

abbrev built_of : MatchKind → Bool → List (List ℕ) → Built
built_of kind ignores_case patterns = record { patterns = patterns; ignores_case = ignores_case; kind = kind; start_kind = Both }

-- a dense depth, and how many words there are where bytes share classes
abbrev TakesWords : MatchKind → List (List ℕ) → List (ℕ × ℕ) → Type 0
TakesWords kind patterns rows =
    map (λ row. packed_words (built_of kind false patterns) row.0 (alphabet_len (classes_by true false patterns))) rows
    ≡ map (λ row. row.1) rows

-- a dense depth, whether bytes share classes, and how many words there are where case is ignored
abbrev TakesFoldedWords : List (List ℕ) → List (ℕ × Bool × ℕ) → Type 0
TakesFoldedWords patterns rows =
    map (λ row. packed_words (built_of Standard true patterns) row.0 (alphabet_len (classes_by row.1 true patterns)))
    rows ≡ map (λ row. row.2) rows

-- which starts there are, and how many entries a DFA has where bytes share classes
abbrev TakesEntries : MatchKind → List (List ℕ) → List (StartKind × ℕ) → Type 0
TakesEntries kind patterns rows =
    map (λ row. table_rows row.0 (state_count kind (plain_of (built_of kind false patterns)))
    * stride (classes_by true false patterns)) rows ≡ map (λ row. row.1) rows

words-none : TakesWords Standard [] ((2, 9) ∷ [])
unfolding transition_bytes_of classes_of class_of
words-none = refl

words-three : TakesWords Standard three ((2, 54) ∷ [])
unfolding transition_bytes_of classes_of class_of
words-three = refl

words-first : TakesWords LeftmostFirst three ((2, 49) ∷ [])
unfolding transition_bytes_of classes_of class_of
words-first = refl

words-alone : TakesWords Standard alone ((0, 36) ∷ (1, 36) ∷ (2, 41) ∷ (6, 57) ∷ [])
unfolding transition_bytes_of classes_of class_of
words-alone = refl

words-empty : TakesWords Standard ([] ∷ []) ((2, 11) ∷ [])
unfolding transition_bytes_of classes_of class_of
words-empty = refl

words-empty-twice : TakesWords Standard ([] ∷ [] ∷ []) ((0, 15) ∷ [])
unfolding transition_bytes_of classes_of class_of
words-empty-twice = refl

-- each letter leads on in both cases
words-folded : TakesFoldedWords (codes "ab" ∷ []) ((2, true, 39) ∷ (0, true, 35) ∷ (0, false, 782) ∷ [])
unfolding transition_bytes_of classes_of class_of singletons
words-folded = refl

-- a state of 127 transitions and one of 128, over 131 classes
words-many : words_of_state Sparse 131 127 0 ∷ words_of_state Dense 131 128 0 ∷ [] ≡ 161 ∷ 133 ∷ []
words-many = refl

entries-none : TakesEntries Standard [] ((Unanchored, 4) ∷ (Both, 4) ∷ [])
unfolding classes_of class_of stride2
entries-none = refl

entries-three : TakesEntries Standard three ((Unanchored, 72) ∷ (AnchoredAlone, 72) ∷ (Both, 112) ∷ [])
unfolding classes_of class_of stride2
entries-three = refl

entries-first : TakesEntries LeftmostFirst three ((Unanchored, 64) ∷ (Both, 96) ∷ [])
unfolding classes_of class_of stride2
entries-first = refl

entries-alone : TakesEntries Standard alone ((Unanchored, 64) ∷ (Both, 96) ∷ [])
unfolding classes_of class_of stride2
entries-alone = refl

-- each byte is a class of its own
entries-of-all-bytes : table_rows Both (state_count Standard (plain_of (built_of Standard false alone)))
    * stride (classes_by false false alone) ≡ 3072
unfolding singletons stride2
entries-of-all-bytes = refl
