-- Writing classes in words, four in each.
use Rattle.ac_util.proofs.Prelude.{◌≡◌, inl, inr, ℕ, ◌-◌, ◌<◌, ◌≤◌, List, [], ◌∷◌, ◌++◌, length, map, take, drop, refl, sym, ap, ◌∙◌, arith, slice_index, min, cases_lt, append-nil, drop-map, drop_at, length-append, nil_from_length, take-map, take_at, common_steps}
use Rattle.ac_engines.specs.Prelude.{class_words, Edge, word_of}

-- up to four classes stand in one word, which is filled up with the last one
pub class_words-one : (classes : List ℕ) → 0 < length classes → length classes ≤ 4
    → class_words classes ≡ word_of (slice_index classes (min 0 (length classes - 1)))
    (slice_index classes (min 1 (length classes - 1))) (slice_index classes (min 2 (length classes - 1)))
    (slice_index classes (min 3 (length classes - 1))) ∷ []
unfolding class_words
class_words-one [] some few = absurd (omega arith)
class_words-one (a ∷ []) some few = cc
class_words-one (a ∷ b ∷ []) some few = cc
class_words-one (a ∷ b ∷ c ∷ []) some few = cc
class_words-one (a ∷ b ∷ c ∷ d ∷ []) some few = cc
class_words-one (a ∷ b ∷ c ∷ d ∷ e ∷ classes) some few = absurd (omega arith)

-- the first four classes stand before the others
pub class_words-first : (classes : List ℕ)
    → class_words classes ≡ class_words (take 4 classes) ++ class_words (drop 4 classes)
unfolding class_words
class_words-first [] = refl
class_words-first (a ∷ []) = refl
class_words-first (a ∷ b ∷ []) = refl
class_words-first (a ∷ b ∷ c ∷ []) = refl
class_words-first (a ∷ b ∷ c ∷ d ∷ classes) = refl

-- the words of the next classes stand before those of the classes after them
class_words-next : (edges four rest : List Edge) → edges ≡ four ++ rest → length four ≡ min 4 (length edges)
    → class_words (map (λ e. e.class) edges)
    ≡ class_words (map (λ e. e.class) four) ++ class_words (map (λ e. e.class) rest)
unfolding class_words
class_words-next edges four rest parts long =
    let class = λ (e : Edge). e.class in
    let sum = ap length parts ∙ length-append four rest in
    elim (cases_lt (length edges) 4) [
      | inl short ↦
          let none = nil_from_length rest (omega arith) in
          rw (parts, none, append-nil four) (sym (append-nil (class_words (map class four))))
      | inr enough ↦
          let first = ap (take 4) parts ∙ take_at four rest 4 (omega arith) in
          let others = ap (drop 4) parts ∙ drop_at four rest 4 (omega arith) in
          class_words-first (map class edges)
          ∙ ap (λ classes. class_words classes ++ class_words (drop 4 (map class edges)))
          (take-map class 4 edges ∙ ap (map class) first)
          ∙ ap (λ classes. class_words (map class four) ++ class_words classes)
          (drop-map class 4 edges ∙ ap (map class) others)
    ]

-- where the word of the next classes is pushed, it stands with those of the classes that are left in place of the words
-- of all that were left
pub next-classes : (before now : List ℕ) (edges four rest : List Edge) (word : ℕ) → now ≡ before ++ word ∷ []
    → class_words (map (λ e. e.class) four) ≡ word ∷ [] → edges ≡ four ++ rest
    → length four ≡ min 4 (length edges)
    → now ++ class_words (map (λ e. e.class) rest) ≡ before ++ class_words (map (λ e. e.class) edges)
next-classes before now edges four rest word pushed one parts long = grind (arith, common_steps, class_words-next edges four rest parts long)

-- where no classes are left, nothing is
pub no-classes : (before : List ℕ) (edges : List Edge) → length edges ≡ 0
    → before ≡ before ++ class_words (map (λ e. e.class) edges)
unfolding class_words
no-classes before edges none = rw (nil_from_length edges none) (sym (append-nil before))
