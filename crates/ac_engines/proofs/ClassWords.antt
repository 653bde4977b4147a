-- Looking for a class in the class words of a sparse state.
use Rattle.ac_util.proofs.Prelude.{refl, ◌≡◌, ◌≢◌, ℕ, zero, suc, ◌+◌, ◌*◌, ◌/◌, ◌<◌, ◌≤◌, Bool, true, false, cond, List, [], ◌∷◌, length, map, drop, ap, sym, ◌∙◌, arith, All, slice_index_or, ◌==◌, rules, drop-cons, drop-nil, drop_all, drop-drop, drop-map, get_or-drop, get_or-map, length-drop, length-map, common_steps}
use Rattle.ac_engines.specs.Prelude.{AreNamed, class_words, Edge, FAIL, first_of, target_by, word_of}

-- the classes and the targets of transitions
abbrev pub edge_classes : List Edge → List ℕ
edge_classes es = map (λ e. e.class) es

abbrev pub targets_of : List Edge → List ℕ
targets_of es = map (λ e. e.target) es

-- a place below 4 is that of the target among these, and any other says that the target is the missing one
pub record Picks (targets : List ℕ) (place target default_target : ℕ) : Type 0 where
  pub within : place < 4 → place < length targets
  pub found : place < 4 → target ≡ slice_index_or targets place 0
  pub missed : 4 ≤ place → target ≡ default_target

hit : (targets : List ℕ) (place default_target : ℕ) → place < 4 → place < length targets
    → Picks targets place (slice_index_or targets place 0) default_target
hit targets place default_target low within = grind (arith, common_steps)

fallback : (targets : List ℕ) (default_target : ℕ) → Picks targets 4 default_target default_target
fallback targets default_target = grind (arith, common_steps)

-- the first of four tests that holds, or 4
abbrev pub first_true : Bool → Bool → Bool → Bool → ℕ
first_true t u v w = cond t 0 (cond u 1 (cond v 2 (cond w 3 4)))

-- the first test that holds picks its target, of four and of fewer, where the last test stands in for those after it
picks-four : (t u v w : Bool) (a b c d : ℕ) (more : List ℕ) (default_target : ℕ)
    → Picks (a ∷ b ∷ c ∷ d ∷ more) (first_true t u v w)
    (cond t a (cond u b (cond v c (cond w d default_target)))) default_target
picks-four true u v w a b c d more default_target = hit (a ∷ b ∷ c ∷ d ∷ more) 0 default_target (omega arith) (omega arith)
picks-four false true v w a b c d more default_target = hit (a ∷ b ∷ c ∷ d ∷ more) 1 default_target (omega arith) (omega arith)
picks-four false false true w a b c d more default_target = hit (a ∷ b ∷ c ∷ d ∷ more) 2 default_target (omega arith) (omega arith)
picks-four false false false true a b c d more default_target = hit (a ∷ b ∷ c ∷ d ∷ more) 3 default_target (omega arith) (omega arith)
picks-four false false false false a b c d more default_target = fallback (a ∷ b ∷ c ∷ d ∷ more) default_target

picks-three : (t u v : Bool) (a b c default_target : ℕ)
    → Picks (a ∷ b ∷ c ∷ []) (first_true t u v v) (cond t a (cond u b (cond v c default_target))) default_target
picks-three true u v a b c default_target = hit (a ∷ b ∷ c ∷ []) 0 default_target (omega arith) (omega arith)
picks-three false true v a b c default_target = hit (a ∷ b ∷ c ∷ []) 1 default_target (omega arith) (omega arith)
picks-three false false true a b c default_target = hit (a ∷ b ∷ c ∷ []) 2 default_target (omega arith) (omega arith)
picks-three false false false a b c default_target = fallback (a ∷ b ∷ c ∷ []) default_target

picks-two : (t u : Bool) (a b default_target : ℕ)
    → Picks (a ∷ b ∷ []) (first_true t u u u) (cond t a (cond u b default_target)) default_target
picks-two true u a b default_target = hit (a ∷ b ∷ []) 0 default_target (omega arith) (omega arith)
picks-two false true a b default_target = hit (a ∷ b ∷ []) 1 default_target (omega arith) (omega arith)
picks-two false false a b default_target = fallback (a ∷ b ∷ []) default_target

picks-one : (t : Bool) (a default_target : ℕ) → Picks (a ∷ []) (first_true t t t t) (cond t a default_target) default_target
picks-one true a default_target = hit (a ∷ []) 0 default_target (omega arith) (omega arith)
picks-one false a default_target = fallback (a ∷ []) default_target

module _ (class : ℕ) where
  -- what the first class word of transitions says of where a class leads: its four classes are those of the first
  -- transitions, and the words after it are those of the other transitions
  pub record ReadsWord (es : List Edge) (word : ℕ) (words : List ℕ) : Type 0 where
    pub a : ℕ
    pub b : ℕ
    pub c : ℕ
    pub d : ℕ
    pub small : (a < 256) × (b < 256) × (c < 256) × (d < 256)
    pub word_is : word ≡ word_of a b c d
    pub after : words ≡ class_words (edge_classes (drop 4 es))
    pub picks : Picks (targets_of es) (first_of a b c d class) (target_by FAIL es class)
        (target_by FAIL (drop 4 es) class)

  -- it does by its four classes, where its first word is known
  reads : (es : List Edge) (a b c d word : ℕ) (words : List ℕ) → (a < 256) × (b < 256) × (c < 256) × (d < 256)
      → word_of a b c d ∷ class_words (edge_classes (drop 4 es)) ≡ word ∷ words
      → Picks (targets_of es) (first_of a b c d class) (target_by FAIL es class) (target_by FAIL (drop 4 es) class)
      → ReadsWord es word words
  reads es a b c d word words small are picks = search rules

  pub says : (es : List Edge) (word : ℕ) (words : List ℕ) → All (λ e. e.class < 256) es
      → class_words (edge_classes es) ≡ word ∷ words → ReadsWord es word words
  unfolding class_words target_by
  says [] word words small are = absurd (let none = ap (λ (ns : List ℕ). length ns) are in omega (arith, none))
  says (a ∷ []) word words small are =
      let first = small 0 a (omega arith) in
      reads (a ∷ []) a.class a.class a.class a.class word words (first, first, first, first) are
      (picks-one (a.class == class) a.target FAIL)
  says (a ∷ b ∷ []) word words small are =
      let second = small 1 a (omega arith) in
      reads (a ∷ b ∷ []) a.class b.class b.class b.class word words (small 0 a (omega arith), second, second, second) are
      (picks-two (a.class == class) (b.class == class) a.target b.target FAIL)
  says (a ∷ b ∷ c ∷ []) word words small are =
      let third = small 2 a (omega arith) in
      reads (a ∷ b ∷ c ∷ []) a.class b.class c.class c.class word words
      (small 0 a (omega arith), small 1 a (omega arith), third, third) are
      (picks-three (a.class == class) (b.class == class) (c.class == class) a.target b.target c.target FAIL)
  says (a ∷ b ∷ c ∷ d ∷ es) word words small are =
      reads (a ∷ b ∷ c ∷ d ∷ es) a.class b.class c.class d.class word words
      (small 0 a (omega arith), small 1 a (omega arith), small 2 a (omega arith), small 3 a (omega arith)) are
      (picks-four (a.class == class) (b.class == class) (c.class == class) (d.class == class)
      a.target b.target c.target d.target (targets_of es) (target_by FAIL es class))

  -- four transitions on stand the others of one word on
  drop-class_words : (es : List Edge) (index : ℕ)
      → drop index (class_words (edge_classes es)) ≡ class_words (edge_classes (drop (4 * index) es))
  unfolding class_words
  drop-class_words es zero = refl
  drop-class_words [] (suc index) = rw (drop-nil {A = Edge} (4 * suc index)) refl
  drop-class_words (a ∷ []) (suc index) =
      rw (drop_all (4 * suc index) (a ∷ []) (omega arith)) (drop-nil {A = ℕ} index)
  drop-class_words (a ∷ b ∷ []) (suc index) =
      rw (drop_all (4 * suc index) (a ∷ b ∷ []) (omega arith)) (drop-nil {A = ℕ} index)
  drop-class_words (a ∷ b ∷ c ∷ []) (suc index) =
      rw (drop_all (4 * suc index) (a ∷ b ∷ c ∷ []) (omega arith)) (drop-nil {A = ℕ} index)
  drop-class_words (a ∷ b ∷ c ∷ d ∷ es) (suc index) =
      let four : 4 * suc index ≡ suc (suc (suc (suc (4 * index)))) = omega arith in
      rw four (drop-class_words es index)

  -- each class word says of the transitions that it stands for and of those after
  pub says-at : (es : List Edge) (index : ℕ) → All (λ e. e.class < 256) es
      → index < length (class_words (edge_classes es))
      → ReadsWord (drop (4 * index) es) (slice_index_or (class_words (edge_classes es)) index 0)
      (drop (suc index) (class_words (edge_classes es)))
  says-at es index small within = grind (arith, common_steps, drop-class_words, drop-cons, says)

-- the targets of transitions that lead to states are none that no state has
pub target-named : (es : List Edge) (at : ℕ) → AreNamed es → at < length (targets_of es)
    → slice_index_or (targets_of es) at 0 ≢ FAIL
target-named es at are within none =
    let some : Edge = record { class = 0; target = 0 } in
    let inside = (let same = length-map es (λ e. e.target) in let low : at < length es = omega arith in low) in
    are at some inside (sym (get_or-map (λ e. e.target) es at some 0 inside) ∙ none)

-- there are as many class words as it takes to hold the classes
pub length-class_words : (classes : List ℕ) → length (class_words classes) ≡ (length classes + 3) / 4
unfolding class_words
length-class_words [] = refl
length-class_words (a ∷ []) = refl
length-class_words (a ∷ b ∷ []) = refl
length-class_words (a ∷ b ∷ c ∷ []) = refl
length-class_words (a ∷ b ∷ c ∷ d ∷ classes) = let more = length-class_words classes in omega arith

module _ (es : List Edge) (front : List ℕ) (is : front ≡ class_words (edge_classes es)) (class index : ℕ) where
  -- after the last class word there are no transitions
  pub none-left : length front ≤ index → target_by FAIL (drop (4 * index) es) class ≡ FAIL
  unfolding target_by
  none-left past =
      let enough = length-class_words (edge_classes es) in
      let same = length-map es (λ e. e.class) in
      let counts = ap (λ (ns : List ℕ). length ns) is in
      rw (drop_all (4 * index) es (omega (arith, enough, same, counts, past))) refl

  module _ (place : ℕ) (small : All (λ e. e.class < 256) es) (within : index < length front)
      (seen : (a b c d : ℕ) → a < 256 → b < 256 → c < 256 → d < 256
      → slice_index_or front index 0 ≡ word_of a b c d → place ≡ first_of a b c d class) where
    -- the place of a class in the class word at an index picks from the targets there
    picks-at : Picks (targets_of (drop (4 * index) es)) place (target_by FAIL (drop (4 * index) es) class)
        (target_by FAIL (drop 4 (drop (4 * index) es)) class)
    picks-at = search (rules, says-at, says-at class es)

    -- a place below 4 is that of a transition
    pub place-within : place < 4 → 4 * index + place < length (targets_of es)
    place-within low = grind (arith, common_steps, drop-map, length-drop, picks-at)

    -- there the class leads
    pub place-found : place < 4
        → target_by FAIL (drop (4 * index) es) class ≡ slice_index_or (targets_of es) (4 * index + place) 0
    place-found low = grind (arith, common_steps, drop-map, get_or-drop, picks-at)

    -- or it leads where the transitions after these lead it
    pub place-missed : 4 ≤ place
        → target_by FAIL (drop (4 * index) es) class ≡ target_by FAIL (drop (4 * (index + 1)) es) class
    place-missed not = grind (arith, common_steps, picks-at.missed not, drop-drop 4 (4 * index) es)
