-- Which transitions stand in the words of a state.
use Rattle.ac_util.proofs.Prelude.{refl, ◌≡◌, ◌≢◌, ℕ, zero, suc, ◌+◌, ◌/◌, ◌%◌, ◌<◌, List, [], ◌∷◌, length, map, take, drop, ap, sym, subst, ◌∙◌, arith, All, slice_index_or, Option, Some, None, rules, Bor, range_with_len, get_or_append_left, All-drop, length-map-range_with_len, common_steps}
use Rattle.ac_engines.specs.Prelude.{BeginsWith, class_of_place, class_words, Dense, Edge, edges_from, Format, One, Sparse, PackedState, target_by, transitions_of_state, word_of}
use Rattle.std.specs.Iterator.{MakesProgress, item_count}
use Rattle.std.specs.Int.{div_ceil, to_le_bytes, w32}
use Rattle.ac_engines.proofs.ClassWords.{edge_classes, targets_of}
use Rattle.ac_engines.proofs.PackedWords.{after, dense-words, form, form-dense, form-one, form-sparse, one-words, splits-at}

-- the targets of transitions, by the classes of these, make up the transitions
edges-from : (class_of : ℕ → ℕ) (place : ℕ) (es : List Edge)
    → ((k : ℕ) → k < length es → class_of (place + k) ≡ slice_index_or (edge_classes es) k 0)
    → edges_from class_of place (targets_of es) ≡ es
unfolding edges_from
edges-from class_of place [] are = refl
edges-from class_of place (e ∷ es) are =
    let here : place + 0 ≡ place = omega arith in
    let first = sym (ap class_of here) ∙ are 0 (omega arith) in
    let others = edges-from class_of (place + 1) es (λ k low.
    let next : place + 1 + k ≡ place + suc k = omega arith in
    ap class_of next ∙ are (suc k) (omega (arith, low))) in
    ap (λ (class : ℕ). record { class = class; target = e.target } ∷ edges_from class_of (place + 1) (targets_of es)) first
    ∙ ap (λ (rest : List Edge). e ∷ rest) others

-- targets of all classes from one on make up a transition for each class
edges-of-all : (to : ℕ → ℕ) (class n : ℕ)
    → edges_from (class_of_place None) class (map to (range_with_len class n))
    ≡ map (λ c. record { class = c; target = to c }) (range_with_len class n)
unfolding edges_from
edges-of-all to class zero = refl
edges-of-all to class (suc n) =
    ap (λ (rest : List Edge). record { class = class; target = to class } ∷ rest) (edges-of-all to (class + 1) n)

-- the class at a place of class words
abbrev packed_class : List ℕ → ℕ → ℕ
packed_class words place = slice_index_or (to_le_bytes w32 (slice_index_or words (place / 4) 0)) (place % 4) 0

-- four classes of a word are bytes
record AreBytes (a b c d : ℕ) : Type 0 where
  first : a < 256
  second : b < 256
  third : c < 256
  fourth : d < 256

-- each byte of a class word is the class at its place
byte-of : (a b c d place : ℕ) → AreBytes a b c d → place < 4
    → slice_index_or (to_le_bytes w32 (word_of a b c d)) place 0 ≡ slice_index_or (a ∷ b ∷ c ∷ d ∷ []) place 0
byte-of a b c d zero bytes low = omega (arith, bytes.first)
byte-of a b c d (suc zero) bytes low = omega (arith, bytes.first, bytes.second)
byte-of a b c d (suc (suc zero)) bytes low = omega (arith, bytes.first, bytes.second, bytes.third)
byte-of a b c d (suc (suc (suc zero))) bytes low = omega (arith, bytes.first, bytes.second)
byte-of a b c d (suc (suc (suc (suc place)))) bytes low = absurd (omega (arith, low))

-- the first four places are those of the first word
packed-first : (a b c d : ℕ) (words : List ℕ) (place : ℕ) → AreBytes a b c d → place < 4
    → packed_class (word_of a b c d ∷ words) place ≡ slice_index_or (a ∷ b ∷ c ∷ d ∷ []) place 0
packed-first a b c d words place bytes low = grind (arith, common_steps, byte-of a b c d place bytes low)

-- a word of four classes comes before the words of others
packed-four : (a b c d : ℕ) (words classes : List ℕ) (place : ℕ) → AreBytes a b c d
    → ((k : ℕ) → place ≡ 4 + k → packed_class words k ≡ slice_index_or classes k 0)
    → packed_class (word_of a b c d ∷ words) place ≡ slice_index_or (a ∷ b ∷ c ∷ d ∷ classes) place 0
packed-four a b c d words classes zero bytes others = packed-first a b c d words 0 bytes (omega arith)
packed-four a b c d words classes (suc zero) bytes others = packed-first a b c d words 1 bytes (omega arith)
packed-four a b c d words classes (suc (suc zero)) bytes others = packed-first a b c d words 2 bytes (omega arith)
packed-four a b c d words classes (suc (suc (suc zero))) bytes others = packed-first a b c d words 3 bytes (omega arith)
packed-four a b c d words classes (suc (suc (suc (suc place)))) bytes others = search rules

-- the class at a place of class words is that of the transition at that place
packed-class : (es : List Edge) (place : ℕ) → All (λ e. e.class < 256) es → place < length es
    → packed_class (class_words (edge_classes es)) place ≡ slice_index_or (edge_classes es) place 0
unfolding class_words
packed-class [] place small low = absurd (omega (arith, low))
packed-class (a ∷ []) place small low =
    let first = small 0 a (omega arith) in
    packed-first a.class a.class a.class a.class [] place
    (record { first = first; second = first; third = first; fourth = first }) (omega (arith, low))
    ∙ get_or_append_left (a.class ∷ []) (a.class ∷ a.class ∷ a.class ∷ []) 0 place low
packed-class (a ∷ b ∷ []) place small low =
    let last = small 1 b (omega arith) in
    packed-first a.class b.class b.class b.class [] place
    (record { first = small 0 a (omega arith); second = last; third = last; fourth = last }) (omega (arith, low))
    ∙ get_or_append_left (a.class ∷ b.class ∷ []) (b.class ∷ b.class ∷ []) 0 place low
packed-class (a ∷ b ∷ c ∷ []) place small low =
    let last = small 2 c (omega arith) in
    packed-first a.class b.class c.class c.class [] place
    (record { first = small 0 a (omega arith); second = small 1 b (omega arith); third = last; fourth = last })
    (omega (arith, low))
    ∙ get_or_append_left (a.class ∷ b.class ∷ c.class ∷ []) (c.class ∷ []) 0 place low
packed-class (a ∷ b ∷ c ∷ d ∷ es) place small low =
    packed-four a.class b.class c.class d.class (class_words (edge_classes es)) (edge_classes es) place
    (record {
      first = small 0 a (omega arith);
      second = small 1 b (omega arith);
      third = small 2 c (omega arith);
      fourth = small 3 d (omega arith);
    })
    (λ k after. packed-class es k (All-drop (λ e. e.class < 256) 4 (a ∷ b ∷ c ∷ d ∷ es) small)
    (omega (arith, low, after)))

module _ (words : List ℕ) (classes : ℕ) (s : PackedState) (targets : List ℕ) where
  -- a dense state has a target for each class
  pub dense-transitions : (format : Format) → BeginsWith words format classes s → form words classes s ≡ 255
      → targets ≡ take classes (drop 2 words)
      → edges_from (class_of_place None) 0 targets ≡ transitions_of_state format classes s
  dense-transitions Dense h says are =
      grind (arith, common_steps, dense-words words classes s h, edges-of-all (target_by s.default_target s.edges) 0 classes, length-map-range_with_len)
  dense-transitions One h says are = let one = form-one words classes s h in absurd (omega (arith, one, says))
  dense-transitions Sparse h says are = grind (arith, common_steps, form-sparse words classes s h)

  -- a state with one transition has one target, and its class stands beside the form
  pub one-transition : (format : Format) (class : ℕ) → BeginsWith words format classes s → form words classes s ≡ 254
      → class ≡ slice_index_or words 0 0 / 256 % 256 → targets ≡ take 1 (drop 2 words)
      → edges_from (class_of_place None) class targets ≡ transitions_of_state format classes s
  unfolding edges_from
  one-transition Dense class h says is are =
      let dense = form-dense words classes s h in absurd (omega (arith, dense, says))
  one-transition One class h says is are =
      let one = one-words words classes s h in
      let first = ap (λ (ns : List ℕ). slice_index_or ns 0 0) one.words_are in
      let below = subst (λ (es : List Edge). All (λ e. e.class < classes) es) one.only h.below 0 one.edge (omega arith) in
      let few = h.few in
      let same : class ≡ one.edge.class = omega (arith, is, first, below, few) in
      let front : targets ≡ one.edge.target ∷ [] =
      are ∙ ap (λ (ns : List ℕ). take 1 (drop 2 ns)) one.words_are in
      rw (front, same) (sym one.only)
  one-transition Sparse class h says is are =
      let sparse = form-sparse words classes s h in absurd (omega (arith, sparse.counts, sparse.few, says))

  -- after the class words of a sparse state stand the targets of its transitions
  pub sparse-targets : (transitions count : ℕ) → BeginsWith words Sparse classes s → transitions ≡ length s.edges
      → count ≡ div_ceil transitions 4 → targets ≡ take transitions (drop count (after words classes s))
      → targets ≡ targets_of s.edges
  sparse-targets transitions count h counts words_are are =
      grind (arith, common_steps, splits-at words classes s transitions count h counts words_are)

  -- they make up its transitions, by the classes in the class words
  pub sparse-transitions : (format : Format) (transitions count : ℕ) (front : Bor (List ℕ))
      → BeginsWith words format classes s → transitions ≡ form words classes s → transitions ≢ 255 → transitions ≢ 254
      → count ≡ div_ceil transitions 4 → front.now ≡ take count (after words classes s)
      → targets ≡ take transitions (drop count (after words classes s))
      → edges_from (class_of_place (Some front)) 0 targets ≡ transitions_of_state format classes s
  sparse-transitions Dense transitions count front h is dense one words_are front_is are =
      absurd (dense (is ∙ form-dense words classes s h))
  sparse-transitions One transitions count front h is dense one words_are front_is are =
      absurd (one (is ∙ form-one words classes s h))
  sparse-transitions Sparse transitions count front h is dense one words_are front_is are =
      let counts = is ∙ (form-sparse words classes s h).counts in
      let split = splits-at words classes s transitions count h counts words_are in
      ap (λ (ns : List ℕ). edges_from (class_of_place (Some front)) 0 ns)
      (sparse-targets transitions count h counts words_are are)
      ∙ edges-from (class_of_place (Some front)) 0 s.edges (λ k low.
      let here : 0 + k ≡ k = omega arith in
      ap (λ (place : ℕ). packed_class front.now place) here
      ∙ ap (λ (ns : List ℕ). packed_class ns k) (front_is ∙ split.front) ∙ packed-class s.edges k split.small low)

-- where no target is left there is no transition
pub none-left : (class_of : ℕ → ℕ) (place : ℕ) (targets : List ℕ) → length targets ≡ 0
    → edges_from class_of place targets ≡ []
unfolding edges_from
none-left class_of place [] none = refl
none-left class_of place (target ∷ targets) none = absurd (omega (arith, none))

-- the first transition is that to the first target
pub first-edge : (words : Option (Bor (List ℕ))) (place class target : ℕ) (all targets : List ℕ)
    → all ≡ target ∷ targets → class ≡ class_of_place words place
    → edges_from (class_of_place words) place all
    ≡ record { class = class; target = target } ∷ edges_from (class_of_place words) (place + 1) targets
unfolding edges_from
first-edge words place class target all targets are is = rw (are, is) refl

-- a call that gives the first transition leaves fewer
pub goes-on : (can : List Edge → Type 0) → ((left : List Edge) → can left) → (old new : List Edge) (e : Edge)
    → old ≡ e ∷ new → MakesProgress can (item_count (λ left. left)) old (Some e) new
goes-on can always old new e is = grind (arith, common_steps)
