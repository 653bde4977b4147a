-- What stands where in the words of a state.
use Rattle.ac_util.proofs.Prelude.{refl, ◌≡◌, ◌≢◌, ℕ, ◌+◌, ◌*◌, ◌-◌, ◌/◌, ◌%◌, ◌<◌, ◌≤◌, List, [], ◌∷◌, ◌++◌, length, map, take, drop, Some, None, ap, sym, ◌∙◌, arith, ◌==◌, All, slice_index_or, rules, range_with_len, cond-false, cond-true, eq-eqb, ne_eqb, div_ceil_times, common_steps, append_assoc, get_or-drop, length-append, length-drop, length-map, take_all, get_or-map-range_with_len, length-map-range_with_len}
use Rattle.ac_engines.specs.Prelude.{AreNamed, BeginsWith, class_words, DENSE, Dense, Edge, FAIL, Format, match_list_words, named, ONE, One, one_words, Sparse, format_words, PackedState, target_by}
use Rattle.std.specs.Int.{div_ceil}
use Rattle.ac_engines.proofs.ClassWords.{edge_classes, length-class_words, targets_of}

-- as many class words as the code counts hold the classes of the transitions
counted : (es : List Edge) (transitions : ℕ) → transitions ≡ length es
    → length (class_words (edge_classes es)) ≡ div_ceil transitions 4
counted es transitions are = search (rules, div_ceil_times, length-class_words, length-map)

-- what the low byte of the bytes that were read is, it is of their source
pub low-byte : (bytes source : List ℕ) (n : ℕ) → bytes ≡ source → slice_index_or bytes 0 0 ≡ n → slice_index_or source 0 0 ≡ n
low-byte bytes source n same is = sym (ap (λ (ns : List ℕ). slice_index_or ns 0 0) same) ∙ is

-- a word names a target, or none
pub named-some : (target : ℕ) → target ≢ FAIL → Some target ≡ named target
named-some target some = sym (cond-false (target == FAIL) None (Some target) (ne_eqb target FAIL some))

pub named-none : (target : ℕ) → target ≡ FAIL → None ≡ named target
named-none target none = sym (cond-true (target == FAIL) None (Some target) (eq-eqb target FAIL none))

-- and what a word names is its target
pub some-named : (target next : ℕ) → named target ≡ Some next → (next ≡ target) × (next ≢ FAIL)
some-named target next names = grind (arith, common_steps)

pub none-named : (target : ℕ) → named target ≡ None → target ≡ FAIL
none-named target names = grind (arith, common_steps)

module _ (words : List ℕ) (classes : ℕ) (s : PackedState) where
  -- the words of a sparse state, one part after the other
  pub sparse-words : (h : BeginsWith words Sparse classes s)
      → words ≡ length s.edges ∷ s.failure ∷ class_words (edge_classes s.edges)
      ++ (targets_of s.edges ++ (match_list_words s.matches ++ h.rest))
  unfolding format_words
  sparse-words h =
      h.words_are
      ∙ ap (λ (ns : List ℕ). length s.edges ∷ s.failure ∷ ns)
      (append_assoc (class_words (edge_classes s.edges) ++ targets_of s.edges) (match_list_words s.matches) h.rest
      ∙ append_assoc (class_words (edge_classes s.edges)) (targets_of s.edges) (match_list_words s.matches ++ h.rest))

  -- all words after the first two
  abbrev pub after : List ℕ
  after = take (length words - 2) (drop 2 words)

  -- what the code splits the words of a sparse state into: its class words, and its targets with what stands after
  pub record SplitsAt (transitions count : ℕ) : Type 0 where
    pub long : 2 ≤ length words
    pub enough : count ≤ length after
    pub front : take count after ≡ class_words (edge_classes s.edges)
    pub more : List ℕ
    pub back : drop count after ≡ targets_of s.edges ++ more
    pub small : All (λ e. e.class < 256) s.edges

  pub splits-at : (transitions count : ℕ) → BeginsWith words Sparse classes s → transitions ≡ length s.edges
      → count ≡ div_ceil transitions 4 → SplitsAt transitions count
  splits-at transitions count h are counts =
      grind (
        arith,
        common_steps,
        sparse-words h,
        take_all (length words - 2) (drop 2 words) (rw (length-drop 2 words) (omega arith)),
        length-drop 2 words,
        counted s.edges transitions are,
        length-append (class_words (edge_classes s.edges)) (targets_of s.edges ++ (match_list_words s.matches ++ h.rest)),
      )

  -- the words of a dense state, one part after the other
  pub dense-words : (h : BeginsWith words Dense classes s)
      → words ≡ DENSE ∷ s.failure ∷ map (target_by s.default_target s.edges) (range_with_len 0 classes)
      ++ (match_list_words s.matches ++ h.rest)
  unfolding format_words
  dense-words h =
      h.words_are
      ∙ append_assoc (DENSE ∷ s.failure ∷ map (target_by s.default_target s.edges) (range_with_len 0 classes))
      (match_list_words s.matches) h.rest

  -- the transition of a state that has one, and its words
  pub record HasOne (rest : List ℕ) : Type 0 where
    pub edge : Edge
    pub only : s.edges ≡ edge ∷ []
    pub words_are : words ≡ (ONE + 256 * edge.class) ∷ s.failure ∷ edge.target ∷ rest

  has-one : (edges : List Edge) (rest : List ℕ) → s.edges ≡ edges → length edges ≡ 1
      → words ≡ one_words s.failure edges ++ rest → HasOne rest
  has-one [] rest are one h = absurd (omega (arith, one))
  has-one (e ∷ []) rest are one h = record { edge = e; only = are; words_are = h }
  has-one (e ∷ f ∷ edges) rest are one h = absurd (omega (arith, one))

  pub one-words : (h : BeginsWith words One classes s) → HasOne h.rest
  unfolding format_words
  one-words h = let (single, unmatched, leads_nowhere) = h.fits in has-one s.edges h.rest refl single h.words_are

  -- a dense state leads by each class where the word of that class says
  pub record LeadsAt (class : ℕ) : Type 0 where
    pub within : 2 + class < length words
    pub target : slice_index_or words (2 + class) 0 ≡ target_by s.default_target s.edges class

  pub leads-at : (class : ℕ) → BeginsWith words Dense classes s → class < classes → LeadsAt class
  leads-at class h low =
      grind (
        arith,
        common_steps,
        dense-words h,
        length-map-range_with_len (target_by s.default_target s.edges) 0 classes,
        length-drop 2 words,
        get_or-drop 2 words class 0,
        get_or-map-range_with_len (target_by s.default_target s.edges) 0 classes class class 0 low (omega arith),
      )

  -- where a state with one transition leads by a class, whose byte stands beside the form
  pub record LeadsOne (class : ℕ) : Type 0 where
    pub within : 2 < length words
    pub hit : slice_index_or words 0 0 / 256 % 256 ≡ class → AreNamed s.edges
        → Some (slice_index_or words 2 0) ≡ named (target_by s.default_target s.edges class)
    pub fallback : slice_index_or words 0 0 / 256 % 256 ≢ class → None ≡ named (target_by s.default_target s.edges class)

  one-target : (e : Edge) (class : ℕ) → s.edges ≡ e ∷ [] → e.class ≡ class
      → target_by s.default_target s.edges class ≡ e.target
  unfolding target_by
  one-target e class only same = rw (only, eq-eqb e.class class same) refl

  no-target : (e : Edge) (class : ℕ) → s.edges ≡ e ∷ [] → e.class ≢ class
      → target_by s.default_target s.edges class ≡ s.default_target
  unfolding target_by
  no-target e class only other = rw (only, ne_eqb e.class class other) refl

  pub leads-one : (class : ℕ) → BeginsWith words One classes s → LeadsOne class
  leads-one class h = grind (arith, common_steps, one-words h, one-target, named-none, no-target)

  -- the second word is the failure target
  pub record HasFailure : Type 0 where
    pub within : 1 < length words
    pub failure : slice_index_or words 1 0 ≡ s.failure

  has-failure-words : (first : ℕ) (more : List ℕ) → words ≡ first ∷ s.failure ∷ more → HasFailure
  has-failure-words first more are = grind (arith, common_steps)

  pub has-failure : (format : Format) → BeginsWith words format classes s → HasFailure
  has-failure Dense h = has-failure-words _ _ (dense-words h)
  has-failure One h = has-failure-words _ _ (one-words h).words_are
  has-failure Sparse h = has-failure-words _ _ (sparse-words h)

  -- the low byte of the first word says which form a state has
  abbrev pub form : ℕ
  form = slice_index_or words 0 0 % 256

  pub form-dense : BeginsWith words Dense classes s → form ≡ 255
  form-dense h = ap (λ (ns : List ℕ). slice_index_or ns 0 0 % 256) (dense-words h)

  pub form-one : BeginsWith words One classes s → form ≡ 254
  form-one h = grind (arith, common_steps, one-words h)

  -- that of a sparse state is the number of its transitions, of which there are few
  pub record HasSparseForm : Type 0 where
    pub counts : form ≡ length s.edges
    pub few : length s.edges ≤ 127

  pub form-sparse : BeginsWith words Sparse classes s → HasSparseForm
  form-sparse h = grind (arith, common_steps, sparse-words h)

  pub is-dense : (format : Format) → BeginsWith words format classes s → form ≡ 255 → BeginsWith words Dense classes s
  is-dense Dense h says = h
  is-dense One h says = let one = form-one h in absurd (omega (arith, one, says))
  is-dense Sparse h says = let sparse = form-sparse h in absurd (omega (arith, sparse.counts, sparse.few, says))

  pub is-one : (format : Format) → BeginsWith words format classes s → form ≡ 254 → BeginsWith words One classes s
  is-one Dense h says = let dense = form-dense h in absurd (omega (arith, dense, says))
  is-one One h says = h
  is-one Sparse h says = let sparse = form-sparse h in absurd (omega (arith, sparse.counts, sparse.few, says))

  -- what is known of a sparse state: its low byte is the number of its transitions
  pub record IsSparse : Type 0 where
    pub begins : BeginsWith words Sparse classes s
    pub counts : form ≡ length s.edges

  pub is-sparse : (format : Format) → BeginsWith words format classes s → form ≢ 255 → form ≢ 254 → IsSparse
  is-sparse Dense h dense one = absurd (dense (form-dense h))
  is-sparse One h dense one = absurd (one (form-one h))
  is-sparse Sparse h dense one = record { begins = h; counts = (form-sparse h).counts }

  -- the matches of a state stand from a place on
  pub record ListsFrom (place : ℕ) (rest : List ℕ) : Type 0 where
    pub within : place ≤ length words
    pub lists : take (length words - place) (drop place words) ≡ match_list_words s.matches ++ rest

  lists-from : (place : ℕ) (front rest : List ℕ) → words ≡ front ++ (match_list_words s.matches ++ rest)
      → length front ≡ place → ListsFrom place rest
  lists-from place front rest are long = grind (arith, common_steps)

  pub dense-lists : (format : Format) (h : BeginsWith words format classes s) → form ≡ 255
      → ListsFrom (2 + classes) h.rest
  dense-lists Dense h says =
      let many = length-map-range_with_len (target_by s.default_target s.edges) 0 classes in
      lists-from (2 + classes) (DENSE ∷ s.failure ∷ map (target_by s.default_target s.edges) (range_with_len 0 classes)) h.rest
      (dense-words h) (omega (arith, many))
  dense-lists One h says = let one = form-one h in absurd (omega (arith, one, says))
  dense-lists Sparse h says = let sparse = form-sparse h in absurd (omega (arith, sparse.counts, sparse.few, says))

  pub sparse-lists : (format : Format) (h : BeginsWith words format classes s) (low count : ℕ) → low ≡ form
      → low ≢ 255 → s.matches ≢ [] → count ≡ div_ceil low 4 → ListsFrom (2 + count + low) h.rest
  sparse-lists Dense h low count is says some counts = absurd (says (is ∙ form-dense h))
  sparse-lists One h low count is says some counts =
      let (single, unmatched, leads_nowhere) = h.fits in absurd (some unmatched)
  sparse-lists Sparse h low count is says some counts =
      let transitions = is ∙ (form-sparse h).counts in
      let same = counted s.edges low transitions in
      let targets = length-map s.edges (λ e. e.target) in
      let both = length-append (class_words (edge_classes s.edges)) (targets_of s.edges) in
      lists-from (2 + count + low)
      (length s.edges ∷ s.failure ∷ (class_words (edge_classes s.edges) ++ targets_of s.edges)) h.rest
      (sparse-words h ∙ ap (λ (ns : List ℕ). length s.edges ∷ s.failure ∷ ns)
      (sym (append_assoc (class_words (edge_classes s.edges)) (targets_of s.edges) (match_list_words s.matches ++ h.rest))))
      (omega (arith, transitions, same, targets, both, counts))
