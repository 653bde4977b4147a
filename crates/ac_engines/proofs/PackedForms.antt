-- What the states of a trie spell can be packed in their forms.
use Rattle.ac_util.proofs.Prelude.{◌≡◌, inl, inr, ℕ, zero, suc, ◌+◌, ◌-◌, ◌<◌, ◌≤◌, List, [], ◌∷◌, length, map, slice_index_or, refl, ap, subst, sym, arith, Some, None, slice_get, rules, false, All, range_with_len, IsStrictlyIncreasing, cases_lt, ltb-false, get_or_past, length-map, All-map, common_steps, if◌then◌else◌, nat_eq}
use Rattle.ac_engines.specs.Prelude.{alphabet_len, AreClasses, class_at, failure, No, Node, Yes, leads_on, matches_of, transition_bytes_of, AreReady, Edge, edges_of, FAIL, Format, format_for, format_of, has_matches, MayPack, One, ONE_MATCH, one_words, packed_of, Packer, PackPlan, places_of, format_words, PackedState, packed_state, state_words, Fits, ANCHORED_START}
use Rattle.ac_util.proofs.ClassLemmas.{stands-from_node}
use Rattle.ac_util.proofs.ClassLists.{alphabet_len-few, class_at-below}
use Rattle.ac_util.proofs.Lists.{AllPairs-from_IsOrdered, All-from_IsIn, Contains-from_IsIn, IsIn, IsOrdered, IsOrdered-filter, IsOrdered-map, IsOrdered-range}
use Rattle.ac_engines.proofs.Filled.{transition_bytes_of-only, transition_bytes_of-small}
use Rattle.ac_engines.proofs.MatchCounts.{matches-few, matches-numbered}
use Rattle.ac_engines.proofs.PackedNodes.{edge_by, edges-packed_at, matches-packed_at, string-of}

module _ (s : PackedState) (default_target : s.default_target ≡ FAIL) where
  -- the form of a state that leads nowhere by default fits it
  format-fits : (depth dense_depth transitions matches : ℕ) → length s.edges ≡ transitions
      → length s.matches ≡ matches → Fits (format_of depth dense_depth transitions matches) s
  format-fits depth dense_depth transitions matches edges listed = grind (arith, common_steps)

-- of the classes of all bytes that of a byte so many places after another is no less
classes-rise : (classes : List ℕ) → AreClasses classes → (n a : ℕ) → a + n < 256
    → class_at classes a ≤ class_at classes (a + n)
classes-rise classes are zero a within = omega (arith, ap (class_at classes) (let e : a + 0 ≡ a = omega arith in e))
classes-rise classes are (suc n) a within =
    omega (
      arith,
      ap (class_at classes) (let e : a + suc n ≡ a + n + 1 = omega arith in e),
      are.rises (a + n) (omega arith),
      classes-rise classes are n a (omega arith),
    )

-- a function that rises along the elements of a list
rises-through : (g : ℕ → ℕ) (xs : List ℕ) → ((a b : ℕ) → IsIn a xs → IsIn b xs → a < b → g a < g b)
    → IsOrdered (λ a b. a < b) xs → IsOrdered (λ a b. g a < g b) xs
rises-through g [] rises o = tt
rises-through g (x ∷ xs) rises o =
    ((λ y h. rises x y (inl refl) (inr h) (o.0 y h)), rises-through g xs (λ a b h k. rises a b (inr h) (inr k)) o.1)

module _ (q : PackPlan) (nodes : List Node) (may : MayPack q nodes) where
  -- of two own bytes the later one has the greater class
  own-rises : (w : List ℕ) (a b : ℕ) → IsIn a (transition_bytes_of q.trie.built (Some w)) → IsIn b (transition_bytes_of q.trie.built (Some w))
      → a < b → class_at q.classes a < class_at q.classes b
  own-rises w a b first second before =
      let built = q.trie.built in
      let has = Contains-from_IsIn b (transition_bytes_of built (Some w)) second in
      let small = transition_bytes_of-small built (Some w) b has in
      let stands = stands-from_node built.ignores_case built.patterns built.kind w b (transition_bytes_of-only built (Some w) b has) in
      let up = classes-rise q.classes may.classes (b - a) a (omega arith) in
      let at : a + (b - a) ≡ b = omega arith in
      elim (cases_lt (class_at q.classes a) (class_at q.classes b)) [
        | inl less ↦ less
        | inr more ↦ absurd (let same = may.apart.own a b (omega arith) small stands
            (omega (arith, up, more, ap (class_at q.classes) at)) in omega arith)
      ]

  -- own bytes rise
  own-ordered : (u : Node) → IsOrdered (λ a b. a < b) (transition_bytes_of q.trie.built u)
  unfolding transition_bytes_of
  own-ordered u = IsOrdered-filter (λ a b. a < b) (leads_on q.trie.built u) (range_with_len 0 256) (IsOrdered-range 0 256)

  module _ (words numbers w : List ℕ) where
    -- classes of own transitions rise
    edges-ascend : IsStrictlyIncreasing (map (λ (e : Edge). e.class) (edges_of (packed_of q nodes numbers words) (places_of q nodes numbers) w))
    edges-ascend =
        let p = packed_of q nodes numbers words in
        let at = places_of q nodes numbers in
        let own = transition_bytes_of q.trie.built (Some w) in
        let bytes = rises-through (class_at q.classes) own (own-rises w) (own-ordered (Some w)) in
        let edges = IsOrdered-map (λ a b. class_at q.classes a < class_at q.classes b) (λ (e g : Edge). e.class < g.class)
        (edge_by p at w) own (λ a b h. h) bytes in
        let classes = IsOrdered-map (λ (e g : Edge). e.class < g.class) (λ a b. a < b) (λ (e : Edge). e.class)
        (edges_of p at w) (λ e g h. h) edges in
        let pairs = AllPairs-from_IsOrdered (λ a b. a < b) (map (λ (e : Edge). e.class) (edges_of p at w)) classes in
        λ k within. pairs k (k + 1) 0 (omega arith) within

    -- and are below their number
    edges-below : All (λ e. e.class < alphabet_len q.classes) (edges_of (packed_of q nodes numbers words) (places_of q nodes numbers) w)
    edges-below =
        All-map (λ (e : Edge). e.class < alphabet_len q.classes)
        (edge_by (packed_of q nodes numbers words) (places_of q nodes numbers) w) (transition_bytes_of q.trie.built (Some w))
        (All-from_IsIn (λ b. class_at q.classes b < alphabet_len q.classes) (transition_bytes_of q.trie.built (Some w))
        (λ b has. class_at-below q.classes may.classes b
        (transition_bytes_of-small q.trie.built (Some w) b (Contains-from_IsIn b (transition_bytes_of q.trie.built (Some w)) has))))

  -- matches are numbers of patterns
  matches-small : (u : Node) (k : ℕ) → slice_index_or (matches_of q.trie.built No u) k 0 < ONE_MATCH
  matches-small u k = search (rules, cases_lt, get_or_past, matches-numbered)

  -- and there are few of them
  matches-below : (u : Node) → length (matches_of q.trie.built No u) < ONE_MATCH
  matches-below u = let few = may.few in let numbered = matches-few q.trie.built u in omega arith

-- what a state spells can be packed in its form
pub record Spells (f : Packer) (nodes : List Node) (s : ℕ) (u : Node) : Type 0 where
  pub fits : Fits (format_for f.plan u) (packed_state f nodes s u)
  pub few : alphabet_len f.plan.classes ≤ 256
  pub below : All (λ e. e.class < alphabet_len f.plan.classes) (packed_state f nodes s u).edges
  pub ascending : IsStrictlyIncreasing (map (λ e. e.class) (packed_state f nodes s u).edges)
  pub few_matches : length (packed_state f nodes s u).matches < ONE_MATCH
  pub numbers : (k : ℕ) → slice_index_or (packed_state f nodes s u).matches k 0 < ONE_MATCH

-- the form of a string fits what its state spells
string-fits : (f : Packer) (nodes : List Node) (s : ℕ) (w : List ℕ)
    → Fits (format_for f.plan (Some w)) (packed_state f nodes s (Some w))
string-fits f nodes s [] = tt
string-fits f nodes s (x ∷ w) = search (rules, format-fits, length-map)

-- it can be so for each state from the starts on
pub state-spells : (f : Packer) (nodes : List Node) → AreReady f nodes → (s : ℕ) (u : Node) → 2 ≤ s
    → slice_get nodes s ≡ Some u → Spells f nodes s u
state-spells f nodes h s None reached named =
    let string = (string-of f.plan.trie nodes h.may.are_nodes s None reached named).is in absurd cc
state-spells f nodes h s (Some w) reached named =
    let p = packed_of f.plan nodes f.numbers [] in
    let at = places_of f.plan nodes f.numbers in
    let edges = edges-packed_at p at (if nat_eq s ANCHORED_START then Yes else No) w in
    let matches = matches-packed_at p at (if nat_eq s ANCHORED_START then Yes else No) (Some w) in
    record {
      fits = string-fits f nodes s w;
      few = alphabet_len-few f.plan.classes h.may.classes;
      below = rw edges (edges-below f.plan nodes h.may [] f.numbers w);
      ascending = rw edges (edges-ascend f.plan nodes h.may [] f.numbers w);
      few_matches = rw matches (matches-below f.plan nodes h.may (Some w));
      numbers = λ k. rw matches (matches-small f.plan nodes h.may (Some w) k);
    }

-- a node without matches has none
pub no-matches : (q : PackPlan) (nodes : List Node) (u : Node) → has_matches q nodes u ≡ false → 0 ≡ length (matches_of q.trie.built No u)
no-matches q nodes u none = omega (arith, ltb-false 0 (length (matches_of q.trie.built No u)) none)

-- the only transition is the first one
pub only-edge : (edges : List Edge) (e : Edge) → length edges ≡ 1 → slice_get edges 0 ≡ Some e → edges ≡ e ∷ []
only-edge [] e one at = absurd (omega arith)
only-edge (x ∷ []) e one at = grind (arith, common_steps)
only-edge (x ∷ y ∷ xs) e one at = absurd (omega arith)

-- so these are the words of a state with one transition
one-spelled : (format : Format) (classes failure : ℕ) (s : PackedState) (e : Edge) → One ≡ format → failure ≡ s.failure
    → s.edges ≡ e ∷ [] → one_words failure (e ∷ []) ≡ format_words format classes s
unfolding format_words
one-spelled format classes failure s e one fails edges = rw (sym one, edges, fails) refl

module _ (f : Packer) (nodes : List Node) (h : AreReady f nodes) (s : ℕ) (u : Node) (reached : 2 ≤ s)
    (named : slice_get nodes s ≡ Some u) (one : One ≡ format_for f.plan u) where
  -- a state in the form for one transition has one
  pub one-edge : length (packed_state f nodes s u).edges ≡ 1
  one-edge =
      let (single, unmatched, leads_nowhere) = subst (λ format. Fits format (packed_state f nodes s u)) (sym one)
      (state-spells f nodes h s u reached named).fits in
      single

  -- and spells it
  pub spells-one : (failure : ℕ) (e : Edge) → failure ≡ (packed_state f nodes s u).failure
      → slice_get (packed_state f nodes s u).edges 0 ≡ Some e → one_words failure (e ∷ []) ≡ state_words f nodes s u
  spells-one failure e fails at =
      one-spelled (format_for f.plan u) (alphabet_len f.plan.classes) failure
      (packed_state f nodes s u) e one fails (only-edge (packed_state f nodes s u).edges e one-edge at)

-- the words of a state are given by the parts of what it spells
pub format_words-by_parts : (format new_format : Format) (classes new_classes : ℕ) (s t : PackedState) → format ≡ new_format
    → classes ≡ new_classes → s.failure ≡ t.failure → s.default_target ≡ t.default_target → s.edges ≡ t.edges
    → s.matches ≡ t.matches → format_words format classes s ≡ format_words new_format new_classes t
format_words-by_parts format new_format classes new_classes s t same_format same_classes fails misses edges matches = λ i.
    format_words (same_format i) (same_classes i)
    (record { failure = fails i; default_target = misses i; edges = edges i; matches = matches i })
