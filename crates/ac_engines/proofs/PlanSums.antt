-- The places of a plan's states, by the sums of their sizes.
use Rattle.ac_util.proofs.Prelude.{◌≡◌, ℕ, zero, suc, ◌+◌, ◌*◌, ◌<◌, ◌≤◌, Bool, true, false, cond, List, [], ◌∷◌, ◌++◌, length, None, Some, refl, ap, arith, slice_get, slice_index_or, rules, cond-false, le-ltb, slice_get-get_or, common_steps}
use Rattle.ac_engines.specs.Prelude.{alphabet_len, Node, state_count, plain_of, before, front_end, has_matches, HasWords, MayPack, packed_words, PackPlan, place_at, size_at, size_of, sized, total}
use Rattle.ac_engines.proofs.LaidUpTo.{IsNamed}
use Rattle.ac_engines.proofs.PackedSums.{total-both, total-grows, total-inner, total-more}

-- a trie has as many states as there are nodes
pub plan-states : (p q : PackPlan) (nodes : List Node) (n : ℕ) → MayPack q nodes → p ≡ q
    → n ≡ state_count p.trie.built.kind (plain_of p.trie.built) → n ≡ length nodes
plan-states p q nodes n may same whole = cc

-- a state takes so many words, among those in front or among the others
pub record TakesSize (q : PackPlan) (nodes : List Node) (s : ℕ) (matched : Bool) (words : ℕ) : Type 0 where
  pub place : place_at q nodes s
      ≡ cond matched (size_of q nodes None + before q nodes true s) (front_end q nodes + before q nodes false s)
  pub front : before q nodes true (s + 1) ≡ before q nodes true s + cond matched words 0
  pub back : before q nodes false (s + 1) ≡ before q nodes false s + cond matched 0 words

module _ (q : PackPlan) (nodes : List Node) where
  -- the first two states don't count
  pub before-starts : (front : Bool) → before q nodes front 2 ≡ 0
  unfolding total
  before-starts front = refl

  module _ (s : ℕ) (u : Node) (reached : 2 ≤ s) (named : slice_get nodes s ≡ Some u) where
    -- how much a state counts
    size-reached : (front : Bool) → size_at q nodes front s ≡ sized q nodes front (Some u)
    size-reached front = grind (arith, common_steps)

    size-both : size_at q nodes true s + size_at q nodes false s ≡ size_of q nodes u
    size-both = grind (arith, common_steps)

    -- it is counted on one of the two sides
    pub before-both : before q nodes true (s + 1) + before q nodes false (s + 1)
        ≡ before q nodes true s + before q nodes false s + size_of q nodes u
    before-both = omega (arith, size-both, total-more (size_at q nodes true) s, total-more (size_at q nodes false) s)

    -- what it takes up, by whether it has matches
    pub takes : (t : Bool) (n : ℕ) → t ≡ has_matches q nodes u → n ≡ size_of q nodes u → TakesSize q nodes s t n
    takes t n is words = search (rules, cond-false, le-ltb, size-reached, total-more)

  module _ (may : MayPack q nodes) where
    -- the first four
    first-sizes : total (λ s. size_at q nodes true s + size_at q nodes false s) 4 ≡ 2 * size_of q nodes (Some [])
    unfolding total
    first-sizes =
        omega (
          arith,
          size-both 2 (Some []) (omega arith) may.are_nodes.start,
          size-both 3 (Some []) (omega arith) may.are_nodes.anchored_start,
        )

    -- the sizes of all states are those of the plan
    pub sizes-whole : size_of q nodes None + before q nodes true (length nodes) + before q nodes false (length nodes)
        ≡ packed_words q.trie.built q.dense_depth (alphabet_len q.classes)
    sizes-whole =
        let both = total-both (size_at q nodes true) (size_at q nodes false) (length nodes) in
        let all = total-inner q.trie nodes may.are_nodes (λ s. size_at q nodes true s + size_at q nodes false s)
        (λ w. size_of q nodes (Some w)) (λ s w after named. size-both s (Some w) (omega (arith, after)) named) in
        omega (arith, both, all, first-sizes)

    -- so where all are placed, the next one would follow them
    pub all-placed : (s back : ℕ) → s ≡ length nodes → back ≡ front_end q nodes + before q nodes false s
        → back ≡ packed_words q.trie.built q.dense_depth (alphabet_len q.classes)
    all-placed s back end follows = omega (arith, follows, ap (before q nodes false) end, sizes-whole)

    -- numbers below that of the states stand for nodes
    pub named-below : (p : PackPlan) (n s : ℕ) → p ≡ q → n ≡ state_count p.trie.built.kind (plain_of p.trie.built)
        → s < n → IsNamed nodes s
    named-below p n s same states below =
        grind (arith, common_steps, slice_get-get_or nodes s None (omega (arith, plan-states p q nodes n may same states, below)))

    -- and those from the starts on have words
    pub has-words : (p : PackPlan) (n s sid : ℕ) → p ≡ q → n ≡ state_count p.trie.built.kind (plain_of p.trie.built)
        → 2 ≤ s → s < n → sid ≡ s → HasWords q sid
    has-words p n s sid same states reached below at = search (rules, named-below p n s same states below)

    module _ (p : PackPlan) (n s : ℕ) (same : p ≡ q) (states : n ≡ state_count p.trie.built.kind (plain_of p.trie.built))
        (below : s < n) where
      -- the states before one take no more words than all
      grows : (front : Bool) → before q nodes front s ≤ before q nodes front (length nodes)
      grows front = total-grows (size_at q nodes front) s (length nodes) (omega (arith, plan-states p q nodes n may same states, below))

      -- what stands in front lies within the words of the plan
      pub front-within : size_of q nodes None + before q nodes true s
          ≤ packed_words q.trie.built q.dense_depth (alphabet_len q.classes)
      front-within = omega (arith, grows true, sizes-whole)

      -- and so does what stands after it
      pub back-within : front_end q nodes + before q nodes false s
          ≤ packed_words q.trie.built q.dense_depth (alphabet_len q.classes)
      back-within = omega (arith, grows false, sizes-whole)

  -- the first two states stand at 0
  pub places-first : (s : ℕ) → s < 2 → slice_index_or (0 ∷ 0 ∷ []) s 0 ≡ place_at q nodes s
  places-first zero below = refl
  places-first (suc zero) below = refl
  places-first (suc (suc s)) below = absurd (omega arith)

  -- one place more
  places-more : (numbers : List ℕ) (s n : ℕ) → length numbers ≡ s
      → ((t : ℕ) → t < s → slice_index_or numbers t 0 ≡ place_at q nodes t) → n ≡ place_at q nodes s
      → (t : ℕ) → t < s + 1 → slice_index_or (numbers ++ n ∷ []) t 0 ≡ place_at q nodes t
  places-more numbers s n count each next t below = grind (arith, common_steps)

  -- the states before one have their places, and where the next ones follow in front and after
  pub record ArePlaced (s : ℕ) (numbers : List ℕ) (front back : ℕ) : Type 0 where
    pub count : length numbers ≡ s
    pub each : (t : ℕ) → t < s → slice_index_or numbers t 0 ≡ place_at q nodes t
    pub front_is : front ≡ size_of q nodes None + before q nodes true s
    pub back_is : back ≡ front_end q nodes + before q nodes false s

  -- one more follows those on its side
  pub placed-more : (s : ℕ) (numbers : List ℕ) (front back : ℕ) → ArePlaced s numbers front back → (t : Bool) (words : ℕ)
      → TakesSize q nodes s t words → (new_front new_back : ℕ) → new_front ≡ front + cond t words 0
      → new_back ≡ back + cond t 0 words → ArePlaced (s + 1) (numbers ++ cond t front back ∷ []) new_front new_back
  placed-more s numbers front back are t words step new_front new_back fronts backs =
      grind (arith, common_steps, places-more)
