-- Two bytes of one class lead alike from every node, and a byte of a pattern has a class of its own.
use Rattle.ac_util.proofs.Prelude.{◌≡◌, ℕ, zero, suc, ◌+◌, ◌-◌, ◌<◌, ◌≤◌, Bool, true, false, ◌||◌, cond, List, [], ◌∷◌, ◌++◌, map, get_or, ◌⊎◌, inl, inr, refl, ap, sym, ◌∙◌, subst, Some, None, add-one, arith, nat_eq, rules, list_any, starts_with, or_cases, or_left, or_right, and_parts, cases_lt, cond-false, false≢true, common_steps}
use Rattle.ac_util.specs.Prelude.{class_of, is_empty, is_node, IsLawful, MatchKind, No, Node, participants, pattern_of, plain, plain_byte, same_byte, is_in_patterns, step, Yes}
use Rattle.ac_util.specs.declared.search.Anchored.{Anchored}
use Rattle.ac_util.proofs.NodeCount.{any_passes}
use Rattle.ac_util.proofs.Prefixes.{list_any-weaker}
use Rattle.ac_util.proofs.Reached.{stops, step-cons}

-- the last byte of a prefix of p stands in p
any-from_prefix : (p v : List ℕ) (b : ℕ) → starts_with nat_eq p (v ++ b ∷ []) ≡ true
    → list_any (nat_eq b) p ≡ true
any-from_prefix [] [] b h = absurd (false≢true h)
any-from_prefix [] (y ∷ v) b h = absurd (false≢true h)
any-from_prefix (x ∷ p) [] b h = or_left _ _ (and_parts (nat_eq b x) true h).0
any-from_prefix (x ∷ p) (y ∷ v) b h =
    or_right (nat_eq b x) _
    (any-from_prefix p v b (and_parts (nat_eq y x) (starts_with nat_eq p (v ++ b ∷ [])) h).1)

-- a test that the string read at a place passes, and the empty one doesn't, is passed by some of the strings
any-from_read : (f : List ℕ → Bool) (ps : List (List ℕ)) (n : ℕ) → f [] ≡ false → f (get_or ps n []) ≡ true
    → list_any f ps ≡ true
any-from_read f [] n none h = absurd (false≢true (sym none ∙ h))
any-from_read f (p ∷ ps) zero none h = or_left (f p) (list_any f ps) h
any-from_read f (p ∷ ps) (suc n) none h = or_right (f p) (list_any f ps) (any-from_read f ps n none h)

-- whether some image passes
list_any-map : {X Y : Type 0} (f : Y → Bool) (g : X → Y) (xs : List X)
    → list_any f (map g xs) ≡ list_any (λ x. f (g x)) xs
list_any-map f g [] = refl
list_any-map f g (x ∷ xs) = ap (λ (t : Bool). f (g x) || t) (list_any-map f g xs)

-- a string with a last byte isn't empty
is_empty-push : (v : List ℕ) (b : ℕ) → is_empty (v ++ b ∷ []) ≡ false
is_empty-push [] b = refl
is_empty-push (x ∷ v) b = refl

-- two bytes that never end a node lead alike
module _ (kind : MatchKind) (patterns : List (List ℕ)) where
  -- no string that ends with the byte leads to a node
  abbrev EndsNone : ℕ → Type 0
  EndsNone b = (v : List ℕ) → is_node kind patterns (v ++ b ∷ []) ≡ false

  -- so they do without an anchor, whatever was read
  step-free_alike : (a b : ℕ) → EndsNone a → EndsNone b → (u : List ℕ)
      → step kind patterns No (Some u) a ≡ step kind patterns No (Some u) b
  step-free_alike a b no_a no_b [] =
      grind (
        arith,
        common_steps,
        cond-false (is_node kind patterns (a ∷ [])) (Some (a ∷ [])) (cond (stops kind patterns []) None (Some [])) (no_a []),
        stops kind patterns [],
        cond-false (is_node kind patterns (b ∷ [])) (Some (b ∷ [])) (cond (stops kind patterns []) None (Some [])) (no_b []),
      )
  step-free_alike a b no_a no_b (x ∷ u) = search (rules, step-cons, cond-false, step-free_alike a b no_a no_b u)

  -- and so they do from each node
  step-alike : (a b : ℕ) → EndsNone a → EndsNone b → (anchored : Anchored) (u : Node)
      → step kind patterns anchored u a ≡ step kind patterns anchored u b
  step-alike a b no_a no_b anchored None = refl
  step-alike a b no_a no_b No (Some u) = step-free_alike a b no_a no_b u
  step-alike a b no_a no_b Yes (Some u) = grind (arith, common_steps)

module _ (ignores_case : Bool) (patterns : List (List ℕ)) where
  -- the class of a byte, and whether it stands in a pattern, with the shorter names of this file
  abbrev pub class : ℕ → ℕ
  class b = class_of ignores_case patterns b

  abbrev pub stands : ℕ → Bool
  stands b = is_in_patterns ignores_case patterns b

  -- a byte that ends a node stands in a pattern
  pub stands-from_node : (kind : MatchKind) (v : List ℕ) (b : ℕ)
      → is_node kind (map (plain ignores_case) patterns) (v ++ plain_byte ignores_case b ∷ []) ≡ true → stands b ≡ true
  stands-from_node kind v b node =
      let plains = map (plain ignores_case) patterns in
      let w = v ++ plain_byte ignores_case b ∷ [] in
      let starts = λ (n : ℕ). starts_with nat_eq (pattern_of plains n) w in
      let has = λ (p : List ℕ). list_any (nat_eq (plain_byte ignores_case b)) p in
      let some : list_any starts (participants kind plains) ≡ true =
      elim (or_cases (is_empty w) (list_any starts (participants kind plains)) node) [
        | inl empty ↦ absurd (false≢true (sym (is_empty-push v (plain_byte ignores_case b)) ∙ empty))
        | inr any ↦ any
      ] in
      let one = any_passes starts (participants kind plains) some in
      let among = any-from_read has plains one.0 refl (any-from_prefix (pattern_of plains one.0) v _ one.2) in
      list_any-weaker (λ p. has (plain ignores_case p)) (λ p. list_any (same_byte ignores_case b) p)
      (λ p h. sym (list_any-map (nat_eq (plain_byte ignores_case b)) (plain_byte ignores_case) p) ∙ h) patterns
      (sym (list_any-map has (plain ignores_case) patterns) ∙ among)

  -- the class of the next byte
  class-next : (b : ℕ) → class (b + 1) ≡ class b + cond (stands (b + 1) || stands b) 1 0
  unfolding class_of
  class-next b = rw add-one refl

  -- the first class is 0
  pub class-zero : class 0 ≡ 0
  unfolding class_of
  class-zero = refl

  -- the class rises at a byte of a pattern, and at the byte after it
  pub class-up : (b : ℕ) → (stands (b + 1) ≡ true) ⊎ (stands b ≡ true) → class (b + 1) ≡ class b + 1
  class-up b (inl at) = search (rules, class-next, or_left)
  class-up b (inr beyond) = search (rules, class-next, or_right)

  -- and nowhere else
  pub class-stays : (b : ℕ) → stands (b + 1) ≡ false → stands b ≡ false → class (b + 1) ≡ class b
  class-stays b at beyond = search (rules, class-next)

  -- a class rises by one or not at all
  one_or_none : (t : Bool) → cond t 1 0 ≤ 1
  one_or_none true = omega arith
  one_or_none false = omega arith

  -- classes rise
  pub class-rises : (b : ℕ) → class b ≤ class (b + 1)
  class-rises b = omega (arith, class-next b)

  -- and by at most one
  pub class-rises_by_one : (b : ℕ) → class (b + 1) ≤ class b + 1
  class-rises_by_one b = omega (arith, class-next, one_or_none)

  -- no class is above its byte
  pub class-le : (b : ℕ) → class b ≤ b
  class-le zero = omega (arith, class-zero)
  class-le (suc b) = omega (arith, ap class (add-one b), class-le b, class-rises_by_one)

  -- a byte n places after another has no lesser class
  class-monotone : (n a : ℕ) → class a ≤ class (a + n)
  class-monotone zero a = omega (arith, ap class (let e : a + 0 ≡ a = omega arith in e))
  class-monotone (suc n) a = grind (arith, common_steps, class-monotone n a, class-rises)

  -- a later byte has no lesser class
  class-ordered : (a b : ℕ) → a ≤ b → class a ≤ class b
  class-ordered a b h = grind (arith, common_steps, class-monotone (b - a) a)

  -- neither byte stands in a pattern
  pub record AreStrangers (a b : ℕ) : Type 0 where
    pub left : stands a ≡ false
    pub right : stands b ≡ false

  -- where a byte has the class of a later one, neither stands in a pattern
  strangers_below : (a b : ℕ) → a ≤ b → class a ≡ class (b + 1) → AreStrangers a (b + 1)
  strangers_below a b l e = grind (arith, common_steps, class-up, class-ordered (a + 1) (b + 1) (omega arith), class-ordered)

  -- the same, whatever the later byte is called
  strangers_apart : (a b : ℕ) → a < b → class a ≡ class b → AreStrangers a b
  strangers_apart a zero l e = absurd (omega arith)
  strangers_apart a (suc b) l e =
      subst (AreStrangers a) (add-one b) (strangers_below a b (omega arith) (e ∙ ap class (sym (add-one b))))

  -- two bytes of one class are equal, or neither stands in a pattern
  pub strangers : (a b : ℕ) → class a ≡ class b → (a ≡ b) ⊎ AreStrangers a b
  strangers a b e = search (rules, cases_lt, strangers_apart)

  -- a byte that stands in no pattern ends no node
  ends_none : (kind : MatchKind) (b : ℕ) → stands b ≡ false
      → EndsNone kind (map (plain ignores_case) patterns) (plain_byte ignores_case b)
  ends_none kind b none v = search (rules, false≢true, stands-from_node)

  -- an automaton may step by these classes
  pub class_of-lawful : (kind : MatchKind) → IsLawful (class_of ignores_case patterns) kind ignores_case patterns
  class_of-lawful kind = record {
    begins = class-zero;
    rises = λ b h. class-rises b;
    rises_by_one = λ b h. class-rises_by_one b;
    steps_alike = λ a b low high e anchored u node.
        let plains = map (plain ignores_case) patterns in
        elim (strangers a b e) [
          | inl same ↦ ap (λ (x : ℕ). step kind plains anchored u (plain_byte ignores_case x)) same
          | inr s ↦ step-alike kind plains (plain_byte ignores_case a) (plain_byte ignores_case b) (ends_none kind a s.left)
              (ends_none kind b s.right) anchored u
        ];
  }
