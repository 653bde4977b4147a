-- The first of the matches that a state lists, and whether it is due.
use Rattle.ac_util.proofs.Prelude.{◌≡◌, ◌≢◌, ℕ, ◌-◌, ◌<◌, ◌≤◌, true, false, List, [], ◌∷◌, ◌++◌, length, inl, refl, ap, sym, ◌∙◌, subst, arith, Option, Some, None, option_map, slice_get, rules, eq-eqb, eqb-true, false≢true, common_steps}
use Rattle.ac_automaton.specs.Prelude.{Anchored, Built, No, Node, pattern_of, Yes, FitsIn, found_at, is_due, Lists, matches_of, place_of, plain_of}
use Rattle.ac_util.proofs.Advance.{append_nil_left}
use Rattle.ac_util.proofs.Lists.{IsIn, IsIn-append_left}
use Rattle.ac_util.proofs.Participants.{IsIn-from_equal_to}
use Rattle.ac_util.proofs.Found.{matches-fits, matches-whole}

-- a pattern is as long as its plain string
pub plain_length : (built : Built) (n : ℕ)
    → length (pattern_of (plain_of built) n) ≡ length (pattern_of built.patterns n)
plain_length built n = grind (arith, common_steps)

-- the first element of a list is in it
in_front : (p : ℕ) (xs : List ℕ) → slice_get xs 0 ≡ Some p → IsIn p xs
in_front p [] e = absurd (cc)
in_front p (x ∷ xs) e = inl (cc)

-- a list with a part in front that has an element begins with it
front_first : (xs ys : List ℕ) (p : ℕ) → slice_get (xs ++ ys) 0 ≡ Some p → xs ≢ [] → slice_get xs 0 ≡ Some p
front_first [] ys p e some = absurd (some refl)
front_first (x ∷ xs) ys p e some = e

-- what a list of matches lists first
module _ (built : Built) (listed : List ℕ) (start end : ℕ) where
  -- without matches nothing is found
  pub found-none : (anchored : Anchored) (u : Node) → Lists built anchored u listed → listed ≡ []
      → found_at built anchored u end ≡ None
  found-none No u lists none = cc
  found-none Yes u lists none = search (rules, append_nil_left)

  -- a state that lists matches is not dead
  node_of : (anchored : Anchored) (u : Node) (p : ℕ) → Lists built anchored u listed
      → slice_get listed 0 ≡ Some p → u ≢ None
  node_of No u p lists e dead = cc
  node_of Yes u p lists e dead = search (rules, append_nil_left)

  -- the first pattern listed is one of the matches
  among : (anchored : Anchored) (u : Node) (p : ℕ) → Lists built anchored u listed → slice_get listed 0 ≡ Some p
      → IsIn p (matches_of built No u)
  among No u p lists e = subst (λ (ns : List ℕ). IsIn p ns) lists (in_front p listed e)
  among Yes u p lists e = search (rules, IsIn-append_left, in_front)

  -- the first pattern listed has a number, and isn't longer than what was read
  pub record HeadFits (p : ℕ) : Type 0 where
    pub numbered : p < length built.patterns
    pub short : length (pattern_of built.patterns p) ≤ end - start

  -- so it fits into what was read
  pub head-fits : (anchored : Anchored) (u : Node) (p : ℕ) → Lists built anchored u listed
      → FitsIn anchored u start end
      → slice_get listed 0 ≡ Some p → HeadFits p
  head-fits anchored None p lists fits e = absurd (node_of anchored None p lists e refl)
  head-fits anchored (Some u) p lists fits e = grind (arith, common_steps, among anchored (Some u) p lists e, plain_length built p, matches-fits)

  -- where a pattern listed first is as long as the node, some pattern is the whole node
  whole-some : (u : List ℕ) (p : ℕ) → Lists built Yes (Some u) listed → slice_get listed 0 ≡ Some p
      → length (pattern_of built.patterns p) ≡ length u → matches_of built Yes (Some u) ≢ []
  whole-some u p lists e l none = grind (arith, common_steps, among Yes (Some u) p lists e, plain_length built p, matches-whole)

  -- where it is due it is found
  pub found-due : (anchored : Anchored) (u : Node) (p : ℕ) → Lists built anchored u listed
      → FitsIn anchored u start end
      → slice_get listed 0 ≡ Some p → is_due anchored (length (pattern_of built.patterns p)) (end - start) ≡ true
      → found_at built anchored u end ≡ Some (place_of built end p)
  found-due No u p lists fits e due = cc
  found-due Yes None p lists fits e due = absurd (node_of Yes None p lists e refl)
  found-due Yes (Some u) p lists fits e due =
      let long : length u ≡ end - start = fits.whole refl (λ n. absurd (cc)) in
      let some = whole-some u p lists e (eqb-true (length (pattern_of built.patterns p)) (end - start) due ∙ sym long) in
      ap (λ (r : Option ℕ). option_map (place_of built end) r)
      (front_first (matches_of built Yes (Some u)) lists.passed_over p
      (ap (λ (ns : List ℕ). slice_get ns 0) (sym lists.first) ∙ e) some)

  -- in an anchored search a pattern shorter than what was read is passed over, and nothing is found
  pub found-passed_over : (u : Node) (p : ℕ) → Lists built Yes u listed → FitsIn Yes u start end
      → slice_get listed 0 ≡ Some p → length (pattern_of built.patterns p) ≢ end - start
      → found_at built Yes u end ≡ None
  found-passed_over None p lists fits e short = refl
  found-passed_over (Some u) p lists fits e short = by (matches_of built Yes (Some u)) refl
    where
      by : (ns : List ℕ) → matches_of built Yes (Some u) ≡ ns
          → option_map (place_of built end) (slice_get ns 0) ≡ None
      by [] is = refl
      by (n ∷ ns) is =
          let first : slice_get (n ∷ ns) 0 ≡ Some p =
          front_first (n ∷ ns) lists.passed_over p
          (ap (λ (ms : List ℕ). slice_get ms 0)
          (ap (λ (ms : List ℕ). ms ++ lists.passed_over) (sym is) ∙ sym lists.first) ∙ e)
          (λ k. absurd (cc)) in
          let same : n ≡ p = cc in
          let equal =
          IsIn-from_equal_to built.kind (plain_of built) u p
          (subst (λ (ms : List ℕ). IsIn p ms) (sym is) (inl same)) in
          let long = fits.whole refl (λ k. absurd (cc)) in
          absurd (short (sym (plain_length built p) ∙ ap length equal.same ∙ long))

  -- and where it isn't nothing is
  pub found-not_due : (anchored : Anchored) (u : Node) (p : ℕ) → Lists built anchored u listed
      → FitsIn anchored u start end
      → slice_get listed 0 ≡ Some p → is_due anchored (length (pattern_of built.patterns p)) (end - start) ≡ false
      → found_at built anchored u end ≡ None
  found-not_due No u p lists fits e due = absurd (false≢true (sym due))
  found-not_due Yes u p lists fits e due = search (rules, eq-eqb, false≢true, found-passed_over)

-- a list that can't but be empty is
pub nil-from_not : (xs : List ℕ) → (xs ≢ [] → ⊥) → xs ≡ []
nil-from_not [] h = refl
nil-from_not (x ∷ xs) h = absurd (h (λ e. absurd (cc)))

-- a state that lists nothing has no matches
pub nothing-listed : (built : Built) (anchored : Anchored) (u : Node) {listed : List ℕ} → Lists built anchored u listed
    → listed ≡ [] → matches_of built anchored u ≡ []
nothing-listed built No u lists none = sym lists ∙ none
nothing-listed built Yes u lists none = by (matches_of built Yes u) (sym lists.first ∙ none)
  where
    by : (ns : List ℕ) → ns ++ lists.passed_over ≡ [] → ns ≡ []
    by [] e = refl
    by (n ∷ ns) e = absurd (cc)
