-- Which patterns take part, which strings lead to nodes, and which patterns equal a string.
use Rattle.ac_util.proofs.Prelude.{◌≡◌, ℕ, ◌<◌, ◌≤◌, Bool, true, false, not, List, [], ◌∷◌, ◌++◌, length, take, refl, ap, sym, ◌∙◌, subst, arith, nat_eq, rules, range_with_len, starts_with, false≢true, false_from_ne_true, common_steps}
use Rattle.ac_util.specs.Prelude.{begins_with_pattern, equal_to, is_leftmost, is_node, LeftmostFirst, LeftmostLongest, MatchKind, participants, participates, pattern_of, Standard, Prefixes}
use Rattle.std.proofs.lemmas.Slice.Eq.{bytes_eq-Decides}
use Rattle.ac_util.proofs.Lists.{IsIn, IsIn-filter, IsIn-from_filter, IsIn-range, IsIn-from_range, IsOrdered, IsOrdered-filter, IsOrdered-range, nil-from_none}
use Rattle.ac_util.proofs.Prefixes.{starts_with-itself, starts_with-front, starts_with-more, starts_with-whole, starts_with-trans, list_any-weaker, list_any-from_IsIn, first_any}

module _ (patterns : List (List ℕ)) where
  -- a string with such a prefix begins with a pattern
  pub begins-from_Prefixes : (w : List ℕ) (n : ℕ) → Prefixes patterns w n → begins_with_pattern patterns w ≡ true
  begins-from_Prefixes w n f = grind (arith, common_steps)

  -- it still does with one more byte
  pub begins-more : (w : List ℕ) (b : ℕ) → begins_with_pattern patterns w ≡ true
      → begins_with_pattern patterns (w ++ b ∷ []) ≡ true
  begins-more w b h = search (rules, list_any-weaker, starts_with-more)

  -- an earlier pattern that is a prefix of w is among those before number j
  pub begins-before : (w : List ℕ) (n j : ℕ) → n < j → j < length patterns → Prefixes patterns w n
      → begins_with_pattern (take j patterns) w ≡ true
  begins-before w n j below within f = grind (arith, common_steps)

  -- j is the first pattern that is a prefix of w: it takes part, and none before it is one
  pub record IsLeader (w : List ℕ) (j : ℕ) : Type 0 where
    pub prefixes : Prefixes patterns w j
    pub none_before : begins_with_pattern (take j patterns) w ≡ false

  pub leader : (w : List ℕ) → begins_with_pattern patterns w ≡ true → (j : ℕ) × IsLeader w j
  leader w h =
      let first = first_any (λ p. starts_with nat_eq w p) [] patterns h in (
        first.0,
        record {
          prefixes = record { numbered = first.1.within; front = first.1.passes };
          none_before = first.1.none_before;
        },
      )

  -- no pattern that is a prefix of w has a lesser number than the leader
  pub leader-least : (w : List ℕ) (j n : ℕ) → IsLeader w j → Prefixes patterns w n → j ≤ n
  leader-least w j n l f = grind (arith, common_steps)

  -- a pattern that no earlier one is a prefix of takes part
  pub takes_part : (kind : MatchKind) (n : ℕ)
      → begins_with_pattern (take n patterns) (pattern_of patterns n) ≡ false
      → participates kind patterns n ≡ true
  takes_part Standard n h = refl
  takes_part LeftmostFirst n h = ap (λ (t : Bool). not t) h
  takes_part LeftmostLongest n h = refl

  -- the leader takes part under every kind
  pub leader-takes_part : (kind : MatchKind) (w : List ℕ) (j : ℕ) → IsLeader w j
      → participates kind patterns j ≡ true
  leader-takes_part kind w j l = search (rules, list_any-weaker, starts_with-trans)

  -- under LeftmostFirst no earlier pattern is a prefix of one that takes part
  pub participant-least : (w : List ℕ) (i n : ℕ) → i < length patterns
      → participates LeftmostFirst patterns i ≡ true
      → pattern_of patterns i ≡ w → Prefixes patterns w n → i ≤ n
  participant-least w i n within takes same f = grind (arith, common_steps)

  -- but for LeftmostFirst all take part
  pub all_take_part : (kind : MatchKind) → is_leftmost kind ≡ false → (n : ℕ)
      → participates kind patterns n ≡ true
  all_take_part Standard e n = refl
  all_take_part LeftmostFirst e n = absurd (cc)
  all_take_part LeftmostLongest e n = refl

module _ (kind : MatchKind) (patterns : List (List ℕ)) where
  -- the number of a pattern that takes part is one of theirs
  IsIn-participants : (n : ℕ) → n < length patterns → participates kind patterns n ≡ true
      → IsIn n (participants kind patterns)
  IsIn-participants n within takes =
      IsIn-filter (participates kind patterns) n (range_with_len 0 (length patterns))
      (IsIn-range n 0 (length patterns) (omega arith) (omega arith)) takes

  -- a prefix of a pattern that takes part leads to a node
  pub is_node-participant : (n : ℕ) (w : List ℕ) → n < length patterns → participates kind patterns n ≡ true
      → starts_with nat_eq (pattern_of patterns n) w ≡ true → is_node kind patterns w ≡ true
  is_node-participant n w within takes front = search (rules, IsIn-participants, list_any-from_IsIn)

  -- a string that leads to a node still does without its last byte
  pub is_node-front : (v : List ℕ) (b : ℕ) → is_node kind patterns (v ++ b ∷ []) ≡ true
      → is_node kind patterns v ≡ true
  is_node-front [] b h = refl
  is_node-front (x ∷ v) b h = search (rules, list_any-weaker, starts_with-front)

  -- and one that leads to none does not with one more byte
  pub is_node-more : (v : List ℕ) (b : ℕ) → is_node kind patterns v ≡ false
      → is_node kind patterns (v ++ b ∷ []) ≡ false
  is_node-more v b h = false_from_ne_true _ (λ node. false≢true (sym h ∙ is_node-front v b node))

  -- where a pattern begins only with one more byte, that makes a node
  pub is_node-begins : (v : List ℕ) (b : ℕ) → begins_with_pattern patterns (v ++ b ∷ []) ≡ true
      → begins_with_pattern patterns v ≡ false
      → is_node kind patterns (v ++ b ∷ []) ≡ true
  is_node-begins v b h n = search (rules, begins-from_Prefixes, false≢true, is_node-participant, leader, starts_with-whole)

  -- pattern n takes part and is w
  pub record Equals (w : List ℕ) (n : ℕ) : Type 0 where
    pub numbered : n < length patterns
    pub takes_part : participates kind patterns n ≡ true
    pub same : pattern_of patterns n ≡ w

  pub IsIn-equal_to : (w : List ℕ) (n : ℕ) → Equals w n → IsIn n (equal_to kind patterns w)
  IsIn-equal_to w n e = search (rules, IsIn-filter, IsIn-participants, bytes_eq-Decides)

  -- and back
  pub IsIn-from_equal_to : (w : List ℕ) (n : ℕ) → IsIn n (equal_to kind patterns w) → Equals w n
  IsIn-from_equal_to w n h = search (rules, IsIn-from_filter, IsIn-from_range)

  -- they are listed by number
  pub equal_to-ordered : (w : List ℕ) → IsOrdered (λ m n. m < n) (equal_to kind patterns w)
  equal_to-ordered w = search (rules, IsOrdered-filter, IsOrdered-range)

  -- a string that leads to no node is no pattern that takes part
  pub equal_to-none : (w : List ℕ) → is_node kind patterns w ≡ false → equal_to kind patterns w ≡ []
  equal_to-none w none = nil-from_none (equal_to kind patterns w) (λ n h.
      let e = IsIn-from_equal_to w n h in
      false≢true (sym none ∙ is_node-participant n w e.numbered e.takes_part
      (subst (λ (v : List ℕ). starts_with nat_eq v w ≡ true) (sym e.same) (starts_with-itself w))))

  -- nor is one that begins with no pattern
  pub equal_to-none_begins : (w : List ℕ) → begins_with_pattern patterns w ≡ false
      → equal_to kind patterns w ≡ []
  equal_to-none_begins w none = nil-from_none (equal_to kind patterns w) (λ n h.
      let e = IsIn-from_equal_to w n h in
      false≢true (sym none ∙ begins-from_Prefixes patterns w n (record {
        numbered = e.numbered;
        front = subst (λ (p : List ℕ). starts_with nat_eq w p ≡ true) (sym e.same) (starts_with-itself w);
      })))
