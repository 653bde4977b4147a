-- One more byte of a text: how the pick changes, by the matches of the node that an automaton reaches.
--
-- Everything holds for each match kind of the automaton and for both anchorings.
use Rattle.ac_util.proofs.Prelude.{◌≡◌, ℕ, zero, suc, ◌+◌, ◌≤◌, Bool, true, false, ◌&&◌, cond, List, [], ◌∷◌, ◌++◌, length, ◌⊎◌, inl, inr, refl, ap, sym, ◌∙◌, subst, arith, Option, Some, None, rules, and_parts, false≢true, cond-false, cond-true, common_steps}
use Rattle.ac_util.specs.Prelude.{begins_with_pattern, equal_to, is_leftmost, IsFirst, LeftmostFirst, LeftmostLongest, matches, MatchKind, No, Occurrence, participates, pattern_of, Standard, Yes, Prefixes, Stands, standing_at, IsPickIn}
use Rattle.ac_util.specs.declared.search.Anchored.{Anchored}
use Rattle.ac_util.proofs.Lists.{IsIn, none-from_nil}
use Rattle.ac_util.proofs.Participants.{Equals, begins-from_Prefixes, leader, leader-least, leader-takes_part, participant-least, all_take_part, IsIn-equal_to, IsIn-from_equal_to, equal_to-ordered}
use Rattle.ac_util.proofs.Prefixes.{starts_with-itself}
use Rattle.ac_util.proofs.Reached.{stops}
use Rattle.ac_util.proofs.Found.{matches-nil, matches-cons}
use Rattle.ac_util.proofs.Standing.{first-by_start, first-one_on, Prefixes-cases, Prefixes-length, Prefixes-equal, Stands-beyond, Stands-from_behind, Stands-from_Prefixes}

-- the front of an empty list is empty
pub append_nil_left : (xs ys : List ℕ) → xs ++ ys ≡ [] → xs ≡ []
append_nil_left [] ys e = refl
append_nil_left (x ∷ xs) ys e = absurd (cc)

module _ (kind : MatchKind) (patterns : List (List ℕ)) where
  abbrev own : List ℕ → List ℕ
  own u = equal_to kind patterns u

  abbrev front_place : ℕ → Occurrence
  front_place n = standing_at patterns n 0

  -- a pattern that takes part, is a prefix of w and is preferred to prefix n or is n itself
  record Preferred (w : List ℕ) (n j : ℕ) : Type 0 where
    prefixes : Prefixes patterns w j
    takes_part : participates kind patterns j ≡ true
    first : IsFirst kind (front_place j) (front_place n)

  -- there is always one
  preferred_by : (w : List ℕ) (n : ℕ) → Prefixes patterns w n → (l : Bool) → participates kind patterns n ≡ l
      → (j : ℕ) × Preferred w n j
  preferred_by w n f true takes = grind (arith, common_steps)
  preferred_by w n f false takes = search (rules, begins-from_Prefixes, leader, leader-least, leader-takes_part)

  preferred : (w : List ℕ) (n : ℕ) → Prefixes patterns w n → (j : ℕ) × Preferred w n j
  preferred w n f = preferred_by w n f (participates kind patterns n) refl

  -- where no pattern is the whole of w with one more byte, a prefix of it is no better than a prefix of w
  kept_front : (w : List ℕ) (b n : ℕ) → own (w ++ b ∷ []) ≡ [] → Prefixes patterns (w ++ b ∷ []) n
      → (j : ℕ) × Prefixes patterns w j × IsFirst kind (front_place j) (front_place n)
  kept_front w b n none f = grind (arith, common_steps, preferred (w ++ b ∷ []) n f, IsIn-equal_to, Prefixes-cases)

  -- pattern j stands at place k of w and is no worse than pattern n at s
  record Better (anchored : Anchored) (w : List ℕ) (n s j k : ℕ) : Type 0 where
    stands : Stands patterns anchored w j k
    first : IsFirst kind (standing_at patterns j k) (standing_at patterns n s)

  better_front : (anchored : Anchored) (w : List ℕ) (b n : ℕ) → own (w ++ b ∷ []) ≡ []
      → Prefixes patterns (w ++ b ∷ []) n → (j : ℕ) × (k : ℕ) × Better anchored w n 0 j k
  better_front anchored w b n none f = search (rules, Stands-from_Prefixes, kept_front)

  better_free : (w : List ℕ) (b n s : ℕ) → matches kind patterns No (Some (w ++ b ∷ [])) ≡ []
      → Stands patterns No (w ++ b ∷ []) n s → (j : ℕ) × (k : ℕ) × Better No w n s j k
  better_free [] b n zero none h =
      better_front No [] b n (append_nil_left _ _ (sym (matches-cons kind patterns b []) ∙ none)) h.prefixes
  better_free [] b n (suc zero) none h = grind (arith, common_steps)
  better_free [] b n (suc (suc s)) none h = absurd (let i = h.within in omega arith)
  better_free (x ∷ w) b n zero none h =
      better_front No (x ∷ w) b n (append_nil_left _ _ (sym (matches-cons kind patterns x (w ++ b ∷ [])) ∙ none)) h.prefixes
  better_free (x ∷ w) b n (suc s) none h =
      beyond (stops kind patterns (x ∷ w ++ b ∷ [])) refl (sym (matches-cons kind patterns x (w ++ b ∷ [])) ∙ none)
      (λ e. better_free w b n s e (Stands-from_behind patterns x (w ++ b ∷ []) n s h))
    where
      beyond : (t : Bool) → stops kind patterns (x ∷ w ++ b ∷ []) ≡ t
          → own (x ∷ w ++ b ∷ []) ++ cond (stops kind patterns (x ∷ w ++ b ∷ [])) [] (matches kind patterns No (Some (w ++ b ∷ []))) ≡ []
          → (matches kind patterns No (Some (w ++ b ∷ [])) ≡ [] → (j : ℕ) × (k : ℕ) × Better No w n s j k)
          → (j : ℕ) × (k : ℕ) × Better No (x ∷ w) n (suc s) j k
      beyond true stop none later =
          let both = and_parts (is_leftmost kind) (begins_with_pattern patterns (x ∷ w ++ b ∷ [])) stop in
          let l = leader patterns (x ∷ w ++ b ∷ []) both.1 in
          let p = kept_front (x ∷ w) b l.0 (append_nil_left _ _ none) l.1.prefixes in (
            p.0,
            0,
            record {
              stands = Stands-from_Prefixes patterns No (x ∷ w) p.0 p.1;
              first = first-by_start kind (standing_at patterns p.0 0) (standing_at patterns n (suc s)) (omega arith)
                  (inl both.0);
            },
          )
      beyond false stop none later =
          let no_own = append_nil_left (own (x ∷ w ++ b ∷ [])) _ none in
          let r =
          later (sym (cond-false (stops kind patterns (x ∷ w ++ b ∷ [])) [] (matches kind patterns No (Some (w ++ b ∷ []))) stop)
          ∙ sym (ap (λ (ns : List ℕ). ns ++ cond (stops kind patterns (x ∷ w ++ b ∷ [])) []
          (matches kind patterns No (Some (w ++ b ∷ [])))) no_own) ∙ none) in (
            r.0,
            suc r.1,
            record {
              stands = Stands-beyond patterns x w r.0 r.1 r.2.stands;
              first = first-one_on kind patterns r.0 r.1 n s r.2.first;
            },
          )

  -- where the node reached has no match, what stands in the longer text is no better than what stood before
  better_than : (anchored : Anchored) (w : List ℕ) (b n s : ℕ)
      → matches kind patterns anchored (Some (w ++ b ∷ [])) ≡ []
      → Stands patterns anchored (w ++ b ∷ []) n s → (j : ℕ) × (k : ℕ) × Better anchored w n s j k
  better_than No w b n s none h = better_free w b n s none h
  better_than Yes w b n zero none h = better_front Yes w b n none h.prefixes
  better_than Yes w b n (suc s) none h = absurd (let e = h.at_front refl in omega arith)

  -- then the pick stays
  pub pick-stays : (anchored : Anchored) (w : List ℕ) (b : ℕ) (r : Option Occurrence)
      → matches kind patterns anchored (Some (w ++ b ∷ [])) ≡ []
      → IsPickIn kind patterns anchored w r → IsPickIn kind patterns anchored (w ++ b ∷ []) r
  pick-stays anchored w b None none h = search (rules, better_than)
  pick-stays anchored w b (Some m) none h = grind (arith, common_steps, better_than)

  -- number i is the first match of the text v: it ends with v, and nothing that counts is preferred to it.
  -- Under a leftmost kind all that stands in v counts, else what ends with it
  abbrev Counts : List ℕ → ℕ → ℕ → Type 0
  Counts v n s = (is_leftmost kind ≡ true) ⊎ (s + length (pattern_of patterns n) ≡ length v)

  pub record IsHead (anchored : Anchored) (v : List ℕ) (i k : ℕ) : Type 0 where
    pub stands : Stands patterns anchored v i k
    pub whole : k + length (pattern_of patterns i) ≡ length v
    pub first : (n s : ℕ) → Stands patterns anchored v n s → Counts v n s
        → IsFirst kind (standing_at patterns i k) (standing_at patterns n s)

  -- the first of the patterns that are v
  own_least : (v : List ℕ) (i : ℕ) (rest : List ℕ) → own v ≡ i ∷ rest → (n : ℕ) → Equals kind patterns v n
      → i ≤ n
  own_least v i rest e n equals = search (rules, IsIn-equal_to, equal_to-ordered)

  own_head : (v : List ℕ) (i : ℕ) (rest : List ℕ) → own v ≡ i ∷ rest → Equals kind patterns v i
  own_head v i rest e =
      IsIn-from_equal_to kind patterns v i (subst (λ (ns : List ℕ). IsIn i ns) (sym e) (inl refl))

  head_front : (v : List ℕ) (i : ℕ) (rest : List ℕ) → own v ≡ i ∷ rest → (n : ℕ) → Prefixes patterns v n
      → Counts v n 0 → IsFirst kind (front_place i) (front_place n)
  head_front v i rest e n f counts = at kind refl
    where
      head : Equals kind patterns v i
      head = own_head v i rest e

      same_length : length (pattern_of patterns i) ≡ length v
      same_length = ap length head.same

      equals : participates kind patterns n ≡ true → length (pattern_of patterns n) ≡ length v
          → Equals kind patterns v n
      equals takes l =
          record { numbered = f.numbered; takes_part = takes; same = Prefixes-equal patterns v n f l }

      at : (k : MatchKind) → k ≡ kind → IsFirst kind (front_place i) (front_place n)
      at Standard same =
          search (rules, Prefixes-length, equals, false≢true, head, own_least, participant-least, same_length)
      at LeftmostFirst same =
          search (rules, Prefixes-length, equals, false≢true, head, own_least, participant-least, same_length)
      at LeftmostLongest same =
          search (rules, Prefixes-length, equals, false≢true, head, own_least, participant-least, same_length)

  own_stands : (anchored : Anchored) (v : List ℕ) (i : ℕ) (rest : List ℕ) → own v ≡ i ∷ rest
      → Stands patterns anchored v i 0
  own_stands anchored v i rest e = search (rules, own_head, starts_with-itself)

  own_whole : (v : List ℕ) (i : ℕ) (rest : List ℕ) → own v ≡ i ∷ rest
      → 0 + length (pattern_of patterns i) ≡ length v
  own_whole v i rest e = let l = ap length (own_head v i rest e).same in omega arith

  -- where a pattern is the whole text, the first such is the head
  head_own : (anchored : Anchored) (v : List ℕ) (i : ℕ) (rest : List ℕ) → own v ≡ i ∷ rest
      → IsHead anchored v i 0
  head_own anchored v i rest e = search (rules, own_stands anchored v i rest e, head_front, own_whole)

  -- where none is, the head is that of the text without its first byte
  head_behind : (x : ℕ) (v : List ℕ) (i k : ℕ) → own (x ∷ v) ≡ [] → stops kind patterns (x ∷ v) ≡ false
      → IsHead No v i k → IsHead No (x ∷ v) i (suc k)
  head_behind x v i k none goes_on head = record {
    stands = Stands-beyond patterns x v i k head.stands;
    whole = (let w = head.whole in omega arith);
    first = first;
  }
    where
      no_front : (n : ℕ) → Prefixes patterns (x ∷ v) n → (l : Bool) → is_leftmost kind ≡ l → Counts (x ∷ v) n 0
          → ⊥
      no_front n f true leftmost counts =
          false≢true (sym goes_on ∙ (ap (λ (l : Bool). l && begins_with_pattern patterns (x ∷ v)) leftmost
          ∙ begins-from_Prefixes patterns (x ∷ v) n f))
      no_front n f false leftmost (inl e) = false≢true (sym leftmost ∙ e)
      no_front n f false leftmost (inr ends) =
          search (
            rules,
            IsIn-equal_to,
            Prefixes-equal,
            all_take_part,
            none-from_nil,
            all_take_part patterns kind leftmost n,
            Prefixes-equal patterns (x ∷ v) n f (omega arith),
          )

      counts_behind : (n s : ℕ) → Counts (x ∷ v) n (suc s) → Counts v n s
      counts_behind n s (inl e) = inl e
      counts_behind n s (inr e) = inr (omega arith)

      first : (n s : ℕ) → Stands patterns No (x ∷ v) n s → Counts (x ∷ v) n s
          → IsFirst kind (standing_at patterns i (suc k)) (standing_at patterns n s)
      first n zero stands counts = absurd (no_front n stands.prefixes (is_leftmost kind) refl counts)
      first n (suc s) stands counts =
          first-one_on kind patterns i k n s (head.first n s (Stands-from_behind patterns x v n s stands) (counts_behind n s counts))

  head_free : (v : List ℕ) (i : ℕ) (rest : List ℕ) → matches kind patterns No (Some v) ≡ i ∷ rest
      → (k : ℕ) × IsHead No v i k
  head_free [] i rest e = (0, head_own No [] i rest (sym (matches-nil kind patterns) ∙ e))
  head_free (x ∷ v) i rest e =
      by_own (own (x ∷ v)) refl (stops kind patterns (x ∷ v)) refl (sym (matches-cons kind patterns x v) ∙ e) (λ f. head_free v i rest f)
    where
      by_own : (ns : List ℕ) → own (x ∷ v) ≡ ns → (t : Bool) → stops kind patterns (x ∷ v) ≡ t
          → own (x ∷ v) ++ cond (stops kind patterns (x ∷ v)) [] (matches kind patterns No (Some v)) ≡ i ∷ rest
          → (matches kind patterns No (Some v) ≡ i ∷ rest → (k : ℕ) × IsHead No v i k) → (k : ℕ) × IsHead No (x ∷ v) i k
      by_own (n ∷ ns) is t stop h later =
          let listed : n ∷ ns ++ cond (stops kind patterns (x ∷ v)) [] (matches kind patterns No (Some v))
          ≡ i ∷ rest =
          sym (ap (λ (ms : List ℕ). ms ++ cond (stops kind patterns (x ∷ v)) [] (matches kind patterns No (Some v))) is) ∙ h in
          let same : n ≡ i = cc in
          (0, head_own No (x ∷ v) i ns (is ∙ ap (λ (m : ℕ). m ∷ ns) same))
      by_own [] is true stop h later =
          let listed : [] ≡ i ∷ rest =
          sym (ap (λ (ms : List ℕ). ms ++ cond (stops kind patterns (x ∷ v)) [] (matches kind patterns No (Some v))) is
          ∙ cond-true (stops kind patterns (x ∷ v)) [] (matches kind patterns No (Some v)) stop) ∙ h in
          absurd (cc)
      by_own [] is false stop h later = search (rules, cond-false, head_behind, stops)

  -- the first match of the node reached is the head of what was read
  pub head : (anchored : Anchored) (v : List ℕ) (i : ℕ) (rest : List ℕ)
      → matches kind patterns anchored (Some v) ≡ i ∷ rest → (k : ℕ) × IsHead anchored v i k
  head No v i rest e = head_free v i rest e
  head Yes v i rest e = (0, head_own Yes v i rest e)

  -- under a leftmost kind it is the pick
  pub pick-becomes : (anchored : Anchored) (v : List ℕ) (i k : ℕ) → is_leftmost kind ≡ true
      → IsHead anchored v i k → IsPickIn kind patterns anchored v (Some (standing_at patterns i k))
  pick-becomes anchored v i k leftmost h = grind (arith, common_steps)

  -- where nothing stood before it is what Standard picks
  pub first-becomes : (anchored : Anchored) (w : List ℕ) (b i k : ℕ)
      → ((n s : ℕ) → ¬ Stands patterns anchored w n s) → IsHead anchored (w ++ b ∷ []) i k
      → IsPickIn Standard patterns anchored (w ++ b ∷ []) (Some (standing_at patterns i k))
  first-becomes anchored w b i k none h = grind (arith, common_steps)

  -- in the empty text only the empty pattern stands, so the matches of the start say what is picked there
  start_stands : (anchored : Anchored) (n s : ℕ) → Stands patterns anchored [] n s
      → (s ≡ 0) × Prefixes patterns [] n
  start_stands anchored n zero h = (refl, h.prefixes)
  start_stands anchored n (suc s) h = absurd (let i = h.within in omega arith)

  -- where the start has no match nothing stands in the empty text
  pub start-stays : (anchored : Anchored) → matches kind patterns anchored (Some []) ≡ [] → (n s : ℕ)
      → ¬ Stands patterns anchored [] n s
  start-stays anchored none n s h =
      search (
        rules,
        IsIn-equal_to,
        Prefixes-equal,
        Prefixes-length,
        matches-nil,
        none-from_nil,
        preferred,
        start_stands,
        start_stands anchored n s h,
        matches-nil kind patterns,
      )

  -- nothing ends before the start, so under each order its head is the pick of the empty text
  pub start-becomes : (order : MatchKind) (anchored : Anchored) (i k : ℕ) → IsHead anchored [] i k
      → ((a b : Occurrence) → a.end ≡ b.end → IsFirst kind a b → IsFirst order a b)
      → IsPickIn order patterns anchored [] (Some (standing_at patterns i k))
  start-becomes order anchored i k h also = grind (arith, common_steps)
