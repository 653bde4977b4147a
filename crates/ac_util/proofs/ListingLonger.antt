-- A span that is one place longer: its listing goes on with the matches of the node that an automaton reaches
-- at its end.
use Rattle.ac_util.proofs.Prelude.{◌≡◌, ℕ, zero, suc, ◌+◌, ◌<◌, ◌≤◌, List, [], ◌∷◌, ◌++◌, map, length, inl, inr, refl, ap, sym, subst, arith, Some, rules, cases_lt, common_steps}
use Rattle.ac_util.specs.Prelude.{all, ending, equal_to, IsBefore, matches, No, Occurrence, Occurs, outward, pattern_of, plain_patterns, Search, Standard, text, Yes, Stands, standing_at}
use Rattle.ac_util.specs.declared.search.Anchored.{Anchored}
use Rattle.ac_util.proofs.Lists.{IsIn, IsIn-append_left, IsIn-append_right, IsIn-append_cases, IsIn-map, IsIn-from_map, IsOrdered, IsOrdered-append}
use Rattle.ac_util.proofs.Listing.{all-has, all-only, all-ordered, all-unique}
use Rattle.ac_util.proofs.Picks.{same_occurrence}
use Rattle.ac_util.proofs.Prefixes.{starts_with-itself}
use Rattle.ac_util.proofs.Participants.{IsIn-equal_to, IsIn-from_equal_to, equal_to-ordered}
use Rattle.ac_util.proofs.Found.{matches-nil, matches-cons}
use Rattle.ac_util.proofs.Standing.{Prefixes-equal, Stands-beyond, Stands-from_behind}
use Rattle.ac_util.proofs.Spans.{pattern_length, text_length, Stands-from_Occurs, Occurs-from_Stands, one_longer}
use Rattle.ac_util.proofs.OneLonger.{find_result-text, found_at_end}

module _ (patterns : List (List ℕ)) where
  -- pattern n stands in v from place s on and ends with it
  record EndsWith (anchored : Anchored) (v : List ℕ) (n s : ℕ) : Type 0 where
    stands : Stands patterns anchored v n s
    whole : s + length (pattern_of patterns n) ≡ length v

  abbrev own : List ℕ → List ℕ
  own v = equal_to Standard patterns v

  abbrev found : Anchored → List ℕ → List ℕ
  found anchored v = matches Standard patterns anchored (Some v)

  in_own : (anchored : Anchored) (v : List ℕ) (n : ℕ) → EndsWith anchored v n 0 → IsIn n (own v)
  in_own anchored v n e = search (rules, IsIn-equal_to, Prefixes-equal)

  from_own : (anchored : Anchored) (v : List ℕ) (n : ℕ) → IsIn n (own v) → EndsWith anchored v n 0
  from_own anchored v n h = search (rules, IsIn-from_equal_to, starts_with-itself)

  -- the matches of a string are the patterns that end with it
  in_free : (v : List ℕ) (n s : ℕ) → EndsWith No v n s → IsIn n (found No v)
  in_free [] n zero e = rw (matches-nil Standard patterns) (in_own No [] n e)
  in_free [] n (suc s) e = absurd (let i = e.stands.within in omega arith)
  in_free (x ∷ v) n zero e = search (rules, IsIn-append_left, in_own)
  in_free (x ∷ v) n (suc s) e =
      rw (matches-cons Standard patterns x v) (IsIn-append_right n (own (x ∷ v)) (found No v)
      (in_free v n s
      (record {
        stands = Stands-from_behind patterns x v n s e.stands;
        whole =
            (let w = e.whole in omega arith);
      })))

  from_free : (v : List ℕ) (n : ℕ) → IsIn n (found No v) → (s : ℕ) × EndsWith No v n s
  from_free [] n h = (0, from_own No [] n (rw (matches-nil Standard patterns) at h))
  from_free (x ∷ v) n h =
      elim (IsIn-append_cases n (own (x ∷ v)) (found No v) (rw (matches-cons Standard patterns x v) at h)) [
        | inl here ↦ (0, from_own No (x ∷ v) n here)
        | inr later ↦
            let r = from_free v n later in (
              suc r.0,
              record {
                stands = Stands-beyond patterns x v n r.0 r.1.stands;
                whole =
                    (let w = r.1.whole in omega arith);
              },
            )
      ]

  in_found : (anchored : Anchored) (v : List ℕ) (n s : ℕ) → EndsWith anchored v n s → IsIn n (found anchored v)
  in_found No v n s e = in_free v n s e
  in_found Yes v n zero e = in_own Yes v n e
  in_found Yes v n (suc s) e = absurd (let z = e.stands.at_front refl in omega arith)

  from_found : (anchored : Anchored) (v : List ℕ) (n : ℕ) → IsIn n (found anchored v)
      → (s : ℕ) × EndsWith anchored v n s
  from_found No v n h = from_free v n h
  from_found Yes v n h = (0, from_own Yes v n h)

  -- i is the number of a longer pattern than j, or of one as long with a lesser number
  record IsAhead (i j : ℕ) : Type 0 where
    longer : length (pattern_of patterns j) ≤ length (pattern_of patterns i)
    lesser : length (pattern_of patterns i) ≡ length (pattern_of patterns j) → i < j

  own_ordered : (v : List ℕ) (ns : List ℕ) → ((i : ℕ) → IsIn i ns → pattern_of patterns i ≡ v)
      → IsOrdered (λ x y. x < y) ns → IsOrdered IsAhead ns
  own_ordered v [] same o = tt
  own_ordered v (n ∷ ns) same o = (
    (λ j h.
        let e = ap length (same n (inl refl)) in let f = ap length (same j (inr h)) in let l = o.0 j h in
        record { longer = omega arith; lesser = λ _. l }),
    own_ordered v ns (λ i h. same i (inr h)) o.1,
  )

  ordered_own : (v : List ℕ) → IsOrdered IsAhead (own v)
  ordered_own v =
      own_ordered v (own v) (λ i h. (IsIn-from_equal_to Standard patterns v i h).same)
      (equal_to-ordered Standard patterns v)

  -- they are listed longest first, and then by number
  ordered_free : (v : List ℕ) → IsOrdered IsAhead (found No v)
  ordered_free [] = rw (matches-nil Standard patterns) (ordered_own [])
  ordered_free (x ∷ v) = rw (matches-cons Standard patterns x v) (
      IsOrdered-append IsAhead (own (x ∷ v)) (found No v) (ordered_own (x ∷ v)) (ordered_free v)
      (λ i j h k.
      let e = ap length (IsIn-from_equal_to Standard patterns (x ∷ v) i h).same in
      let r = from_free v j k in
      let w = r.1.whole in
      record { longer = omega arith; lesser = λ same. absurd (omega arith) }))

  ordered_found : (anchored : Anchored) (v : List ℕ) → IsOrdered IsAhead (found anchored v)
  ordered_found No v = ordered_free v
  ordered_found Yes v = ordered_own v

module _ (q : Search) (order : q.low ≤ q.high) (inside : q.high ≤ length q.haystack) where
  abbrev at_end : List Occurrence
  at_end = map (ending q) (found_at_end Standard q)

  text_is : found_at_end Standard q ≡ found (plain_patterns q) q.anchored (text q)
  text_is = find_result-text Standard q

  -- the matches found at the end of the span are the occurrences that end there
  has_ending : (m : Occurrence) → Occurs q m → m.end ≡ q.high → IsIn m at_end
  has_ending m o e =
      search (
        rules,
        IsIn-map,
        Stands-from_Occurs,
        in_found,
        pattern_length,
        same_occurrence,
        text_is,
        text_length,
        text_length q order,
        pattern_length q order,
        Stands-from_Occurs q order,
        same_occurrence (ending q m.pattern) m refl (omega arith) (sym e),
      )

  occurs_ending : (n : ℕ) → IsIn n (found_at_end Standard q) → Occurs q (ending q n)
  occurs_ending n h =
      let r =
      from_found (plain_patterns q) q.anchored (text q) n (subst (λ (ns : List ℕ). IsIn n ns) text_is h) in
      let t = text_length q order inside in
      let l = pattern_length q order inside n in
      let w = r.1.whole in
      subst (Occurs q)
      (same_occurrence (outward q.low (standing_at (plain_patterns q) n r.0)) (ending q n) refl (omega arith)
      (omega arith))
      (Occurs-from_Stands q order inside n r.0 r.1.stands)

  only_ending : (m : Occurrence) → IsIn m at_end → Occurs q m × (m.end ≡ q.high)
  only_ending m h = search (rules, IsIn-from_map, occurs_ending)

  in_order : (ns : List ℕ) → ((i : ℕ) → IsIn i ns → length (pattern_of q.patterns i) ≤ q.high)
      → IsOrdered (IsAhead (plain_patterns q)) ns → IsOrdered IsBefore (map (ending q) ns)
  in_order [] fits o = tt
  in_order (n ∷ ns) fits o = (
    (λ m h.
        let f = IsIn-from_map (ending q) m ns h in
        let a = o.0 f.0 f.1 in
        let longer = a.longer in
        let x = pattern_length q order inside n in let y = pattern_length q order inside f.0 in
        let u = fits n (inl refl) in let v = fits f.0 (inr f.1) in
        subst (IsBefore (ending q n)) f.2
        (record {
          ends = omega arith;
          starts = λ _. omega arith;
          patterns = λ _ e. a.lesser
              (omega arith);
        })),
    in_order ns (λ i h. fits i (inr h)) o.1,
  )

  ordered_ending : IsOrdered IsBefore at_end
  ordered_ending = search (rules, in_order, occurs_ending, ordered_found, text_is)

-- the listing of an empty span is the matches of the start
pub all-empty : (q : Search) → q.low ≡ q.high → q.high ≤ length q.haystack
    → all q ≡ map (ending q) (found_at_end Standard q)
all-empty q empty inside = search (rules, all-unique, has_ending, only_ending, ordered_ending)

module _ (q : Search) (order : q.low ≤ q.high) (room : q.high < length q.haystack) where
  longer_has : (m : Occurrence) → Occurs q m → Occurs (one_longer q) m
  longer_has m o = grind (arith, common_steps)

  shorter_has : (m : Occurrence) → Occurs (one_longer q) m → m.end ≤ q.high → Occurs q m
  shorter_has m o h = grind (arith, common_steps)

  abbrev new : List Occurrence
  new = map (ending (one_longer q)) (found_at_end Standard (one_longer q))

  has : (m : Occurrence) → Occurs (one_longer q) m → IsIn m (all q ++ new)
  has m o = elim (cases_lt q.high m.end) [
    | inr old ↦ IsIn-append_left m (all q) new (all-has q m (shorter_has m o old))
    | inl late ↦
        IsIn-append_right m (all q) new
        (has_ending (one_longer q) (omega arith) (omega arith) m o (let h = o.to_high in omega arith))
  ]

  only : (m : Occurrence) → IsIn m (all q ++ new) → Occurs (one_longer q) m
  only m h = elim (IsIn-append_cases m (all q) new h) [
    | inl old ↦ longer_has m (all-only q m old)
    | inr late ↦ (only_ending (one_longer q) (omega arith) (omega arith) m late).0
  ]

  ordered : IsOrdered IsBefore (all q ++ new)
  ordered =
      IsOrdered-append IsBefore (all q) new (all-ordered q)
      (ordered_ending (one_longer q) (omega arith) (omega arith))
      (λ a b h k.
      let o = all-only q a h in
      let t = o.to_high in
      let e = (only_ending (one_longer q) (omega arith) (omega arith) b k).1 in
      record {
        ends = omega arith;
        starts = λ same. absurd (omega arith);
        patterns = λ same s. absurd (omega arith);
      })

  -- the listing of the longer span is that of the shorter one, and then the matches of the node reached
  pub all-longer : all (one_longer q) ≡ all q ++ map (ending (one_longer q))
      (found_at_end Standard (one_longer q))
  all-longer = sym (all-unique (one_longer q) (all q ++ new) has only ordered)
