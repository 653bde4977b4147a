-- What occurs in the span of a search is what stands in the span's text: bytes outside the span never count.
use Rattle.ac_util.proofs.Prelude.{◌≡◌, ℕ, zero, suc, ◌+◌, ◌-◌, ◌<◌, ◌≤◌, List, [], ◌∷◌, ◌++◌, length, take, drop, get_or, refl, ap, sym, ◌∙◌, subst, arith, Option, Some, None, length-drop, slice_range, option_map, rules, length-map, take-map, take-take, drop-drop, take_more, map-append, get_or-drop, drop-map, common_steps}
use Rattle.ac_util.specs.Prelude.{cut, IsFirst, IsPick, LeftmostFirst, LeftmostLongest, MatchKind, Occurrence, occurrence, Occurs, outward, pattern_of, pick, plain, plain_byte, plain_patterns, Search, Standard, text, Stands, standing_at, IsPickIn}
use Rattle.std.proofs.Math.ListN.{get_or-map}
use Rattle.std.proofs.lemmas.Slice.Eq.{bytes_eq-Decides}
use Rattle.ac_util.proofs.Picks.{pick-IsPick, pick-from_IsPick, same_occurrence}
use Rattle.ac_util.proofs.Standing.{Stands-end}

-- the same search in a span that ends one byte later
abbrev pub one_longer : Search → Search
one_longer q = record q { high = q.high + 1 }

-- the same search in a span that ends n bytes later
abbrev pub longer_by : Search → ℕ → Search
longer_by q n = record q { high = q.high + n }

-- a part of the first m elements is a part of the list
pub take_drop_take : {X : Type 0} (n k m : ℕ) (xs : List X) → k + n ≤ m
    → take n (drop k (take m xs)) ≡ take n (drop k xs)
take_drop_take n zero m xs h = take-take n m xs (omega arith)
take_drop_take n (suc k) zero xs h = absurd (omega arith)
take_drop_take n (suc k) (suc m) [] h = refl
take_drop_take n (suc k) (suc m) (x ∷ xs) h = take_drop_take n k m xs (omega arith)

-- a part of the haystack that lies in a span is a part of the haystack cut there
slice_range-cut : (h : List ℕ) (low high s e : ℕ) → s ≤ e → low + e ≤ high
    → slice_range (slice_range h low high) s e ≡ slice_range h (low + s) (low + e)
slice_range-cut h low high s e ordered within = search (rules, drop-drop, take_drop_take)

-- an occurrence counted from the span's low end
abbrev pub inward : ℕ → Occurrence → Occurrence
inward low o = occurrence o.pattern (o.start - low) (o.end - low)

-- the order of preference doesn't depend on where places are counted from
pub first-outward : (kind : MatchKind) (low : ℕ) (a b : Occurrence) → IsFirst kind a b
    → IsFirst kind (outward low a) (outward low b)
first-outward Standard low a b f = grind (arith, common_steps)
first-outward LeftmostFirst low a b f = grind (arith, common_steps)
first-outward LeftmostLongest low a b f = grind (arith, common_steps)

-- and back
pub first-from_outward : (kind : MatchKind) (low : ℕ) (a b : Occurrence)
    → IsFirst kind (outward low a) (outward low b) → IsFirst kind a b
first-from_outward Standard low a b f = grind (arith, common_steps)
first-from_outward LeftmostFirst low a b f = grind (arith, common_steps)
first-from_outward LeftmostLongest low a b f = grind (arith, common_steps)

-- what occurs in the haystack cut to the span occurs in the span, and the other way round
pub Occurs-from_cut : (q : Search) (m : Occurrence) → q.low ≤ q.high → Occurs (cut q) m
    → Occurs q (outward q.low m)
Occurs-from_cut q m order o = search (rules, slice_range-cut)

-- and back
pub Occurs-to_cut : (q : Search) (m : Occurrence) → q.low ≤ q.high → Occurs q (outward q.low m)
    → Occurs (cut q) m
Occurs-to_cut q m order o = search (rules, slice_range-cut)

-- where the span begins past its end nothing occurs
pub nothing-past_end : (q : Search) (m : Occurrence) → q.high < q.low → ¬ Occurs q m
nothing-past_end q m past = grind (arith, common_steps)

module _ (q : Search) (order : q.low ≤ q.high) (inside : q.high ≤ length q.haystack) where
  -- a plain pattern is the pattern made plain
  pattern_plain : (n : ℕ) → pattern_of (plain_patterns q) n ≡ plain q.ignores_case (pattern_of q.patterns n)
  pattern_plain n = get_or-map (plain q.ignores_case) q.patterns n []

  -- it is as long
  pub pattern_length : (n : ℕ) → length (pattern_of (plain_patterns q) n) ≡ length (pattern_of q.patterns n)
  pattern_length n = ap length (pattern_plain n) ∙ length-map (pattern_of q.patterns n) (plain_byte q.ignores_case)

  -- the text is as long as the span
  pub text_length : length (text q) ≡ q.high - q.low
  text_length = grind (arith, common_steps)

  -- a part of the text is the plain part of the haystack
  pub part : (k n : ℕ) → k + n ≤ q.high - q.low
      → take n (drop k (text q)) ≡ plain q.ignores_case (slice_range q.haystack (q.low + k) (q.low + k + n))
  part k n h = search (rules, drop-drop, drop-map, take-map, take_drop_take)

  -- what occurs stands in the text
  pub Stands-from_Occurs : (o : Occurrence) → Occurs q o
      → Stands (plain_patterns q) q.anchored (text q) o.pattern (o.start - q.low)
  Stands-from_Occurs o h = search (rules, length-map, part, pattern_plain, text_length)

  -- and what stands in the text occurs
  pub Occurs-from_Stands : (n s : ℕ) → Stands (plain_patterns q) q.anchored (text q) n s
      → Occurs q (outward q.low (standing_at (plain_patterns q) n s))
  Occurs-from_Stands n s h = grind (arith, common_steps, Stands-end, bytes_eq-Decides, length-map, part)

  -- an occurrence is the place of its pattern at its start
  outward_inward : (o : Occurrence) → Occurs q o
      → outward q.low (standing_at (plain_patterns q) o.pattern (o.start - q.low)) ≡ o
  outward_inward o h = grind (arith, common_steps)

  -- the pick in the text is one of the search
  is_pick : (kind : MatchKind) (r : Option Occurrence) → IsPickIn kind (plain_patterns q) q.anchored (text q) r
      → IsPick kind q (option_map (outward q.low) r)
  is_pick kind None h = λ o occurs. h o.pattern (o.start - q.low) (Stands-from_Occurs o occurs)
  is_pick kind (Some m) h = (
    subst (λ (o : Occurrence). Occurs q (outward q.low o))
        (same_occurrence (standing_at (plain_patterns q) m.pattern m.start) m refl refl h.as_long)
        (Occurs-from_Stands m.pattern m.start h.stands),
    λ o occurs. subst (λ (b : Occurrence). IsFirst kind (outward q.low m) b) (outward_inward o occurs)
        (first-outward kind q.low m (standing_at (plain_patterns q) o.pattern (o.start - q.low))
        (h.first o.pattern (o.start - q.low) (Stands-from_Occurs o occurs))),
  )

  -- the pick in the text is the pick of the search
  pub pick-from_text : (kind : MatchKind) (r : Option Occurrence)
      → IsPickIn kind (plain_patterns q) q.anchored (text q) r → option_map (outward q.low) r ≡ pick kind q
  pick-from_text kind r h = pick-from_IsPick kind q (option_map (outward q.low) r) (is_pick kind r h)

  -- a pick of the search is one in the text
  in_text : (kind : MatchKind) (r : Option Occurrence) → IsPick kind q r
      → IsPickIn kind (plain_patterns q) q.anchored (text q) (option_map (inward q.low) r)
  in_text kind None h =
      λ n s stands. h (outward q.low (standing_at (plain_patterns q) n s)) (Occurs-from_Stands n s stands)
  in_text kind (Some m) h = record {
    stands = Stands-from_Occurs m h.0;
    as_long = (let l = pattern_length m.pattern in let a = h.0.as_long in let b = h.0.from_low in omega arith);
    first = (λ n s stands.
        first-from_outward kind q.low (inward q.low m) (standing_at (plain_patterns q) n s)
        (subst (λ (a : Occurrence). IsFirst kind a (outward q.low (standing_at (plain_patterns q) n s)))
        (sym (inward_outward m h.0))
        (h.1 (outward q.low (standing_at (plain_patterns q) n s)) (Occurs-from_Stands n s stands))));
  }
    where
      inward_outward : (o : Occurrence) → Occurs q o → outward q.low (inward q.low o) ≡ o
      inward_outward o x = search (rules, same_occurrence)

  -- counted from the low end and back, an occurrence is the same
  back_out : (kind : MatchKind) (r : Option Occurrence) → IsPick kind q r
      → option_map (outward q.low) (option_map (inward q.low) r) ≡ r
  back_out kind None h = refl
  back_out kind (Some m) h = grind (arith, common_steps)

  -- the pick of the search, counted from the span's low end, is the pick in the text
  pub pick-in_text : (kind : MatchKind)
      → IsPickIn kind (plain_patterns q) q.anchored (text q) (option_map (inward q.low) (pick kind q))
  pick-in_text kind = in_text kind (pick kind q) (pick-IsPick kind q)

  -- so is the pick
  pub pick-out_again : (kind : MatchKind)
      → option_map (outward q.low) (option_map (inward q.low) (pick kind q)) ≡ pick kind q
  pick-out_again kind = back_out kind (pick kind q) (pick-IsPick kind q)

-- the text of a span that is one place longer has one byte more
pub text_longer : (q : Search) → q.low ≤ q.high → q.high < length q.haystack
    → text (one_longer q) ≡ text q ++ plain_byte q.ignores_case (get_or q.haystack q.high 0) ∷ []
text_longer q order room =
    let d = length-drop q.low q.haystack in
    let part : slice_range q.haystack q.low (q.high + 1)
    ≡ slice_range q.haystack q.low q.high ++ get_or q.haystack q.high 0 ∷ [] =
    ap (λ (n : ℕ). take n (drop q.low q.haystack)) (omega arith)
    ∙ take_more (drop q.low q.haystack) (q.high - q.low) 0 (omega arith)
    ∙ ap (λ (x : ℕ). slice_range q.haystack q.low q.high ++ x ∷ [])
    (get_or-drop q.low q.haystack (q.high - q.low) 0 ∙ ap (λ (k : ℕ). get_or q.haystack k 0) (omega arith)) in
    ap (plain q.ignores_case) part
    ∙ map-append (plain_byte q.ignores_case) (slice_range q.haystack q.low q.high) (get_or q.haystack q.high 0 ∷ [])
