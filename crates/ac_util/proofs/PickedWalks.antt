-- Walks by patterns of which none is empty, under any kind: one pick after another.
use Rattle.ac_util.proofs.Prelude.{◌≡◌, ℕ, ◌+◌, ◌-◌, ◌<◌, ◌≤◌, List, [], ◌∷◌, ◌++◌, length, length-append, slice_range, take, drop, refl, ap, sym, ◌∙◌, subst, arith, Option, None, Some, rules, take-append_seam, drop-drop, drop-map, drop-take, length-map}
use Rattle.ac_util.specs.Prelude.{from, MatchKind, next_match, No, Occurrence, Occurs, outward, pattern_of, pick, plain, plain_byte, plain_patterns, reached, Search, text, walk, walk_after, IsPickIn, IsSearchFor}
use Rattle.ac_util.specs.declared.search.Anchored.{Anchored}
use Rattle.ac_util.proofs.OneLonger.{pick-dead}
use Rattle.ac_util.proofs.Spans.{part, pattern_length, pick-from_text, text_length}
use Rattle.ac_util.proofs.Walks.{next-none, next-some, pick-Occurs, walk_after-None, walk_after-Some}

-- a search for these patterns, none of them empty
module _ (kind : MatchKind) (patterns : List (List ℕ))
    (some : (n : ℕ) → n < length patterns → 0 < length (pattern_of patterns n)) where
  module _ (q : Search) (is : IsSearchFor patterns q) where
    -- what is picked has bytes
    pub pick-some : (order : MatchKind) (m : Occurrence) → pick order q ≡ Some m → m.start < m.end
    pick-some order m e =
        let o = pick-Occurs order q m e in
        let long = o.as_long in
        let numbered : m.pattern < length patterns =
        subst (λ (ps : List (List ℕ)). m.pattern < length ps) is.same (subst (λ (n : ℕ). m.pattern < n) (sym (length-map q.patterns (plain q.ignores_case))) o.numbered) in
        let plain-long = pattern_length q is.ordered is.inside m.pattern in
        let same = ap (λ (ps : List (List ℕ)). length (pattern_of ps m.pattern)) is.same in
        let has = some m.pattern numbered in
        omega arith

    -- so it makes no difference where the match before it ended
    pub next-any : (last : Option ℕ) → next_match kind q last ≡ pick kind q
    next-any last = by (pick kind q) refl
      where
        by : (r : Option Occurrence) → pick kind q ≡ r → next_match kind q last ≡ pick kind q
        by None e = next-none kind q last e ∙ sym e
        by (Some m) e = next-some kind q last m e (pick-some kind m e) ∙ sym e

    pub walk-any : (last : Option ℕ) → walk_after kind q last ≡ walk kind q
    walk-any last = by (pick kind q) refl
      where
        by : (r : Option Occurrence) → pick kind q ≡ r → walk_after kind q last ≡ walk kind q
        by None e = walk_after-None kind q last (next-any last ∙ e) ∙ sym (walk_after-None kind q None (next-any None ∙ e))
        by (Some m) e = walk_after-Some kind q last m (next-any last ∙ e) ∙ sym (walk_after-Some kind q None m (next-any None ∙ e))

  -- a search from a place of its span on is one too
  pub search-from : (q : Search) (place : ℕ) → IsSearchFor patterns q → q.low ≤ place → place ≤ q.high
      → IsSearchFor patterns (from q place)
  search-from q place is after within = record { free = is.free; ordered = within; inside = is.inside; same = is.same }

  -- the walk begins with the pick, and goes on from its end
  pub walk-picks : (q : Search) (m : Occurrence) → IsSearchFor patterns q → pick kind q ≡ Some m
      → walk kind q ≡ m ∷ walk kind (from q m.end)
  walk-picks q m is e =
      walk_after-Some kind q None m (next-any q is None ∙ e)
      ∙ ap (λ (ms : List Occurrence). m ∷ ms) (walk-any (from q m.end) (search-from q m.end is after o.to_high) (Some m.end))
    where
      o : Occurs q m
      o = pick-Occurs kind q m e

      after : q.low ≤ m.end
      after = let low = o.from_low in let long = o.as_long in omega arith

  -- without a pick there is none
  pub walk-ends : (q : Search) → IsSearchFor patterns q → pick kind q ≡ None → walk kind q ≡ []
  walk-ends q is e = walk_after-None kind q None (next-any q is None ∙ e)

  -- the text of a search from a place on
  pub text-from : (q : Search) (place : ℕ) → q.low + place ≤ q.high → text (from q (q.low + place)) ≡ drop place (text q)
  text-from q place within =
      let m = q.high - (q.low + place) in
      let long : q.high - q.low ≡ place + m = omega arith in
      sym (drop-map (plain_byte q.ignores_case) place (take (q.high - q.low) (drop q.low q.haystack))
      ∙ ap (plain q.ignores_case)
      (ap (λ (n : ℕ). drop place (take n (drop q.low q.haystack))) long
      ∙ drop-take place m (drop q.low q.haystack)
      ∙ ap (take m) (drop-drop place q.low q.haystack)))

  -- the search as far as it has read w
  module _ (q : Search) (w y : List ℕ) (is : IsSearchFor patterns q) (reads : text q ≡ w ++ y) where
    abbrev so-far : Search
    so-far = record q { high = q.low + length w }

    read-long : length w ≤ q.high - q.low
    read-long =
        let all = text_length q is.ordered is.inside in let parts = ap length reads ∙ length-append w y in omega arith

    text-so-far : text so-far ≡ w
    text-so-far =
        sym (part q is.ordered is.inside 0 (length w) (let l = read-long in omega arith) ∙ again)
        ∙ ap (take (length w)) reads ∙ take-append_seam w y
      where
        again : plain q.ignores_case (slice_range q.haystack (q.low + 0) (q.low + 0 + length w)) ≡ text so-far
        again = ap (λ (k : ℕ). plain q.ignores_case (slice_range q.haystack k (k + length w))) (omega arith)

    -- where w leads to the dead node, its pick is that of the search
    pub dead-pick : (m : Occurrence) → reached kind patterns No w ≡ None → IsPickIn kind patterns No w (Some m)
        → pick kind q ≡ Some (outward q.low m)
    dead-pick m dead picked =
        sym (ap (λ (h : ℕ). pick kind (record q { high = h })) whole)
        ∙ pick-dead kind so-far up dead-there (q.high - (q.low + length w)) room
        ∙ sym (pick-from_text so-far up inside kind (Some m) picked-there)
      where
        up : q.low ≤ q.low + length w
        up = omega arith

        inside : q.low + length w ≤ length q.haystack
        inside = let l = read-long in let i = is.inside in let o = is.ordered in omega arith

        whole : q.low + length w + (q.high - (q.low + length w)) ≡ q.high
        whole = let l = read-long in let o = is.ordered in omega arith

        room : q.low + length w + (q.high - (q.low + length w)) ≤ length q.haystack
        room = let w = whole in let i = is.inside in omega arith

        dead-there : reached kind (plain_patterns q) q.anchored (text so-far) ≡ None
        dead-there = search (rules, text-so-far)

        picked-there : IsPickIn kind (plain_patterns q) q.anchored (text so-far) (Some m)
        picked-there =
            subst (λ (ps : List (List ℕ)). IsPickIn kind ps q.anchored (text so-far) (Some m)) (sym is.same)
            (subst (λ (a : Anchored). IsPickIn kind patterns a (text so-far) (Some m)) (sym is.free)
            (subst (λ (u : List ℕ). IsPickIn kind patterns No u (Some m)) (sym text-so-far) picked))

    -- so the walk begins with it
    pub walk-dead : (m : Occurrence) → reached kind patterns No w ≡ None → IsPickIn kind patterns No w (Some m)
        → walk kind q ≡ outward q.low m ∷ walk kind (from q (q.low + m.end))
    walk-dead m dead picked = walk-picks q (outward q.low m) is (dead-pick m dead picked)

  -- the search whose text is w
  module _ (q : Search) (w : List ℕ) (is : IsSearchFor patterns q) (reads : text q ≡ w) where
    picked-in : (r : Option Occurrence) → IsPickIn kind patterns No w r
        → IsPickIn kind (plain_patterns q) q.anchored (text q) r
    picked-in r picked =
        subst (λ (ps : List (List ℕ)). IsPickIn kind ps q.anchored (text q) r) (sym is.same)
        (subst (λ (a : Anchored). IsPickIn kind patterns a (text q) r) (sym is.free)
        (subst (λ (u : List ℕ). IsPickIn kind patterns No u r) (sym reads) picked))

    -- its walk begins with the pick of w
    pub walk-whole : (m : Occurrence) → IsPickIn kind patterns No w (Some m)
        → walk kind q ≡ outward q.low m ∷ walk kind (from q (q.low + m.end))
    walk-whole m picked =
        walk-picks q (outward q.low m) is (sym (pick-from_text q is.ordered is.inside kind (Some m) (picked-in (Some m) picked)))

    -- or is empty where w has none
    pub walk-none : IsPickIn kind patterns No w None → walk kind q ≡ []
    walk-none none = walk-ends q is (sym (pick-from_text q is.ordered is.inside kind None (picked-in None none)))
