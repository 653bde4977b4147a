-- A stream under a leftmost kind: the matches that are decided stay as more of it comes, and no other starts before them.
use Rattle.ac_util.proofs.Prelude.{◌≡◌, ℕ, ◌+◌, ◌-◌, ◌<◌, ◌≤◌, true, List, [], ◌∷◌, ◌++◌, length, get_or, take, drop, inl, inr, refl, ap, sym, ◌∙◌, subst, arith, Option, None, Some, All, nat_eq, slice_range, rules, starts_with, take-append_seam, take-take, cases_lt, false_from_ne_true, drop-append-le, get_or-map, get_or-take, length-map, length-take-le, take-append-drop, take-map, All-cons, All-nil, common_steps}
use Rattle.ac_util.specs.Prelude.{AreDecided, whole_input, Built, continued, from, is_leftmost, IsFirst, IsOpen, IsPick, IsSettledAt, LeftmostFirst, LeftmostLongest, MatchKind, next_match, NoneOpen, Occurrence, occurrence, Occurs, participates, pattern_of, pick, plain, plain_byte, plain_patterns, Search, search_in, Standard, stream_result, walk_after}
use Rattle.ac_util.proofs.Lists.{IsIn-at}
use Rattle.ac_util.proofs.Participants.{takes_part}
use Rattle.ac_util.proofs.Picks.{first_unique, pick-IsPick}
use Rattle.ac_util.proofs.Prefixes.{IsFirstAny, first_any}
use Rattle.ac_util.proofs.Walks.{later, next-none, next-some, pick-Occurs, walk_after-None, walk_after-Some}

-- what is preferred under a leftmost kind starts no later
pub first-starts : (kind : MatchKind) (a b : Occurrence) → is_leftmost kind ≡ true → IsFirst kind a b → a.start ≤ b.start
first-starts Standard a b leftmost h = absurd (cc)
first-starts LeftmostFirst a b leftmost h = h.starts
first-starts LeftmostLongest a b leftmost h = h.starts

-- where a pattern stands, each of its prefixes among the patterns stands too
module _ (q : Search) (m : Occurrence) (o : Occurs q m) (number : ℕ) (numbered : number < length q.patterns)
    (front : starts_with nat_eq (plain q.ignores_case (pattern_of q.patterns m.pattern)) (plain q.ignores_case (pattern_of q.patterns number)) ≡ true)
  where
    abbrev prefix : Occurrence
    prefix = occurrence number m.start (m.start + length (pattern_of q.patterns number))

    shorter-prefix : length (pattern_of q.patterns number) ≤ length (pattern_of q.patterns m.pattern)
    shorter-prefix = grind (arith, common_steps)

    prefix-occurs : Occurs q prefix
    prefix-occurs = search (rules, length-map, shorter-prefix, take-map, take-take)

-- the pick takes part
pick-takes_part : (kind : MatchKind) (q : Search) (m : Occurrence) → is_leftmost kind ≡ true → pick kind q ≡ Some m
    → participates kind (plain_patterns q) m.pattern ≡ true
pick-takes_part Standard q m leftmost is = absurd (cc)
pick-takes_part LeftmostLongest q m leftmost is = refl
pick-takes_part LeftmostFirst q m leftmost is =
    takes_part (plain_patterns q) LeftmostFirst m.pattern (false_from_ne_true _ (λ h. by (first_any
    (λ (p : List ℕ). starts_with nat_eq (pattern_of (plain_patterns q) m.pattern) p) [] (take m.pattern (plain_patterns q)) h)))
  where
    o : Occurs q m
    o = pick-Occurs LeftmostFirst q m is

    plain_of : (k : ℕ) → k < length q.patterns → pattern_of (plain_patterns q) k ≡ plain q.ignores_case (pattern_of q.patterns k)
    plain_of k within = get_or-map (plain q.ignores_case) q.patterns k [] [] within

    by : (i : ℕ) × IsFirstAny (λ (p : List ℕ). starts_with nat_eq (pattern_of (plain_patterns q) m.pattern) p) []
        (take m.pattern (plain_patterns q)) i → ⊥
    by found =
        let i = found.0 in
        let numbered = o.numbered in
        let all = length-map q.patterns (plain q.ignores_case) in
        let fewer = length-take-le m.pattern (plain_patterns q) (omega arith) in
        let below : i < m.pattern = (let within = found.1.within in omega arith) in
        let front : starts_with nat_eq (plain q.ignores_case (pattern_of q.patterns m.pattern)) (plain q.ignores_case (pattern_of q.patterns i)) ≡ true =
        ap (λ (w : List ℕ). starts_with nat_eq w (plain q.ignores_case (pattern_of q.patterns i))) (sym (plain_of m.pattern o.numbered))
        ∙ ap (λ (p : List ℕ). starts_with nat_eq (pattern_of (plain_patterns q) m.pattern) p)
        (sym (get_or-take m.pattern (plain_patterns q) i [] below ∙ plain_of i (omega arith)))
        ∙ found.1.passes in
        let first = (subst (IsPick LeftmostFirst q) is (pick-IsPick LeftmostFirst q)).1 (prefix q m o i (omega arith) front)
        (prefix-occurs q m o i (omega arith) front) in
        let least = first.patterns refl in
        absurd (omega arith)

module _ (built : Built) (leftmost : is_leftmost built.kind ≡ true) (bytes more : List ℕ) where
  -- the search from a place on, and the same once more bytes have come
  abbrev pub here : ℕ → Search
  here low = record (search_in built (whole_input bytes)) { low = low }

  abbrev pub there : ℕ → Search
  there low = record (search_in built (whole_input (bytes ++ more))) { low = low }

  -- what occurs still occurs
  occurs-there : (low : ℕ) (m : Occurrence) → Occurs (here low) m → Occurs (there low) m
  occurs-there low m o = grind (arith, common_steps)

  -- what occurs and ends by the end of these bytes occurred before
  occurs-here : (low : ℕ) (m : Occurrence) → m.end ≤ length bytes → Occurs (there low) m → Occurs (here low) m
  occurs-here low m ends o = grind (arith, common_steps)

  -- a pick that ends after them starts at a place that is open
  opens : (low : ℕ) (m : Occurrence) → pick built.kind (there low) ≡ Some m → m.start < length bytes
      → length bytes < m.end → IsOpen built bytes m.start
  opens low m is inside beyond =
      let o = pick-Occurs built.kind (there low) m is in
      let as_long = o.as_long in
      let n = length bytes - m.start in
      record {
        inside = inside;
        number = m.pattern;
        numbered = o.numbered;
        takes_part = pick-takes_part built.kind (there low) m leftmost is;
        longer = omega arith;
        begins =
            sym (take-map (plain_byte built.ignores_case) n (pattern_of built.patterns m.pattern))
            ∙ ap (take n) o.reads
            ∙ take-map (plain_byte built.ignores_case) n (slice_range (bytes ++ more) m.start m.end)
            ∙ ap (plain built.ignores_case) (shown m.start m.end inside beyond);
      }
    where
      -- of a slice that ends after the bytes, as many as there are of these
      shown : (start end : ℕ) → start < length bytes → length bytes < end
          → take (length bytes - start) (slice_range (bytes ++ more) start end) ≡ drop start bytes
      shown start end inside beyond = grind (arith, common_steps, drop-append-le, take-append_seam, take-take)

  -- the pick stays where no place is open up to its start
  pick-stays : (low : ℕ) (m : Occurrence) → pick built.kind (here low) ≡ Some m → m.start < m.end
      → NoneOpen built bytes low (m.start + 1) → pick built.kind (there low) ≡ Some m
  pick-stays low m is some closed = by (pick built.kind (there low)) refl (pick-IsPick built.kind (there low))
    where
      o : Occurs (here low) m
      o = pick-Occurs built.kind (here low) m is

      first : (n : Occurrence) → Occurs (here low) n → IsFirst built.kind m n
      first = (subst (IsPick built.kind (here low)) is (pick-IsPick built.kind (here low))).1

      by : (r : Option Occurrence) → pick built.kind (there low) ≡ r → IsPick built.kind (there low) r
          → pick built.kind (there low) ≡ Some m
      by None e h = absurd (h m (occurs-there low m o))
      by (Some n) e h = elim (cases_lt (length bytes) n.end) [
        | inl beyond ↦
            let starts = first-starts built.kind n m leftmost (h.1 m (occurs-there low m o)) in
            let end = o.to_high in
            let low_end = h.0.from_low in
            absurd (closed n.start (omega arith) (omega arith) (opens low n e (omega arith) beyond))
        | inr ends ↦
            e ∙ ap (λ (k : Occurrence). Some k) (first_unique built.kind (there low) n m h.0 (occurs-there low m o)
            (h.1 m (occurs-there low m o)) (first n (occurs-here low n ends h.0)))
      ]

  -- where nothing is picked before a place and none is open up to there, nothing is picked before it later
  pick-later : (low place : ℕ) → place ≤ length bytes → NoneOpen built bytes low place
      → ((m : Occurrence) → pick built.kind (here low) ≡ Some m → place ≤ m.start)
      → (n : Occurrence) → pick built.kind (there low) ≡ Some n → place ≤ n.start
  pick-later low place within closed none n is = elim (cases_lt n.start place) [
    | inr le ↦ le
    | inl before ↦ elim (cases_lt (length bytes) n.end) [
      | inl beyond ↦
          let o = pick-Occurs built.kind (there low) n is in
          let low_end = o.from_low in
          absurd (closed n.start (omega arith) before (opens low n is (omega arith) beyond))
      | inr ends ↦ by (pick built.kind (here low)) refl (pick-IsPick built.kind (here low)) before ends
    ]
  ]
    where
      by : (r : Option Occurrence) → pick built.kind (here low) ≡ r → IsPick built.kind (here low) r
          → n.start < place → n.end ≤ length bytes → place ≤ n.start
      by None e h before ends =
          absurd (h n (occurs-here low n ends (pick-Occurs built.kind (there low) n is)))
      by (Some m) e h before ends =
          let starts = first-starts built.kind m n leftmost
          (h.1 n (occurs-here low n ends (pick-Occurs built.kind (there low) n is))) in
          let at = none m e in absurd (omega arith)

  module _ (some : (n : ℕ) → n < length built.patterns → 0 < length (pattern_of built.patterns n)) where
    -- no match is empty
    some-bytes : (q : Search) (m : Occurrence) → q.patterns ≡ built.patterns → pick built.kind q ≡ Some m → m.start < m.end
    some-bytes q m same is = grind (arith, common_steps, pick-Occurs built.kind q m is)

    -- so the next match is the pick
    pub next-picks : (q : Search) (last : Option ℕ) (m : Occurrence) → q.patterns ≡ built.patterns
        → next_match built.kind q last ≡ Some m → pick built.kind q ≡ Some m
    next-picks q last m same is = search (rules, next-none, next-some, some-bytes)

    -- a walk that begins with a match goes on from its end
    pub walk-first : (q : Search) (last : Option ℕ) (m : Occurrence) (ms : List Occurrence)
        → walk_after built.kind q last ≡ m ∷ ms
        → (next_match built.kind q last ≡ Some m) × (walk_after built.kind (from q m.end) (Some m.end) ≡ ms)
    walk-first q last m ms is = by (next_match built.kind q last) refl
      where
        by : (r : Option Occurrence) → next_match built.kind q last ≡ r
            → (next_match built.kind q last ≡ Some m) × (walk_after built.kind (from q m.end) (Some m.end) ≡ ms)
        by None e = absurd (let none = walk_after-None built.kind q last e in cc)
        by (Some n) e = grind (arith, common_steps, walk_after-Some built.kind q last n e)

    -- a walk after a match starts no match before its end
    walk-beyond : (q : Search) → All (λ (x : Occurrence). q.low ≤ x.start) (walk_after built.kind q (Some q.low))
    unfolding walk_after
    walk-beyond q = λ k d within.
        let n = q.high + 1 - q.low in
        let r = next_match built.kind q (Some q.low) in
        (later built.kind q n r (get_or (continued built.kind q n r) k d) refl
        (IsIn-at (get_or (continued built.kind q n r) k d) d (continued built.kind q n r) k within refl)).0

    -- where the next match starts no earlier than a place, none does
    pub walk-from : (q : Search) (place : ℕ) (last : Option ℕ) → q.patterns ≡ built.patterns
        → ((m : Occurrence) → pick built.kind q ≡ Some m → place ≤ m.start)
        → All (λ (m : Occurrence). place ≤ m.start) (walk_after built.kind q last)
    walk-from q place last same first = by (next_match built.kind q last) refl
      where
        by : (r : Option Occurrence) → next_match built.kind q last ≡ r
            → All (λ (m : Occurrence). place ≤ m.start) (walk_after built.kind q last)
        by None e =
            subst (All (λ (m : Occurrence). place ≤ m.start)) (sym (walk_after-None built.kind q last e)) (All-nil _)
        by (Some n) e =
            let is = next-picks q last n same e in
            let starts = first n is in
            let long = some-bytes q n same is in
            let beyond = walk-beyond (from q n.end) in
            let rest = walk_after built.kind (from q n.end) (Some n.end) in
            let far : All (λ (m : Occurrence). place ≤ m.start) rest =
            λ k d at. (let far = beyond k d at in let end : place ≤ (get_or rest k d).start = omega arith in end) in
            subst (All (λ (m : Occurrence). place ≤ m.start)) (sym (walk_after-Some built.kind q last n e))
            (All-cons (λ (m : Occurrence). place ≤ m.start) n rest starts far)

    -- where none starts before a place and none is open up to there, none starts before it later
    later-beyond : (low place : ℕ) (last : Option ℕ) → place ≤ length bytes → NoneOpen built bytes low place
        → All (λ (m : Occurrence). place ≤ m.start) (walk_after built.kind (here low) last)
        → All (λ (m : Occurrence). place ≤ m.start) (walk_after built.kind (there low) last)
    later-beyond low place last within closed all =
        walk-from (there low) place last refl (pick-later low place within closed none)
      where
        none : (m : Occurrence) → pick built.kind (here low) ≡ Some m → place ≤ m.start
        none m is =
            let walks = walk_after-Some built.kind (here low) last m
            (next-some built.kind (here low) last m is (some-bytes (here low) m refl is)) in
            subst (All (λ (n : Occurrence). place ≤ n.start)) walks all 0 m (omega arith)

    -- the matches that are decided stay, and no other starts before the place
    decided-stays : (ms rest : List Occurrence) (low place : ℕ) (last : Option ℕ) → place ≤ length bytes
        → walk_after built.kind (here low) last ≡ ms ++ rest → AreDecided built bytes low ms place
        → All (λ (m : Occurrence). place ≤ m.start) rest
        → (others : List Occurrence) × (walk_after built.kind (there low) last ≡ ms ++ others)
        × All (λ (m : Occurrence). place ≤ m.start) others
    decided-stays [] rest low place last within walks closed all = search (rules, later-beyond)
    decided-stays (m ∷ ms) rest low place last within walks decided all =
        let first = walk-first (here low) last m (ms ++ rest) walks in
        let is = next-picks (here low) last m refl first.0 in
        let long = some-bytes (here low) m refl is in
        let stays = pick-stays low m is long decided.0 in
        let on = decided-stays ms rest m.end place (Some m.end) within first.1 decided.1 all in (
          on.0,
          walk_after-Some built.kind (there low) last m (next-some built.kind (there low) last m stays long)
              ∙ ap (λ (ns : List Occurrence). m ∷ ns) on.1,
          on.2,
        )

    -- so a settled stream keeps the matches that were given, and no other starts before the place
    pub settled-stays : (given place : ℕ) → IsSettledAt built bytes given place
        → (take given (stream_result built (bytes ++ more)) ≡ take given (stream_result built bytes))
        × All (λ (m : Occurrence). place ≤ m.start) (drop given (stream_result built (bytes ++ more)))
    settled-stays given place h = grind (arith, common_steps, take-append-drop given (stream_result built bytes), decided-stays)
