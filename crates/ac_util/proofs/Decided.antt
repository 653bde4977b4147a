-- A stream under a leftmost kind: matches that stay whatever follows are decided, and so settle it.
use Rattle.ac_util.proofs.Prelude.{◌≡◌, ℕ, suc, ◌+◌, ◌-◌, ◌<◌, ◌≤◌, true, List, [], ◌∷◌, ◌++◌, length, get_or, map, length-append, take, drop, refl, ap, sym, ◌∙◌, subst, arith, Option, None, Some, All, nat_eq, slice_range, rules, starts_with, drop-append_seam, take-append_seam, take-take, append-nil, get_or-map, length-map, take-append-drop, take-map, All-nil, common_steps}
use Rattle.ac_util.specs.Prelude.{AreDecided, Built, from, is_leftmost, IsFirst, IsOpen, IsPick, IsSettledAt, last_end, LeftmostFirst, LeftmostLongest, MatchKind, next_match, NoneOpen, Occurrence, occurrence, Occurs, participates, pattern_of, pick, plain, Search, Standard, stream_result, walk_after}
use Rattle.ac_util.proofs.Participants.{participant-least}
use Rattle.ac_util.proofs.Picks.{pick-IsPick}
use Rattle.ac_util.proofs.Prefixes.{starts_with-take}
use Rattle.ac_util.proofs.Walks.{pick-Occurs}
use Rattle.ac_util.proofs.Settled.{first-starts, here, next-picks, there, walk-first, walk-from}

-- where a match stays the pick whatever follows, no place up to its start is open
module _ (built : Built) (leftmost : is_leftmost built.kind ≡ true) (bytes : List ℕ) (low : ℕ) (m : Occurrence)
    (ends : m.end ≤ length bytes)
    (stays : (more : List ℕ) → pick built.kind (there built leftmost bytes more low) ≡ Some m) where
  module _ (place : ℕ) (from_low : low ≤ place) (before : place < m.start + 1) (open' : IsOpen built bytes place) where
    -- the pattern that may come of it, and its bytes that would have to follow
    abbrev pattern : List ℕ
    pattern = pattern_of built.patterns open'.number

    abbrev known : ℕ
    known = length bytes - place

    abbrev rest : List ℕ
    rest = drop known pattern

    abbrev then' : Search
    then' = there built leftmost bytes rest low

    abbrev comes : Occurrence
    comes = occurrence open'.number place (place + length pattern)

    shown : slice_range (bytes ++ rest) place (place + length pattern) ≡ drop place bytes ++ rest
    shown = grind (arith, common_steps)

    comes-there : Occurs then' comes
    comes-there = grind (arith, common_steps, take-append-drop known pattern)

    occurs-then : Occurs then' m
    occurs-then = pick-Occurs built.kind then' m (stays rest)

    preferred : IsFirst built.kind m comes
    preferred = (subst (IsPick built.kind then') (stays rest) (pick-IsPick built.kind then')).1 comes comes-there

    at-start : place ≡ m.start
    at-start = let starts = first-starts built.kind m comes leftmost preferred in omega arith

    -- it would begin with the pattern of the match
    fronts : starts_with nat_eq (plain built.ignores_case pattern) (plain built.ignores_case (pattern_of built.patterns m.pattern)) ≡ true
    fronts =
        grind (arith, common_steps, at-start, comes-there, occurs-then, rest, starts_with-take, take-map, take-take)

    closed-by : (kind : MatchKind) → built.kind ≡ kind → ⊥
    closed-by Standard is = let no = sym leftmost ∙ ap is_leftmost is in absurd (cc)
    closed-by LeftmostLongest is = search (rules, at-start, preferred)
    closed-by LeftmostFirst is =
        let first : IsFirst LeftmostFirst m comes = subst (λ (k : MatchKind). IsFirst k m comes) is preferred in
        let least = first.patterns (sym at-start) in
        let ps = map (plain built.ignores_case) built.patterns in
        let numbered = occurs-then.numbered in
        let its = open'.numbered in
        let all = length-map built.patterns (plain built.ignores_case) in
        let pattern_is : pattern_of ps open'.number ≡ plain built.ignores_case pattern =
        get_or-map (plain built.ignores_case) built.patterns open'.number [] [] its in
        let match_is : pattern_of ps m.pattern ≡ plain built.ignores_case (pattern_of built.patterns m.pattern) =
        get_or-map (plain built.ignores_case) built.patterns m.pattern [] [] numbered in
        let no_earlier : open'.number ≤ m.pattern =
        participant-least ps (plain built.ignores_case pattern) open'.number m.pattern (omega arith)
        (ap (λ (k : MatchKind). participates k ps open'.number) (sym is) ∙ open'.takes_part) pattern_is
        (record {
          numbered = omega arith;
          front = ap (starts_with nat_eq (plain built.ignores_case pattern)) match_is ∙ fronts;
        }) in
        let same : m.pattern ≡ open'.number = omega arith in
        let len = ap (λ (n : ℕ). length (pattern_of built.patterns n)) same in
        let as_long = occurs-then.as_long in
        let longer = open'.longer in
        let start = at-start in absurd (omega arith)

  pub stays-closed : NoneOpen built bytes low (m.start + 1)
  stays-closed place from_low before open' = closed-by place from_low before open' built.kind refl

-- where matches end that follow a place
abbrev ends_at : ℕ → List Occurrence → ℕ
ends_at low [] = low
ends_at low (m ∷ ms) = ends_at m.end ms

ends_at-last : (low : ℕ) (m : Occurrence) (ms : List Occurrence) → ends_at low (m ∷ ms) ≡ last_end (m ∷ ms)
ends_at-last low m [] = refl
ends_at-last low m (n ∷ ms) = ends_at-last m.end n ms

ends_at-start : (ms : List Occurrence) → ends_at 0 ms ≡ last_end ms
ends_at-start [] = refl
ends_at-start (m ∷ ms) = ends_at-last 0 m ms

-- matches that the walk begins with, whatever follows these bytes
module _ (built : Built) (leftmost : is_leftmost built.kind ≡ true) (bytes : List ℕ)
    (some : (n : ℕ) → n < length built.patterns → 0 < length (pattern_of built.patterns n)) where
  abbrev walk-on : List ℕ → ℕ → Option ℕ → List Occurrence
  walk-on more low last = walk_after built.kind (there built leftmost bytes more low) last

  -- none ends after the last of them
  ends-rise : (ms rest : List Occurrence) (low : ℕ) (last : Option ℕ)
      → walk_after built.kind (here built leftmost bytes [] low) last ≡ ms ++ rest
      → All (λ (m : Occurrence). m.end ≤ ends_at low ms) ms × (low ≤ ends_at low ms)
  ends-rise [] rest low last walks = (All-nil _, omega arith)
  ends-rise (m ∷ ms) rest low last walks =
      grind (
        arith,
        common_steps,
        pick-Occurs built.kind (here built leftmost bytes [] low) m (next-picks built leftmost bytes [] some (here built leftmost bytes [] low) last m
            refl (walk-first built leftmost bytes [] some (here built leftmost bytes [] low) last m (ms ++ rest) walks).0),
        ends-rise ms rest m.end (Some m.end) (walk-first built leftmost bytes [] some (here built leftmost bytes [] low) last m (ms ++ rest) walks).1,
      )

  -- they are decided
  walks-decided : (ms : List Occurrence) (low begun place : ℕ) (last next : Option ℕ)
      → ((more : List ℕ) → walk-on more low last ≡ ms ++ walk-on more begun next)
      → All (λ (m : Occurrence). m.end ≤ length bytes) ms → ends_at low ms ≡ begun → NoneOpen built bytes begun place
      → AreDecided built bytes low ms place
  walks-decided [] low begun place last next walks ends end closed =
      subst (λ (k : ℕ). NoneOpen built bytes k place) (sym end) closed
  walks-decided (m ∷ ms) low begun place last next walks ends end closed = (
    stays-closed built leftmost bytes low m (ends 0 m (omega arith)) (λ more.
        next-picks built leftmost bytes more some (there built leftmost bytes more low) last m refl (first more).0),
    walks-decided ms m.end begun place (Some m.end) next (λ more. (first more).1)
        (λ k d at. ends (suc k) d (omega arith)) end closed,
  )
    where
      first : (more : List ℕ) → (next_match built.kind (there built leftmost bytes more low) last ≡ Some m)
          × (walk_after built.kind (from (there built leftmost bytes more low) m.end) (Some m.end)
          ≡ ms ++ walk-on more begun next)
      first more = search (rules, there, walk-first)

  -- so the stream is settled by them up to a place after their end, where none is open and no other starts before it
  pub settled-at : (ms : List Occurrence) (begun place : ℕ) (next : Option ℕ)
      → ((more : List ℕ) → stream_result built (bytes ++ more) ≡ ms ++ walk-on more begun next)
      → last_end ms ≡ begun → begun ≤ place → place ≤ length bytes → NoneOpen built bytes begun place
      → ((m : Occurrence) → pick built.kind (here built leftmost bytes [] begun) ≡ Some m → place ≤ m.start)
      → IsSettledAt built bytes (length ms) place
  settled-at ms begun place next walks end beyond within closed first = record {
    few = (let n = ap length whole in let a = length-append ms rest in omega arith);
    within = within;
    ended = subst (All (λ (m : Occurrence). m.end ≤ place)) (sym taken) (λ k d at.
        let e = rises.0 k d at in let l = ends_at-start ms in let up : (get_or ms k d).end ≤ place = omega arith in up);
    later = subst (All (λ (m : Occurrence). place ≤ m.start)) (sym left)
        (walk-from built leftmost bytes [] some (here built leftmost bytes [] begun) place next refl first);
    decided = subst (λ (ns : List Occurrence). AreDecided built bytes 0 ns place) (sym taken)
        (walks-decided ms 0 begun place None next walks (λ k d at.
        let e = rises.0 k d at in let l = ends_at-start ms in let up : (get_or ms k d).end ≤ length bytes = omega arith in up)
        (ends_at-start ms ∙ end) closed);
  }
    where
      rest : List Occurrence
      rest = walk_after built.kind (here built leftmost bytes [] begun) next

      whole : stream_result built bytes ≡ ms ++ rest
      whole = search (rules, append-nil, append-nil bytes)

      taken : take (length ms) (stream_result built bytes) ≡ ms
      taken = ap (take (length ms)) whole ∙ take-append_seam ms rest

      left : drop (length ms) (stream_result built bytes) ≡ rest
      left = ap (drop (length ms)) whole ∙ drop-append_seam ms rest

      rises : All (λ (m : Occurrence). m.end ≤ ends_at 0 ms) ms × (0 ≤ ends_at 0 ms)
      rises = ends-rise ms rest 0 None whole
