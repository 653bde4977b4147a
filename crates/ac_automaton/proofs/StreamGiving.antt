-- The search of a stream gives a match that is the next one whatever follows, and goes on after it.
use Rattle.ac_util.proofs.Prelude.{◌≡◌, ◌≢◌, ℕ, ◌+◌, ◌-◌, ◌<◌, ◌≤◌, true, List, [], ◌∷◌, ◌++◌, length, length-append, get_or, inl, inr, refl, ap, sym, subst, ◌∙◌, arith, Option, Some, AllPairs, slice_get, rules, cases_lt, false≢true, append-nil, append_assoc, get_or_from_slice_get, slice_get_within, common_steps}
use Rattle.ac_automaton.specs.Prelude.{Built, is_leftmost, IsAfter, IsSettledAt, IsSettledBy, last_end, LeftmostFirst, LeftmostLongest, MatchKind, Node, Occurrence, Occurs, pattern_of, pick, settled, Standard, stream_result, walk_after, Ended, Failed, GivesMatch, Inside, IsSettledIn, IsSettling, IsStreaming, Open, Phase, StandsPast, stream_from, Streaming, HasGivenFirst, ChainMatch, ChainRest}
use Rattle.ac_util.proofs.Decided.{settled-at}
use Rattle.ac_util.proofs.Shortest.{none-empty}
use Rattle.ac_util.proofs.Walks.{next-some, pick-Occurs, walk-ordered, walk_after-Some}
use Rattle.ac_automaton.proofs.ListLoop.{get-beyond}
use Rattle.ac_automaton.proofs.StreamRefusals.{allowed-some}

-- the last of the matches with one more
last_end-more : (ms : List Occurrence) (m : Occurrence) → last_end (ms ++ m ∷ []) ≡ m.end
last_end-more [] m = refl
last_end-more (n ∷ []) m = refl
last_end-more (n ∷ k ∷ ms) m = last_end-more (k ∷ ms) m

-- where the last of the matches ends, by its place
last_end-at : (ms : List Occurrence) (d : Occurrence) → 0 < length ms → last_end ms ≡ (get_or ms (length ms - 1) d).end
last_end-at [] d some = absurd (omega arith)
last_end-at (m ∷ []) d some = refl
last_end-at (m ∷ n ∷ ms) d some = search (rules, last_end-at (n ∷ ms) d (omega arith))

-- no match of a walk ends past its last one
last-after : (ms : List Occurrence) (k : ℕ) (m : Occurrence) → AllPairs IsAfter ms → slice_get ms k ≡ Some m
    → m.end ≤ last_end ms
last-after ms k m pairs at =
    let within = slice_get_within ms k m at in
    let is = ap (λ (o : Occurrence). o.end) (get_or_from_slice_get ms k m m at) in
    let last = last_end-at ms m (omega arith) in
    elim (cases_lt k (length ms - 1)) [
      | inl before ↦ let a = (pairs k (length ms - 1) m before (omega arith)).rises in omega arith
      | inr here ↦
          let e : k ≡ length ms - 1 = omega arith in
          let there = ap (λ (i : ℕ). (get_or ms i m).end) e in omega arith
    ]

-- what settles a stream under a leftmost kind
pub settled-kind : (built : Built) (bytes : List ℕ) (given place : ℕ) (kind : MatchKind) → is_leftmost kind ≡ true
    → IsSettledAt built bytes given place → IsSettledBy kind built bytes given place
settled-kind built bytes given place Standard leftmost h = absurd (false≢true leftmost)
settled-kind built bytes given place LeftmostFirst leftmost h = h
settled-kind built bytes given place LeftmostLongest leftmost h = h

-- a search over a stream is to give a match: whichever bytes follow, or none once the end was met, it is the next pick, and starts
-- after what isn't kept any more
module _ {stands : ℕ → Node → Type 0} {chains : List (List ChainMatch)} {i : Inside} {v : Streaming}
    (inv : IsStreaming stands chains i v) (m : Occurrence)
    (stays : (more : List ℕ) → (v.phase ≡ Ended → more ≡ [])
    → pick v.built.kind (stream_from v.built (v.bytes ++ more) i.begun) ≡ Some m)
    (starts-beyond : v.kept ≤ m.start) (unfailed : v.phase ≢ Failed) where
  occurs : Occurs (stream_from v.built v.bytes i.begun) m
  occurs =
      pick-Occurs v.built.kind (stream_from v.built v.bytes i.begun) m
      (subst (λ (bs : List ℕ). pick v.built.kind (stream_from v.built bs i.begun) ≡ Some m) (append-nil v.bytes)
      (stays [] (λ ended. refl)))

  some-bytes : 0 < length (pattern_of v.built.patterns m.pattern)
  some-bytes = none-empty v.built.patterns m.pattern (allowed-some v.built inv.allowed) occurs.numbered

  ends-within : m.end ≤ length v.bytes
  ends-within = occurs.to_high

  walks-on : (more : List ℕ) → (v.phase ≡ Ended → more ≡ [])
      → stream_result v.built (v.bytes ++ more)
      ≡ (inv.given.matches ++ m ∷ [])
      ++ walk_after v.built.kind (stream_from v.built (v.bytes ++ more) m.end) (Some m.end)
  walks-on more last =
      let o = occurs.as_long in let some = some-bytes in
      inv.given.walks more last
      ∙ ap (λ (ms : List Occurrence). inv.given.matches ++ ms)
      (walk_after-Some v.built.kind (stream_from v.built (v.bytes ++ more) i.begun) inv.given.last m
      (next-some v.built.kind (stream_from v.built (v.bytes ++ more) i.begun) inv.given.last m (stays more last) (omega arith)))
      ∙ sym (append_assoc inv.given.matches (m ∷ [])
      (walk_after v.built.kind (stream_from v.built (v.bytes ++ more) m.end) (Some m.end)))

  next-there : slice_get (stream_result v.built v.bytes) v.given ≡ Some m
  next-there = grind (arith, common_steps, append-nil v.bytes, walks-on, get-beyond)

  -- so it is settled: it is the last of the matches by which the stream is settled as far as its end
  settling : IsSettling v m
  settling = by v.phase refl v.built.kind refl
    where
      within : v.given < length (stream_result v.built v.bytes)
      within = slice_get_within (stream_result v.built v.bytes) v.given m next-there

      ended : v.phase ≡ Ended → IsSettling v m
      ended e = record {
        given = length (stream_result v.built v.bytes);
        place = length v.bytes;
        settled = subst (λ (p : Phase). IsSettledIn p v.built v.bytes (length (stream_result v.built v.bytes))
            (length v.bytes)) (sym e) (refl, refl);
        among = within;
        ended = ends-within;
      }

      settles : (given place : ℕ) → IsSettledBy v.built.kind v.built v.bytes given place
          → (v.phase ≡ Ended → ⊥) → IsSettledIn v.phase v.built v.bytes given place
      settles given place h open' = search rules

      standard : v.built.kind ≡ Standard → (v.phase ≡ Ended → ⊥) → IsSettling v m
      standard is_standard open' = record {
        given = length (stream_result v.built v.bytes);
        place = settled v.built v.bytes;
        settled = settles (length (stream_result v.built v.bytes)) (settled v.built v.bytes)
            (subst (λ (k : MatchKind). IsSettledBy k v.built v.bytes (length (stream_result v.built v.bytes))
            (settled v.built v.bytes)) (sym is_standard) (refl, refl)) open';
        among = within;
        ended =
            (let l = last-after (stream_result v.built v.bytes) v.given m
            (walk-ordered v.built.kind (stream_from v.built v.bytes 0)) next-there in
            let w = ends-within in omega arith);
      }

      by-leftmost : is_leftmost v.built.kind ≡ true
          → IsSettledAt v.built v.bytes (length (inv.given.matches ++ m ∷ [])) m.end → (v.phase ≡ Ended → ⊥)
          → IsSettling v m
      by-leftmost first h open' =
          grind (
            arith,
            common_steps,
            settles (length (inv.given.matches ++ m ∷ [])) m.end (settled-kind v.built v.bytes (length (inv.given.matches ++ m ∷ [])) m.end v.built.kind first h) open',
            settled-kind v.built v.bytes (length (inv.given.matches ++ m ∷ [])) m.end v.built.kind first h,
          )

      leftmost-settles : is_leftmost v.built.kind ≡ true → (v.phase ≡ Ended → ⊥)
          → IsSettledAt v.built v.bytes (length (inv.given.matches ++ m ∷ [])) m.end
      leftmost-settles first open' =
          settled-at v.built first v.bytes
          (λ n numbered. none-empty v.built.patterns n (allowed-some v.built inv.allowed) numbered)
          (inv.given.matches ++ m ∷ []) m.end m.end (Some m.end)
          (λ more. walks-on more (λ ended. absurd (open' ended))) (last_end-more inv.given.matches m) (omega arith)
          ends-within (λ place from_end before. absurd (omega arith))
          (λ n picks. (pick-Occurs v.built.kind (stream_from v.built v.bytes m.end) n picks).from_low)

      first-settles : is_leftmost v.built.kind ≡ true → (v.phase ≡ Ended → ⊥) → IsSettling v m
      first-settles first open' = by-leftmost first (leftmost-settles first open') open'

      by : (p : Phase) → v.phase ≡ p → (k : MatchKind) → v.built.kind ≡ k → IsSettling v m
      by Ended e k kind = ended e
      by Open e Standard kind = standard kind (λ no. absurd (let x = sym e ∙ no in cc))
      by Failed e Standard kind = standard kind (λ no. absurd (let x = sym e ∙ no in cc))
      by Open e LeftmostFirst kind = first-settles (ap is_leftmost kind) (λ no. absurd (let x = sym e ∙ no in cc))
      by Open e LeftmostLongest kind = first-settles (ap is_leftmost kind) (λ no. absurd (let x = sym e ∙ no in cc))
      by Failed e LeftmostFirst kind = first-settles (ap is_leftmost kind) (λ no. absurd (let x = sym e ∙ no in cc))
      by Failed e LeftmostLongest kind = first-settles (ap is_leftmost kind) (λ no. absurd (let x = sym e ∙ no in cc))

  pub gives : GivesMatch v m (record v { given = v.given + 1; kept = m.end })
  gives =
      let o = occurs.as_long in let f = occurs.from_low in let some = some-bytes in
      record {
        goes_on = unfailed;
        next = next-there;
        same = refl;
        numbered = occurs.numbered;
        after = starts-beyond;
        ordered = omega arith;
        within = ends-within;
        settled = settling;
        counted = (let few = inv.few in let w = ends-within in let s = inv.small in omega arith);
      }

  -- it has then given one more
  given-then : HasGivenFirst v.phase v.built v.bytes (v.given + 1) m.end
  given-then = record {
    matches = inv.given.matches ++ m ∷ [];
    count = length-append inv.given.matches (m ∷ []) ∙ ap (λ (n : ℕ). n + 1) inv.given.count;
    end = last_end-more inv.given.matches m;
    last = Some m.end;
    walks = walks-on;
  }

  -- and stands where it goes on
  pub streams-then : (state at : ℕ) (rest : Option ChainRest) → at ≤ i.filled → m.end ≤ v.front + at
      → StandsPast stands chains (record i { state = state; at = at; rest = rest; begun = m.end })
      (record v { given = v.given + 1; kept = m.end })
      → IsStreaming stands chains (record i { state = state; at = at; rest = rest; begun = m.end })
      (record v { given = v.given + 1; kept = m.end })
  streams-then state at rest within read past = record {
    allowed = inv.allowed;
    starts = inv.starts;
    stops = inv.stops;
    reserve = inv.reserve;
    filled = inv.filled;
    counted = inv.counted;
    small = inv.small;
    holds = inv.holds;
    within = within;
    read = read;
    past = past;
    given = given-then;
    all = λ ended standard.
        let none = inv.all ended standard in
        let within = slice_get_within (stream_result v.built v.bytes) v.given m next-there in absurd (omega arith);
    failed = λ failed. absurd (unfailed failed);
    few = (let f = inv.few in let l = occurs.from_low in let o = occurs.as_long in let s = some-bytes in omega arith);
    in_buffer = (let k = inv.in_buffer in let b = starts-beyond in let o = occurs.as_long in omega arith);
    after = omega arith;
    kept_within = ends-within;
    back = inl (omega arith);
  }
