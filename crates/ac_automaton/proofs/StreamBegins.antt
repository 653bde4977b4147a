-- The search of a stream of which nothing was read: nothing is picked, found or settled yet.
use Rattle.ac_util.proofs.Prelude.{◌≡◌, ◌≢◌, true, ℕ, ◌-◌, ◌<◌, Bool, List, [], length, max, inl, refl, arith, Some, None, if◌then◌else◌, not, rules, false, Option, IfSome, slice_get, take, subst, sym, common_steps}
use Rattle.ac_automaton.specs.Prelude.{buffer_len, Built, CouldChange, IsAllGiven, last_end, Streaming, is_leftmost, IsSettledBy, longest_len, Node, pick, stream_refusal, stream_result, has_empty, MatchKind, LeftmostFirst, LeftmostLongest, Standard, Occurrence, Search, Inside, IsBuffered, IsStreaming, most_kept, Open, plain_of, initial_stream, stream_from, ChainMatch}
use Rattle.ac_util.proofs.Walks.{next-none, walk_after-None, pick-Occurs}
use Rattle.ac_util.proofs.Onward.{after-start}
use Rattle.ac_automaton.proofs.StreamRefusals.{allowed-some}
use Rattle.ac_util.proofs.Shortest.{none-empty}

-- where a search begins nothing is picked
pub picked-nothing : (built : Built) → has_empty built ≡ false → (order : MatchKind) (bytes : List ℕ) (begun : ℕ)
    → pick order (record (stream_from built bytes begun) { high = begun }) ≡ None
picked-nothing built some order bytes begun = by (pick order q) refl
  where
    q : Search
    q = record (stream_from built bytes begun) { high = begun }

    by : (r : Option Occurrence) → pick order q ≡ r → pick order q ≡ None
    by None e = e
    by (Some m) e =
        let o = pick-Occurs order q m e in
        let long = none-empty built.patterns m.pattern some o.numbered in
        let a = o.from_low in let b = o.as_long in let c = o.to_high in
        absurd (omega arith)

-- a search over a stream of which nothing was read
module _ (stands : ℕ → Node → Type 0) (chains : List (List ChainMatch)) (built : Built) (allowed : stream_refusal built ≡ None) (start : ℕ)
    (starts : stands start (Some [])) (buffer : List ℕ) where
  begun : IsStreaming stands chains (record {
    start = start;
    stops = not (is_leftmost built.kind);
    reserve = most_kept built;
    buffer = buffer;
    filled = 0;
    state = start;
    at = 0;
    rest = None;
    begun = 0;
  }) (record (initial_stream built) { buffer = length buffer })
  begun = record {
    allowed = allowed;
    starts = starts;
    stops = refl;
    reserve = refl;
    filled = omega arith;
    counted = refl;
    small = omega arith;
    holds = refl;
    within = omega arith;
    read = omega arith;
    past = record {
      node = [];
      there = starts;
      after = λ more last.
          after-start built.kind (plain_of built) (stream_from built more 0)
          (record { free = refl; ordered = omega arith; inside = omega arith; same = refl });
      sound = tt;
      near = tt;
      first = λ standard. record { left = refl; none = picked-nothing built (allowed-some built allowed) built.kind [] 0 };
    };
    given = record { matches = []; count = refl; end = refl; last = None; walks = λ more last. refl };
    all = λ ended. absurd (cc);
    failed = λ failed. absurd (cc);
    few = omega arith;
    in_buffer = omega arith;
    after = omega arith;
    kept_within = omega arith;
    back = inl (omega arith);
  }

  -- given by numbers that are so
  pub streams-begin : (stops : Bool) (reserve' begun' given : ℕ) (bytes : List ℕ) → stops ≡ not (is_leftmost built.kind)
      → reserve' ≡ most_kept built → begun' ≡ 0 → given ≡ 0 → bytes ≡ []
      → IsStreaming stands chains (record {
        start = start;
        stops = stops;
        reserve = reserve';
        buffer = buffer;
        filled = 0;
        state = start;
        at = 0;
        rest = None;
        begun = begun';
      }) (record (initial_stream built) { bytes = bytes; given = given; buffer = length buffer })
  streams-begin stops reserve' begun' given bytes s r b n none = search (rules, begun)

-- a buffer of the size that it should have
pub buffer-begins : {i : Inside} {v : Streaming} → length i.buffer ≡ buffer_len v.built.patterns
    → length i.buffer < 9223372036854775808 → v.buffer ≡ length i.buffer → v.phase ≡ Open → IsBuffered i v
buffer-begins {i} {v} long small size open' = record {
  size = size;
  long = long;
  fits = omega arith;
  clear = λ closed. absurd (closed open');
}

-- the first match found is given under Standard alone
pub not-leftmost : (kind : MatchKind) → kind ≢ Standard → is_leftmost kind ≡ true
not-leftmost Standard other = absurd (other refl)
not-leftmost LeftmostFirst other = refl
not-leftmost LeftmostLongest other = refl

-- how many bytes may be kept back, as it is computed
pub most-kept : (built : Built) (stops : Bool) (longest : ℕ) → stops ≡ not (is_leftmost built.kind)
    → longest ≡ longest_len built.patterns → (if stops then max 1 longest - 1 else longest) ≡ most_kept built
most-kept built stops longest is long = grind (arith, common_steps)

-- of no bytes there are no matches
pub stream_result-nothing : (built : Built) → stream_refusal built ≡ None → stream_result built [] ≡ []
stream_result-nothing built allowed =
    walk_after-None built.kind (stream_from built [] 0) None
    (next-none built.kind (stream_from built [] 0) None
    (picked-nothing built (allowed-some built allowed) built.kind [] 0))

-- and nothing to be settled
settled-begun : (built : Built) → stream_refusal built ≡ None → IsSettledBy built.kind built [] 0 0
settled-begun built allowed = search (rules, stream_result-nothing)

-- so all that is settled was given
given-begun : (built : Built) → stream_refusal built ≡ None → IsAllGiven (initial_stream built)
given-begun built allowed = record {
  settled = settled-begun built allowed;
  near = omega arith;
  next = subst (λ (ms : List Occurrence). IfSome (slice_get ms 0) (CouldChange built [] (last_end (take 0 ms)))) (sym (stream_result-nothing built allowed)) tt;
  within = omega arith;
}

-- of a search that is such
pub given-at : (v : Streaming) (built : Built) → v ≡ initial_stream built → stream_refusal built ≡ None → IsAllGiven v
given-at v built begun allowed = subst IsAllGiven (sym begun) (given-begun built allowed)
