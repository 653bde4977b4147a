-- The replacement of a stream: what was passed on so far and one piece more, one exchange more, and where it fails.
use Rattle.ac_util.proofs.Prelude.{◌≡◌, ℕ, zero, suc, ◌+◌, ◌-◌, ◌<◌, ◌≤◌, List, [], ◌∷◌, ◌++◌, length, take, drop, inl, inr, refl, ap, sym, subst, ◌∙◌, arith, Option, Some, None, Result, Ok, Err, slice_get, slice_range, rules, append-nil, append_assoc, drop-append-le, drop-drop, drop-take, take-take, common_steps}
use Rattle.ac_automaton.specs.Prelude.{Occurrence, Replacing, StreamError, Turn, StartFrom, answer_of_exchange, GivesMatch, HasReplaced, matches_so_far, Passing, PassesPiece, Steps, Streaming}
use Rattle.ac_util.proofs.Spans.{take_drop_take}
use Rattle.ac_util.proofs.ReplacedCuts.{part-join}
use Rattle.ac_automaton.proofs.Gathering.{piece-join}
use Rattle.ac_automaton.proofs.Places.{take-next}

-- a part of a list with all that follows it is what follows its start
part-rest : {X : Type 0} (xs : List X) (a b : ℕ) → a ≤ b → slice_range xs a b ++ drop b xs ≡ drop a xs
part-rest xs a b first = grind (arith, common_steps, drop-drop (b - a) a xs)

-- lists that begin alike have the same parts there
part-same : {X : Type 0} (xs ys : List X) (k a b : ℕ) → take k xs ≡ take k ys → a ≤ b → b ≤ k
    → slice_range xs a b ≡ slice_range ys a b
part-same xs ys k a b same ordered within = search (rules, take_drop_take (b - a) a k ys (omega arith), take_drop_take)

-- an element among the first ones
taken-get : {X : Type 0} (xs : List X) (n k : ℕ) (x : X) → k < n → slice_get xs k ≡ Some x → slice_get (take n xs) k ≡ Some x
taken-get xs zero k x below at = absurd (omega arith)
taken-get [] (suc n) k x below at = absurd (cc)
taken-get (y ∷ xs) (suc n) zero x below at = at
taken-get (y ∷ xs) (suc n) (suc k) x below at = taken-get xs n k x (omega arith) at

-- and those that begin alike so far do so less far
take-same : {X : Type 0} (xs ys : List X) (k n : ℕ) → take k xs ≡ take k ys → n ≤ k → take n xs ≡ take n ys
take-same xs ys k n same less = grind (arith, common_steps, take-take n k ys less)

-- a list, cut at one of its elements
cut-at : {X : Type 0} (xs : List X) (k : ℕ) (x : X) → slice_get xs k ≡ Some x
    → (later : List X) × (take k xs ++ x ∷ later ≡ xs)
cut-at [] k x at = absurd (cc)
cut-at (y ∷ xs) zero x at = let same : y ≡ x = cc in (xs, ap (λ (z : _). z ∷ xs) (sym same))
cut-at (y ∷ xs) (suc k) x at = let rest = cut-at xs k x at in (rest.0, ap (λ (zs : _). y ∷ zs) rest.1)

module _ {E D : Type 0} (passing : Passing E D)
    (calls : Occurrence → List ℕ → Replacing E D → Result (Unit {0}) StreamError → Replacing E D → Type 0) where
  module _ {count begin : ℕ} (v : Streaming) (first s : Replacing E D) (done : HasReplaced passing calls count begin v first s) where
    -- the matches given since
    abbrev since : List Occurrence
    since = drop count (take v.given (matches_so_far v))

    -- what is settled was passed on
    pub replaced-settled : (place : ℕ) (t : Replacing E D) → v.kept ≤ place
        → PassesPiece passing (slice_range v.bytes v.kept place) s None t
        → HasReplaced passing calls count begin (record v { kept = place }) first t
    replaced-settled place t onward writes =
        record { counted = done.counted; begun = (let b = done.begun in omega arith); steps = on }
      where
        on : (haystack : List ℕ) → take place haystack ≡ take place v.bytes → (ms : List Occurrence)
            → StartFrom place ms → (end : Option StreamError) (u : Replacing E D)
            → Steps passing calls haystack place ms t end u
            → Steps passing calls haystack begin (since ++ ms) first end u
        on haystack same ms starts end u steps =
            done.steps haystack (take-same haystack v.bytes place v.kept same onward) ms (earlier ms starts) end u
            (from ms starts steps)
          where
            earlier : (ms : List Occurrence) → StartFrom place ms → StartFrom v.kept ms
            earlier [] starts = tt
            earlier (m ∷ ms) starts = omega arith

            written : PassesPiece passing (slice_range haystack v.kept place) s None t
            written = subst (λ (w : List ℕ). PassesPiece passing w s None t)
                (sym (part-same haystack v.bytes place v.kept place same onward (omega arith))) writes

            from : (ms : List Occurrence) → StartFrom place ms → Steps passing calls haystack place ms t end u
                → Steps passing calls haystack v.kept ms s end u
            from [] starts rest =
                subst (λ (w : List ℕ). PassesPiece passing w s end u) (part-rest haystack v.kept place onward)
                (piece-join passing (slice_range haystack v.kept place) (drop place haystack) s t u end written rest)
            from (m ∷ ms) starts (inl gap) = inl (
              gap.0,
              subst (λ (w : List ℕ). PassesPiece passing w s end u) (part-join haystack v.kept place m.start onward starts)
                  (piece-join passing (slice_range haystack v.kept place) (slice_range haystack place m.start) s t u end written
                  gap.1),
            )
            from (m ∷ ms) starts (inr turn) =
                let here = turn.2 in
                inr (
                  turn.0,
                  turn.1,
                  record {
                    at_match = here.at_match;
                    gap = subst (λ (w : List ℕ). PassesPiece passing w s None here.at_match)
                        (part-join haystack v.kept place m.start onward starts)
                        (piece-join passing (slice_range haystack v.kept place) (slice_range haystack place m.start) s t
                        here.at_match None written here.gap);
                    call = here.call;
                  },
                  turn.3,
                )

    -- all that is settled was exchanged, and the bytes after the last match could not be passed on
    pub settled-fails : (place : ℕ) (e : StreamError) (t : Replacing E D) → v.kept ≤ place
        → PassesPiece passing (slice_range v.bytes v.kept place) s (Some e) t
        → Steps passing calls (take place v.bytes) begin since first (Some e) t
    settled-fails place e t onward writes =
        grind (arith, common_steps, append-nil since, drop-take v.kept (place - v.kept) v.bytes)

    -- the next match
    module _ (m : Occurrence) (new : Streaming) (gives : GivesMatch v m new) where
      -- by how many matches the stream is settled, and as far as where
      abbrev given : ℕ
      given = gives.settled.given

      abbrev place : ℕ
      place = gives.settled.place

      -- it is one of these
      cut : (later : List Occurrence) × (take v.given (matches_so_far v) ++ m ∷ later ≡ take given (matches_so_far v))
      cut = grind (arith, common_steps, taken-get (matches_so_far v) given v.given m (gives.settled.among) gives.next, cut-at)

      enough : count ≤ length (take v.given (matches_so_far v))
      enough = let c = done.counted in grind (arith, common_steps)

      -- and one of those since
      cut-since : since ++ m ∷ cut.0 ≡ drop count (take given (matches_so_far v))
      cut-since = sym (drop-append-le count (take v.given (matches_so_far v)) (m ∷ cut.0) enough) ∙ ap (drop count) cut.1

      alike : take m.end (take place v.bytes) ≡ take m.end v.bytes
      alike = take-take m.end place v.bytes gives.settled.ended

      kept-alike : take v.kept (take place v.bytes) ≡ take v.kept v.bytes
      kept-alike = grind (arith, common_steps)

      -- the bytes before it were passed on, and it was exchanged
      module _ (at_match : Replacing E D) (gap : PassesPiece passing (slice_range v.bytes v.kept m.start) s None at_match) where
        -- so in each haystack that begins alike its turn was made
        turn : (haystack : List ℕ) → take m.end haystack ≡ take m.end v.bytes → (r : Result (Unit {0}) StreamError)
            (t : Replacing E D) → calls m (slice_range v.bytes m.start m.end) at_match r t
            → Turn (PassesPiece passing) calls answer_of_exchange haystack v.kept m s r t
        turn haystack same r t call = record {
          at_match = at_match;
          gap = subst (λ (w : List ℕ). PassesPiece passing w s None at_match)
              (sym (part-same haystack v.bytes m.end v.kept m.start same gives.after gives.ordered)) gap;
          call = subst (λ (w : List ℕ). calls m w at_match r t)
              (sym (part-same haystack v.bytes m.end m.start m.end same gives.ordered (omega arith))) call;
        }

        pub replaced-match : (t : Replacing E D) → calls m (slice_range v.bytes m.start m.end) at_match (Ok tt) t
            → HasReplaced passing calls count begin new first t
        replaced-match t call =
            subst (λ (w : Streaming). HasReplaced passing calls count begin w first t) (sym gives.same) (record {
              counted = (let c = done.counted in omega arith);
              begun = (let b = done.begun in let a = gives.after in let o = gives.ordered in omega arith);
              steps = on;
            })
          where
            on : (haystack : List ℕ) → take m.end haystack ≡ take m.end v.bytes → (ms : List Occurrence)
                → StartFrom m.end ms → (end : Option StreamError) (u : Replacing E D)
                → Steps passing calls haystack m.end ms t end u
                → Steps passing calls haystack begin (drop count (take (v.given + 1) (matches_so_far v)) ++ ms) first end u
            on haystack same ms starts end u steps =
                subst (λ (ns : List Occurrence). Steps passing calls haystack begin ns first end u)
                (sym (append_assoc since (m ∷ []) ms)
                ∙ ap (λ (ns : List Occurrence). ns ++ ms)
                (sym (drop-append-le count (take v.given (matches_so_far v)) (m ∷ []) enough)
                ∙ ap (drop count) (sym (take-next (matches_so_far v) v.given m gives.next))))
                (done.steps haystack
                (take-same haystack v.bytes m.end v.kept same (let a = gives.after in let o = gives.ordered in omega arith))
                (m ∷ ms) gives.after end u
                (inr (Ok tt, t, turn haystack same (Ok tt) t call, steps)))

        -- or it could not be exchanged
        pub exchange-fails : (e : StreamError) (t : Replacing E D)
            → calls m (slice_range v.bytes m.start m.end) at_match (Err e) t
            → Steps passing calls (take gives.settled.place v.bytes) begin (drop count (take gives.settled.given (matches_so_far v))) first
            (Some e) t
        exchange-fails e t call =
            subst (λ (ns : List Occurrence). Steps passing calls (take place v.bytes) begin ns first (Some e) t) cut-since
            (done.steps (take place v.bytes) kept-alike (m ∷ cut.0) gives.after (Some e) t
            (inr (Err e, t, turn (take place v.bytes) alike (Err e) t call, (refl, refl))))

      -- or the bytes before it could not be passed on
      pub gap-fails : (e : StreamError) (t : Replacing E D)
          → PassesPiece passing (slice_range v.bytes v.kept m.start) s (Some e) t
          → Steps passing calls (take gives.settled.place v.bytes) begin (drop count (take gives.settled.given (matches_so_far v))) first
          (Some e) t
      gap-fails e t gap =
          subst (λ (ns : List Occurrence). Steps passing calls (take place v.bytes) begin ns first (Some e) t) cut-since
          (done.steps (take place v.bytes) kept-alike (m ∷ cut.0) gives.after (Some e) t
          (inl (
            (λ none. absurd (cc)),
            subst (λ (w : List ℕ). PassesPiece passing w s (Some e) t)
                (sym (part-same (take place v.bytes) v.bytes m.end v.kept m.start alike gives.after gives.ordered)) gap,
          )))
