-- What of a stream was exchanged: once more bytes have come, before any exchange, once all that is settled was, and where it fails
-- further on.
use Rattle.ac_util.proofs.Prelude.{◌≡◌, ℕ, List, [], ◌++◌, take, drop, ap, sym, subst, ◌∙◌, arith, Some, None, Result, Ok, Err, MatchResult, OnOk, slice_range, append-nil, drop_all, common_steps}
use Rattle.ac_automaton.specs.Prelude.{IsAllGiven, Occurrence, Replacing, StreamError, StartFrom, error_in, FailsToExchange, HasExchanged, HasGivenSettled, HasReplaced, IsSettledIn, matches_so_far, Passing, PassesPiece, Steps, Streaming}
use Rattle.ac_automaton.proofs.Gathering.{piece-flushed, piece-none}
use Rattle.ac_automaton.proofs.StreamExchanging.{replaced-settled, settled-fails}

module _ {E D : Type 0} (passing : Passing E D)
    (calls : Occurrence → List ℕ → Replacing E D → Result (Unit {0}) StreamError → Replacing E D → Type 0) where
  -- more bytes have come
  pub replaced-filled : {count from : ℕ} (v new : Streaming) (first s : Replacing E D) → HasReplaced passing calls count from v first s
      → new.kept ≡ v.kept → new.given ≡ v.given → take v.kept new.bytes ≡ take v.kept v.bytes
      → take v.given (matches_so_far new) ≡ take v.given (matches_so_far v) → HasReplaced passing calls count from new first s
  replaced-filled {count} {from} v new first s done kept given same stay = record {
    counted = (let c = done.counted in omega arith);
    begun = (let b = done.begun in omega arith);
    steps = λ haystack alike ms starts end t steps.
        subst (λ (ns : List Occurrence). Steps passing calls haystack from (drop count ns ++ ms) first end t)
        (sym stay ∙ ap (λ (n : ℕ). take n (matches_so_far new)) (sym given))
        (done.steps haystack
        (ap (λ (k : ℕ). take k haystack) (sym kept) ∙ alike ∙ ap (λ (k : ℕ). take k new.bytes) kept ∙ same) ms
        (subst (λ (k : ℕ). StartFrom k ms) kept starts) end t
        (subst (λ (k : ℕ). Steps passing calls haystack k ms s end t) kept steps));
  }

  -- from where a stream has come to, nothing was exchanged yet
  pub replaced-none : (v : Streaming) (s : Replacing E D) → HasReplaced passing calls v.given v.kept v s s
  replaced-none v s = record {
    counted = omega arith;
    begun = omega arith;
    steps = λ haystack same ms starts end t steps.
        subst (λ (ns : List Occurrence). Steps passing calls haystack v.kept (ns ++ ms) s end t)
        (sym (drop_all v.given (take v.given (matches_so_far v)) (grind (arith, common_steps)))) steps;
  }

  -- the matches given were exchanged: these are the steps as far as bytes are kept no more
  pub replaced-all : (v : Streaming) (first s : Replacing E D) (place : ℕ) → HasReplaced passing calls 0 0 v first s → v.kept ≡ place
      → Steps passing calls (take place v.bytes) 0 (take v.given (matches_so_far v)) first None s
  replaced-all v first s place done kept =
      grind (arith, common_steps, append-nil (take v.given (matches_so_far v)), drop_all, piece-none passing s)

  -- where an exchange fails further on, it fails from where it began
  pub fails-further : {old v : Streaming} {start s t : Replacing E D} {e : StreamError} → v ≡ record old { given = v.given; kept = v.kept }
      → FailsToExchange passing calls v s e t
      → ((count from : ℕ) (first : Replacing E D) → HasReplaced passing calls count from old first start
      → HasReplaced passing calls count from v first s) → FailsToExchange passing calls old start e t
  fails-further {old} {v} {start} {s} {t} {e} same fails replaced = record {
    given = fails.given;
    place = fails.place;
    settled = subst (λ (w : Streaming). IsSettledIn w.phase w.built w.bytes fails.given fails.place) same fails.settled;
    steps = λ count from first done.
        subst (λ (w : Streaming). Steps passing calls (take fails.place w.bytes) from (drop count (take fails.given (matches_so_far w))) first
        (Some e) t) same (fails.steps count from first (replaced count from first done));
  }

  -- all matches of what was read that are settled were exchanged
  module _ (old v new : Streaming) (start s : Replacing E D) (same : v ≡ record old { given = v.given; kept = v.kept })
      (replaced : (count from : ℕ) (first : Replacing E D) → HasReplaced passing calls count from old first start
      → HasReplaced passing calls count from v first s)
      (all : HasGivenSettled v new) where
    -- the bytes after the last one were passed on, and nothing is held back
    last-passed : (t : Replacing E D) → PassesPiece passing (slice_range v.bytes v.kept new.kept) s None t
        → passing.held t.closure ≡ [] → HasExchanged passing calls old new start t
    last-passed t passes clear = record {
      all = subst IsAllGiven (sym all.same) all.all;
      same = all.same ∙ ap (λ (w : Streaming). record w { kept = new.kept }) same
          ∙ ap (λ (n : ℕ). record old { given = n; kept = new.kept }) (sym (ap (λ (w : Streaming). w.given) all.same));
      clear = clear;
      replaced = λ count from first done.
          subst (λ (w : Streaming). HasReplaced passing calls count from w first t) (sym all.same)
          (replaced-settled passing calls v first s (replaced count from first done) new.kept t all.onward passes);
    }

    -- or that has failed
    pub last-fails : (e : StreamError) (t : Replacing E D)
        → PassesPiece passing (slice_range v.bytes v.kept new.kept) s (Some e) t
        → FailsToExchange passing calls old start e t
    last-fails e t fails = fails-further same (record {
      given = v.given;
      place = new.kept;
      settled = all.all.settled;
      steps = λ count from first done. settled-fails passing calls v first s done new.kept e t all.onward fails;
    }) replaced

    -- they were passed on, and then what is held back was written, or that has failed
    pub last-flushed : (t u : Replacing E D) (r : Result (Unit {0}) StreamError)
        → PassesPiece passing (slice_range v.bytes v.kept new.kept) s None t → PassesPiece passing [] t (error_in r) u
        → OnOk r (passing.held u.closure ≡ [])
        → MatchResult r (λ _. HasExchanged passing calls old new start u) (λ e. FailsToExchange passing calls old start e u)
    last-flushed t u (Ok done) passes flushed clear =
        last-passed u (piece-flushed passing (slice_range v.bytes v.kept new.kept) s t u None passes flushed) clear
    last-flushed t u (Err e) passes flushed clear =
        last-fails e u (piece-flushed passing (slice_range v.bytes v.kept new.kept) s t u (Some e) passes flushed)
