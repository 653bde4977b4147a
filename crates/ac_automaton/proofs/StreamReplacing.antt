-- The steps of a stream's replacement by a closure, without what wraps it.
use Rattle.ac_util.proofs.Prelude.{◌≡◌, ℕ, Bool, List, [], ◌∷◌, take, drop, inl, inr, ap, subst, arith, Option, Some, None, Result, Ok, Err, MatchResult, slice_range, rules, Bor, MutBor, common_steps}
use Rattle.ac_automaton.specs.Prelude.{AnswersStream, answer_of_result, Built, Calls, FailsToReplaceWith, MatchAnswer, MatchError, Occurrence, Reading, ReplacementSteps, ReplacesStreamWith, Replacing, stream_result, StreamError, WritesPiece, Writing, Io, answer_of_exchange, ByClosure, CallsBy, FailsBy, Passing, PassesPiece, ReplacesBy, Steps}
use Rattle.std.specs.Fn.{Mut}
use Rattle.std.specs.declared.io.Error.{Error}
use Rattle.ac_automaton.proofs.Gathering.{piece-written}

-- a replacement that isn't refused answers what one does by which it is made
pub answers-by : (refusal : Option MatchError) (unchanged : Type 0) {whole whole' : Type 0} {fails fails' : StreamError → Type 0}
    → refusal ≡ None → (whole → whole') → ((e : StreamError) → fails e → fails' e) → (r : Result (Unit {0}) StreamError)
    → MatchResult r (λ _. whole) fails → AnswersStream refusal unchanged whole' fails' r
answers-by refusal unchanged allowed replaces fails (Ok done) h = (allowed, replaces h)
answers-by refusal unchanged allowed replaces fails (Err e) h = inr (allowed, fails e h)

-- a closure and its writer, without what wraps the closure
abbrev bare : {F D : Type 0} → Replacing (ByClosure F) D → Replacing F D
bare s = record { closure = s.closure.closure; destination = s.destination }

module _ {F D : Type 0} (told : D → Writing)
    (closures : Mut F (Bor Occurrence × (Bor (List ℕ) × (MutBor D × Unit {0})))
    (Result (Unit {0}) Error × (MutBor D × Unit {0}))) where
  -- a call of what wraps the closure
  abbrev wrapped : Occurrence → List ℕ → Replacing (ByClosure F) D → Result (Unit {0}) StreamError
      → Replacing (ByClosure F) D → Type 0
  wrapped m slice s r t = CallsBy closures m slice s.closure.closure s.destination r t.closure.closure t.destination

  -- nothing is held back before it
  abbrev through : Passing (ByClosure F) D
  through = record { told = told; held = λ e. []; without = λ e. e }

  -- so a piece that is passed on is written
  bare-piece : (bytes : List ℕ) (s t : Replacing (ByClosure F) D) (end : Option StreamError)
      → PassesPiece through bytes s end t → WritesPiece told bytes (bare s) end (bare t)
  bare-piece bytes s t None passes = search (rules, piece-written)
  bare-piece bytes s t (Some e) passes = (ap (λ (c : ByClosure F). c.closure) passes.0, passes.1)

  -- its steps are those of the closure
  bare-steps : (haystack : List ℕ) (place : ℕ) (ms : List Occurrence) (s t : Replacing (ByClosure F) D)
      (end : Option StreamError) → Steps through wrapped haystack place ms s end t
      → ReplacementSteps (WritesPiece told) (Calls closures) answer_of_result haystack place ms (bare s) end (bare t)
  bare-steps haystack place [] s t end steps = bare-piece (drop place haystack) s t end steps
  bare-steps haystack place (m ∷ ms) s t end (inl gap) = grind (arith, common_steps)
  bare-steps haystack place (m ∷ ms) s t end (inr turn) =
      by (λ further. bare-steps haystack m.end ms turn.1 t end further) turn.2.call.0 turn.2.call.1 turn.2.call.2
    where
      Further : Type 0
      Further = Steps through wrapped haystack m.end ms turn.1 end t

      gap : WritesPiece told (slice_range haystack place m.start) (bare s) None (bare turn.2.at_match)
      gap = bare-piece (slice_range haystack place m.start) s turn.2.at_match None turn.2.gap

      by : (Further → ReplacementSteps (WritesPiece told) (Calls closures) answer_of_result haystack m.end ms
          (bare turn.1) end (bare t))
          → (answer : Result (Unit {0}) Error)
          → Calls closures m (slice_range haystack m.start m.end) (bare turn.2.at_match) answer (bare turn.1)
          → MatchResult answer (λ done. turn.0 ≡ Ok done) (λ e. turn.0 ≡ Err (Io e))
          → ReplacementSteps (WritesPiece told) (Calls closures) answer_of_result haystack place (m ∷ ms) (bare s) end (bare t)
      by on (Ok done) call is =
          inr (
            Ok done,
            bare turn.1,
            record { at_match = bare turn.2.at_match; gap = gap; call = call },
            on (subst (λ (r : Result (Unit {0}) StreamError). MatchAnswer (answer_of_exchange r) Further
                (PassesPiece through (drop m.end haystack) turn.1 end t) (λ failure. (end ≡ Some failure) × (t ≡ turn.1))) is
                turn.3),
          )
      by on (Err e) call is =
          let ended = subst (λ (r : Result (Unit {0}) StreamError). MatchAnswer (answer_of_exchange r) Further
          (PassesPiece through (drop m.end haystack) turn.1 end t) (λ failure. (end ≡ Some failure) × (t ≡ turn.1))) is
          turn.3 in
          inr (
            Err e,
            bare turn.1,
            record { at_match = bare turn.2.at_match; gap = gap; call = call },
            (ended.0, ap (λ (x : Replacing (ByClosure F) D). bare x) ended.1),
          )

  module _ (ends : Bool) (built : Built) (reader new_reader : Reading) (closure : F) (old : D)
      (t : Replacing (ByClosure F) D) where
    abbrev first : Replacing (ByClosure F) D
    first = record { closure = record { closure = closure }; destination = old }

    pub replaces-with : ReplacesBy through wrapped ends built reader new_reader first t
        → ReplacesStreamWith told closures built closure old ends reader new_reader t.destination
    replaces-with done = search (rules, bare-steps)

    pub fails-with : (e : StreamError) → FailsBy through wrapped ends built reader new_reader first e t
        → FailsToReplaceWith told closures built closure old ends reader new_reader t.destination e
    fails-with e (bytes, inl fails, small) =
        (bytes, inl (fails.reads, (fails.given, fails.place, fails.all, (t.closure.closure, bare-made))), small)
      where
        bare-made : ReplacementSteps (WritesPiece told) (Calls closures) answer_of_result (take fails.place bytes) 0
            (take fails.given (stream_result built bytes)) (bare first) None (bare t)
        bare-made = bare-steps (take fails.place bytes) 0 (take fails.given (stream_result built bytes)) first t None fails.steps
    fails-with e (bytes, inr fails, small) = (
      bytes,
      inr (record {
        given = fails.given;
        place = fails.place;
        settled = fails.settled;
        steps = (
          t.closure.closure,
          bare-steps (take fails.place bytes) 0 (take fails.given (stream_result built bytes)) first t (Some e) fails.steps,
        );
        first = (let f = fails.first in record {
          before = f.before;
          count = f.count;
          from = f.from;
          settled = f.settled;
          between = bare f.between;
          made = bare-steps (take f.from f.before) 0 (take f.count (stream_result built f.before)) first f.between None f.made;
          left = t.closure.closure;
          others = bare-steps (take fails.place bytes) f.from (drop f.count (take fails.given (stream_result built bytes))) f.between t
              (Some e) f.others;
        });
      }),
      small,
    )
