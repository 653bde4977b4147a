-- The text that the replacement of a stream by a list of texts leaves.
use Rattle.ac_util.proofs.Prelude.{◌≡◌, ℕ, Bool, List, [], ◌∷◌, ◌++◌, length, take, drop, inl, inr, refl, sym, subst, ◌∙◌, arith, Option, Some, None, Result, Ok, Err, slice_index_or, slice_range, rules, take_all, common_steps}
use Rattle.ac_automaton.specs.Prelude.{Built, FailsToReplace, HasWrittenFirst, MatchAnswer, Occurrence, Reading, replaced, replaced_from, ReplacesStream, Replacing, stream_result, StreamError, answer_of_exchange, error_in, FailsBy, HasExchangedFirst, Passing, PassesPiece, ReplacesBy, Steps, Passes}
use Rattle.ac_automaton.proofs.Gathering.{piece-begun, piece-failed, piece-join, piece-written}

-- an exchange by texts, which stay as they are
module _ {E D : Type 0} (passing : Passing E D) (texts : E → List (List ℕ))
    (alike : (d e : E) → passing.without d ≡ passing.without e → texts d ≡ texts e) where
  abbrev exchanges : Occurrence → List ℕ → Replacing E D → Result (Unit {0}) StreamError → Replacing E D → Type 0
  exchanges m slice s r t = Passes passing (slice_index_or (texts s.closure) m.pattern []) s r t

  -- a piece leaves the texts as they are
  piece-texts : (bytes : List ℕ) (s t : Replacing E D) (end : Option StreamError) → PassesPiece passing bytes s end t
      → texts t.closure ≡ texts s.closure
  piece-texts bytes s t None passes = alike t.closure s.closure passes.0
  piece-texts bytes s t (Some e) passes = alike t.closure s.closure passes.0

  -- the steps write the replaced text, or a beginning of it
  text-steps : (haystack : List ℕ) (place : ℕ) (ms : List Occurrence) (s t : Replacing E D) (end : Option StreamError)
      (list : List (List ℕ)) → texts s.closure ≡ list → Steps passing exchanges haystack place ms s end t
      → PassesPiece passing (replaced_from haystack list place ms) s end t
  text-steps haystack place [] s t end list same steps = steps
  text-steps haystack place (m ∷ ms) s t None list same (inl gap) = absurd (gap.0 refl)
  text-steps haystack place (m ∷ ms) s t (Some e) list same (inl gap) = search (rules, piece-begun)
  text-steps haystack place (m ∷ ms) s t end list same (inr turn) =
      by (λ further. text-steps haystack m.end ms turn.1 t end list same-after further) turn.0 turn.2.call turn.3
    where
      at : Replacing E D
      at = turn.2.at_match

      same-there : texts at.closure ≡ list
      same-there = piece-texts (slice_range haystack place m.start) s at None turn.2.gap ∙ same

      text : List ℕ
      text = slice_index_or list m.pattern []

      same-after : texts turn.1.closure ≡ list
      same-after = piece-texts (slice_index_or (texts at.closure) m.pattern []) at turn.1 (error_in turn.0) turn.2.call
          ∙ same-there

      by : (Steps passing exchanges haystack m.end ms turn.1 end t
          → PassesPiece passing (replaced_from haystack list m.end ms) turn.1 end t)
          → (r : Result (Unit {0}) StreamError)
          → Passes passing (slice_index_or (texts at.closure) m.pattern []) at r turn.1
          → MatchAnswer (answer_of_exchange r) (Steps passing exchanges haystack m.end ms turn.1 end t)
          (PassesPiece passing (drop m.end haystack) turn.1 end t) (λ failure. (end ≡ Some failure) × (t ≡ turn.1))
          → PassesPiece passing (replaced_from haystack list place (m ∷ ms)) s end t
      by on (Ok done) call answered =
          piece-join passing (slice_range haystack place m.start ++ text) (replaced_from haystack list m.end ms) s turn.1 t
          end
          (piece-join passing (slice_range haystack place m.start) text s at turn.1 None turn.2.gap
          (subst (λ (l : List (List ℕ)). Passes passing (slice_index_or l m.pattern []) at (Ok done) turn.1)
          same-there call))
          (on answered)
      by on (Err e) call answered =
          subst (λ (f : Option StreamError). PassesPiece passing (replaced_from haystack list place (m ∷ ms)) s f t)
          (sym answered.0)
          (subst (λ (x : Replacing E D). PassesPiece passing (replaced_from haystack list place (m ∷ ms)) s (Some e) x)
          (sym answered.1)
          (piece-begun passing (slice_range haystack place m.start ++ text) (replaced_from haystack list m.end ms) s turn.1 e
          (piece-join passing (slice_range haystack place m.start) text s at turn.1 (Some e) turn.2.gap
          (subst (λ (l : List (List ℕ)). Passes passing (slice_index_or l m.pattern []) at (Err e) turn.1) same-there
          call))))

  module _ (ends : Bool) (built : Built) (reader new_reader : Reading) (list : List (List ℕ)) (s t : Replacing E D)
      (same : texts s.closure ≡ list) (begins : passing.held s.closure ≡ []) where
    pub replaces-by : ReplacesBy passing exchanges ends built reader new_reader s t
        → ReplacesStream built list (passing.told s.destination) (passing.told t.destination) ends reader new_reader
    replaces-by (bytes, reads, clear, steps, small) =
        grind (
          arith,
          common_steps,
          take_all (length bytes) bytes (omega arith),
          text-steps (take (length bytes) bytes) 0 (stream_result built bytes) s t None list same steps,
        )

    -- what was exchanged before the last read was written before it
    written-first : {bytes : List ℕ} {given place : ℕ} {e : StreamError}
        → HasExchangedFirst passing exchanges built bytes given place s e t
        → HasWrittenFirst built list (passing.told s.destination) (passing.told t.destination) bytes
    written-first {bytes} {given} {place} {e} f =
        let made = text-steps (take f.from f.before) 0 (take f.count (stream_result built f.before)) s f.between None list same f.made in
        let later = piece-failed passing (replaced_from (take place bytes) list f.from (drop f.count (take given (stream_result built bytes))))
        f.between t e f.clear
        (text-steps (take place bytes) f.from (drop f.count (take given (stream_result built bytes))) f.between t (Some e) list
        (piece-texts (replaced_from (take f.from f.before) list 0 (take f.count (stream_result built f.before))) s f.between None made ∙ same) f.others) in
        record {
          before = f.before;
          given = f.count;
          place = f.from;
          settled = f.settled;
          between = passing.told f.between.destination;
          written = piece-written passing (replaced_from (take f.from f.before) list 0 (take f.count (stream_result built f.before))) s f.between
              begins f.clear made;
          more = later.2.some.part;
          later = later.2.some.moved;
        }

    pub fails-by : (e : StreamError) → FailsBy passing exchanges ends built reader new_reader s e t
        → FailsToReplace built list (passing.told s.destination) (passing.told t.destination) ends reader new_reader e
    fails-by e (bytes, inl fails, small) =
        grind (
          arith,
          common_steps,
          text-steps (take fails.place bytes) 0 (take fails.given (stream_result built bytes)) s t None list same fails.steps,
        )
    fails-by e (bytes, inr fails, small) =
        let failed = piece-failed passing (replaced (take fails.place bytes) list (take fails.given (stream_result built bytes))) s t e begins
        (text-steps (take fails.place bytes) 0 (take fails.given (stream_result built bytes)) s t (Some e) list same fails.steps) in (
          bytes,
          inr (record {
            given = fails.given;
            place = fails.place;
            settled = fails.settled;
            failure = failed.0;
            is = failed.1;
            writes = failed.2;
            first = written-first fails.first;
          }),
          small,
        )
