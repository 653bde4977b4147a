-- The replacement of a stream by an engine that supports some starts of its searcher: what it leaves is the searcher's.
use Rattle.ac_util.proofs.Prelude.{◌≡◌, ◌∙◌, ◌+◌, ℕ, Bool, List, [], ◌∷◌, inl, inr, None, Some, Option, IfSome, slice_get, take, Result, Ok, Err, ◌⊎◌, subst, rules, arith, Bor, MutBor, common_steps}
use Rattle.ac_search.specs.Prelude.{AnswersStream, AreDecided, Both, CouldChange, IsAllSettled, stream_result, FailsToReplace, FailsToReplaceWith, IsSettled, IsSettledAt, IsSettledBefore, IsSettledBy, LeftmostFirst, LeftmostLongest, MatchKind, No, NoneOpen, Reading, ReplacesStream, ReplacesStreamWith, Standard, start_refusal, StartKind, StepsAreSettled, stream_refusal, StreamError, TextIsSettled, Writing}
use Rattle.std.specs.Fn.{Mut}
use Rattle.std.specs.declared.io.Error.{Error}
use Rattle.ac_automaton.specs.Util.{Built, last_end, Occurrence}
use Rattle.ac_search.proofs.Served.{stream-refusals}

module _ (engine : Built) (start_kind : StartKind) where
  -- the searcher over the engine
  abbrev searcher : Built
  searcher = record engine { start_kind = start_kind }

  none-open : (bytes : List ℕ) (from to : ℕ) → NoneOpen engine bytes from to → NoneOpen searcher bytes from to
  none-open bytes from to none place onward before open' = search rules

  decided : (bytes : List ℕ) (from : ℕ) (ms : List Occurrence) (to : ℕ) → AreDecided engine bytes from ms to
      → AreDecided searcher bytes from ms to
  decided bytes from [] to none = none-open bytes from to none
  decided bytes from (m ∷ ms) to all = (none-open bytes from (m.start + 1) all.0, decided bytes m.end ms to all.1)

  -- the same settles a stream of either
  settled-at : (bytes : List ℕ) (given place : ℕ) → IsSettledAt engine bytes given place → IsSettledAt searcher bytes given place
  settled-at bytes given place h = search (rules, decided)

  pub settled-by : (kind : MatchKind) (bytes : List ℕ) (given place : ℕ) → IsSettledBy kind engine bytes given place
      → IsSettledBy kind searcher bytes given place
  settled-by Standard bytes given place h = h
  settled-by LeftmostFirst bytes given place h = settled-at bytes given place h
  settled-by LeftmostLongest bytes given place h = settled-at bytes given place h

  -- and the same could still change
  could-change : (bytes : List ℕ) (from : ℕ) (m : Occurrence) → CouldChange engine bytes from m → CouldChange searcher bytes from m
  could-change bytes from m (inl last) = inl last
  could-change bytes from m (inr (place, onward, by, open')) = inr (place, onward, by, (search rules))

  next-could : (bytes : List ℕ) (from : ℕ) (r : Option Occurrence) → IfSome r (CouldChange engine bytes from)
      → IfSome r (CouldChange searcher bytes from)
  next-could bytes from None h = tt
  next-could bytes from (Some m) h = could-change bytes from m h

  pub all-settled : (bytes : List ℕ) (given place : ℕ) → IsAllSettled engine bytes given place → IsAllSettled searcher bytes given place
  all-settled bytes given place h = record {
    settled = settled-by engine.kind bytes given place h.settled;
    near = h.near;
    next = next-could bytes (last_end (take given (stream_result engine bytes))) (slice_get (stream_result engine bytes) given) h.next;
  }

  module _ (supports : (engine.start_kind ≡ Both) ⊎ (engine.start_kind ≡ start_kind))
      (free : start_refusal start_kind No ≡ None) (unchanged : Type 0) (ends : Bool) (reader new_reader : Reading) where
    refusals : stream_refusal searcher ≡ stream_refusal engine
    refusals = stream-refusals engine start_kind supports free

    settled-in : (bytes : List ℕ) (given place : ℕ) → IsSettled ends engine reader new_reader bytes given place
        → IsSettled ends searcher reader new_reader bytes given place
    settled-in bytes given place (inl (some, is)) = inl (some, settled-by engine.kind bytes given place is)
    settled-in bytes given place (inr all) = inr all

    settled-first : (bytes : List ℕ) {before : List ℕ} {given place : ℕ} → IsSettledBefore engine bytes before given place
        → IsSettledBefore searcher bytes before given place
    settled-first bytes {before} {given} {place} first = record {
      last = first.last;
      whole = first.whole;
      short = first.short;
      all = all-settled before given place first.all;
    }

    -- with a list of texts
    module _ (texts : List (List ℕ)) (writer new_writer : Writing) where
      text : (bytes : List ℕ) → TextIsSettled engine texts writer new_writer bytes
          → TextIsSettled searcher texts writer new_writer bytes
      text bytes h = (h.0, h.1, all-settled bytes h.0 h.1 h.2, h.3)

      abbrev Replaces : Built → Result (Unit {0}) StreamError → Type 0
      Replaces built r =
          AnswersStream (stream_refusal built) unchanged (ReplacesStream built texts writer new_writer ends reader new_reader)
          (FailsToReplace built texts writer new_writer ends reader new_reader) r

      replaced : (r : Result (Unit {0}) StreamError) → Replaces engine r → Replaces searcher r
      replaced (Ok done) h = (refusals ∙ h.0, h.1)
      replaced (Err e) (inl refused) = grind (arith, common_steps)
      replaced (Err e) (inr (allowed, (bytes, inl (reads, settled), small))) =
          inr (refusals ∙ allowed, (bytes, inl (reads, text bytes settled), small))
      replaced (Err e) (inr (allowed, (bytes, inr fails, small))) =
          inr (
            refusals ∙ allowed,
            (
              bytes,
              inr (record {
                given = fails.given;
                place = fails.place;
                settled = settled-in bytes fails.given fails.place fails.settled;
                failure = fails.failure;
                is = fails.is;
                writes = fails.writes;
                first = record {
                  before = fails.first.before;
                  given = fails.first.given;
                  place = fails.first.place;
                  settled = settled-first bytes fails.first.settled;
                  between = fails.first.between;
                  written = fails.first.written;
                  more = fails.first.more;
                  later = fails.first.later;
                };
              }),
              small,
            ),
          )

      -- what an automaton built as the engine leaves is what the searcher leaves
      pub replaced-served : {built seen : Built} → built ≡ engine → searcher ≡ seen → (r : Result (Unit {0}) StreamError)
          → Replaces built r → Replaces seen r
      replaced-served same sees r h = subst (λ b. Replaces b r) sees (replaced r (subst (λ b. Replaces b r) same h))

    -- with a closure
    module _ {F D : Type 0} (told : D → Writing)
        (closures : Mut F (Bor Occurrence × (Bor (List ℕ) × (MutBor D × Unit {0})))
        (Result (Unit {0}) Error × (MutBor D × Unit {0}))) (closure : F) (writer new_writer : D) where
      steps : (bytes : List ℕ) → StepsAreSettled told closures engine closure writer bytes new_writer
          → StepsAreSettled told closures searcher closure writer bytes new_writer
      steps bytes h = (h.0, h.1, all-settled bytes h.0 h.1 h.2, h.3)

      abbrev Exchanges : Built → Result (Unit {0}) StreamError → Type 0
      Exchanges built r =
          AnswersStream (stream_refusal built) unchanged
          (ReplacesStreamWith told closures built closure writer ends reader new_reader new_writer)
          (FailsToReplaceWith told closures built closure writer ends reader new_reader new_writer) r

      exchanged : (r : Result (Unit {0}) StreamError) → Exchanges engine r → Exchanges searcher r
      exchanged (Ok done) h = (refusals ∙ h.0, h.1)
      exchanged (Err e) (inl refused) = grind (arith, common_steps)
      exchanged (Err e) (inr (allowed, (bytes, inl (reads, settled), small))) =
          inr (refusals ∙ allowed, (bytes, inl (reads, steps bytes settled), small))
      exchanged (Err e) (inr (allowed, (bytes, inr fails, small))) =
          inr (
            refusals ∙ allowed,
            (
              bytes,
              inr (record {
                given = fails.given;
                place = fails.place;
                settled = settled-in bytes fails.given fails.place fails.settled;
                steps = fails.steps;
                first = record {
                  before = fails.first.before;
                  count = fails.first.count;
                  from = fails.first.from;
                  settled = settled-first bytes fails.first.settled;
                  between = fails.first.between;
                  made = fails.first.made;
                  left = fails.first.left;
                  others = fails.first.others;
                };
              }),
              small,
            ),
          )

      -- what an automaton built as the engine leaves is what the searcher leaves
      pub exchanged-served : {built seen : Built} → built ≡ engine → searcher ≡ seen → (r : Result (Unit {0}) StreamError)
          → Exchanges built r → Exchanges seen r
      exchanged-served same sees r h = subst (λ b. Exchanges b r) sees (exchanged r (subst (λ b. Exchanges b r) same h))
