-- The replacement of a stream from its beginning on: what was read so far, its end, and where it fails.
use Rattle.ac_util.proofs.Prelude.{◌≡◌, ℕ, ◌≤◌, Bool, List, [], ◌++◌, length, take, drop, inl, inr, refl, ap, sym, subst, ◌∙◌, arith, Option, Some, None, Result, rules, append-nil, take-append-le, take_all, common_steps}
use Rattle.ac_automaton.specs.Prelude.{buffer_len, Built, CouldNextChange, IsAllGiven, IsAllSettled, IsNear, IsSettledBy, Occurrence, Reading, ReadsAll, ReadsSome, Replacing, stream_result, StreamError, usize_max, Ended, FailsBy, FailsToExchange, FailsToFill, FillsMore, HasExchanged, HasExchangedFirst, HasReplaced, initial_stream, IsSettledIn, matches_so_far, MeetsEnd, Open, Passing, ReplacesBy, Steps, Streaming}
use Rattle.ac_util.proofs.Devices.{fails-on, reads-on, reads-out}
use Rattle.ac_automaton.proofs.StreamExchanged.{replaced-all, replaced-filled, replaced-none}

-- the replacement of a stream from its beginning on
module _ {E D : Type 0} (passing : Passing E D)
    (calls : Occurrence → List ℕ → Replacing E D → Result (Unit {0}) StreamError → Replacing E D → Type 0)
    (ends : Bool) (built : Built) (begun : Reading) (first : Replacing E D) where
  -- what was read was searched so far as it was before the last read, and what was found exchanged; nothing is held back
  pub record IsReplacing (reader : Reading) (v : Streaming) (s : Replacing E D) : Type 0 where
    pub built_is : v.built ≡ built
    pub goes_on : v.phase ≡ Open
    pub reads : ReadsSome begun reader v.bytes
    pub small : length v.bytes ≤ usize_max
    pub clear : passing.held s.closure ≡ []
    pub replaced : HasReplaced passing calls 0 0 v first s

  -- the same once the end was met
  pub record IsEnding (reader : Reading) (v : Streaming) (s : Replacing E D) : Type 0 where
    pub built_is : v.built ≡ built
    pub ended : v.phase ≡ Ended
    pub reads : ReadsAll ends begun reader v.bytes
    pub small : length v.bytes ≤ usize_max
    pub replaced : HasReplaced passing calls 0 0 v first s

  -- steps given by what the search was built from
  steps-by : (v : Streaming) (given place : ℕ) (end : Option StreamError) (t : Replacing E D) → v.built ≡ built
      → Steps passing calls (take place v.bytes) 0 (take given (matches_so_far v)) first end t
      → Steps passing calls (take place v.bytes) 0 (take given (stream_result built v.bytes)) first end t
  steps-by v given place end t is steps = grind (arith, common_steps)

  -- how far a stream is settled that goes on, and one whose end was met
  settled-open : (v : Streaming) (given place : ℕ) → v.built ≡ built → v.phase ≡ Open
      → IsSettledIn v.phase v.built v.bytes given place → IsSettledBy built.kind built v.bytes given place
  settled-open v given place is open' h = grind (arith, common_steps)

  all-open : (v : Streaming) → v.built ≡ built → v.phase ≡ Open → IsAllGiven v → IsAllSettled built v.bytes v.given v.kept
  all-open v is open' all = record {
    settled = settled-open v v.given v.kept is open' all.settled;
    near = subst (λ (b : Built). IsNear b v.bytes v.kept) is all.near;
    next = subst (λ (b : Built). CouldNextChange b v.bytes v.given) is all.next;
  }

  settled-ended : (v : Streaming) (given place : ℕ) → v.built ≡ built → v.phase ≡ Ended
      → IsSettledIn v.phase v.built v.bytes given place
      → (given ≡ length (stream_result built v.bytes)) × (place ≡ length v.bytes)
  settled-ended v given place is ended h = grind (arith, common_steps)

  pub begins : (v : Streaming) → v ≡ initial_stream built → passing.held first.closure ≡ [] → IsReplacing begun v first
  begins v is clear = grind (arith, common_steps)

  -- what was exchanged before the last read, by which some bytes more came
  exchanged-first : {reader : Reading} {v : Streaming} {s : Replacing E D} → IsReplacing reader v s
      → IsAllGiven v → (new : Streaming) {e : StreamError} {t : Replacing E D} (last : List ℕ) → new.bytes ≡ v.bytes ++ last
      → length last ≤ buffer_len built.patterns → new.built ≡ built → HasReplaced passing calls v.given v.kept new s s
      → (fails : FailsToExchange passing calls new s e t)
      → HasExchangedFirst passing calls built new.bytes fails.given fails.place first e t
  exchanged-first {reader} {v} {s} on all new {e} {t} last whole short is none fails = record {
    before = v.bytes;
    count = v.given;
    from = v.kept;
    settled = record {
      last = last;
      whole = whole;
      short = short;
      all = all-open v on.built_is on.goes_on all;
    };
    between = s;
    clear = on.clear;
    made = steps-by v v.given v.kept None s on.built_is (replaced-all passing calls v first s v.kept on.replaced refl);
    others = subst (λ (b : Built). Steps passing calls (take fails.place new.bytes) v.kept
        (drop v.given (take fails.given (stream_result b new.bytes))) s (Some e) t) is (fails.steps v.given v.kept s none);
  }

  module _ {reader new_reader : Reading} {v new : Streaming} {s : Replacing E D} (on : IsReplacing reader v s)
      (within : v.kept ≤ length v.bytes) where
    -- some bytes more have come
    still-more : FillsMore v new reader new_reader → {count from : ℕ} {start : Replacing E D}
        → HasReplaced passing calls count from v start s → HasReplaced passing calls count from new start s
    still-more more {count} {from} {start} done =
        replaced-filled passing calls v new start s done (ap (λ (w : Streaming). w.kept) more.same)
        (ap (λ (w : Streaming). w.given) more.same)
        (ap (λ (w : Streaming). take v.kept w.bytes) more.same ∙ take-append-le v.kept v.bytes more.more within) more.given

    pub fills : FillsMore v new reader new_reader → IsReplacing new_reader new s
    fills more = record {
      built_is = ap (λ (w : Streaming). w.built) more.same ∙ on.built_is;
      goes_on = ap (λ (w : Streaming). w.phase) more.same ∙ on.goes_on;
      reads = subst (λ (bytes : List ℕ). ReadsSome begun new_reader bytes) (sym (ap (λ (w : Streaming). w.bytes) more.same))
          (reads-on on.reads more.reads);
      small = more.small;
      clear = on.clear;
      replaced = still-more more on.replaced;
    }

    -- or the end was met
    still-ended : MeetsEnd ends v new reader new_reader → {count from : ℕ} {start : Replacing E D}
        → HasReplaced passing calls count from v start s → HasReplaced passing calls count from new start s
    still-ended met {count} {from} {start} done =
        replaced-filled passing calls v new start s done (ap (λ (w : Streaming). w.kept) met.same)
        (ap (λ (w : Streaming). w.given) met.same) (ap (λ (w : Streaming). take v.kept w.bytes) met.same)
        (ap (λ (w : Streaming). take v.given (matches_so_far w)) met.same)

    pub ends-there : MeetsEnd ends v new reader new_reader → IsEnding new_reader new s
    ends-there met = record {
      built_is = ap (λ (w : Streaming). w.built) met.same ∙ on.built_is;
      ended = ap (λ (w : Streaming). w.phase) met.same;
      reads = subst (λ (bytes : List ℕ). ReadsAll ends begun new_reader bytes)
          (append-nil v.bytes ∙ sym (ap (λ (w : Streaming). w.bytes) met.same)) (reads-out on.reads met.reads);
      small = subst (λ (w : Streaming). length w.bytes ≤ usize_max) (sym met.same) on.small;
      replaced = still-ended met on.replaced;
    }

    -- or a read has failed
    pub fails-reading : IsAllGiven v → (e : StreamError)
        → FailsToFill v new reader new_reader e → FailsBy passing calls ends built begun new_reader first e s
    fails-reading given e fails =
        let all = replaced-all passing calls v first s v.kept on.replaced refl in let settled = all-open v on.built_is on.goes_on given in
        search (rules, fails-on, on, all, settled, steps-by)

    -- or an exchange has failed
    module _ (all : IsAllGiven v) where
      -- of what was read more
      pub fails-exchanging : FillsMore v new reader new_reader → (e : StreamError) (t : Replacing E D)
          → FailsToExchange passing calls new s e t → FailsBy passing calls ends built begun new_reader first e t
      fails-exchanging more e t fails =
          let here = fills more in (
            new.bytes,
            inr (record {
              given = fails.given;
              place = fails.place;
              settled = inl (here.reads, settled-open new fails.given fails.place here.built_is here.goes_on fails.settled);
              steps = steps-by new fails.given fails.place (Some e) t here.built_is (fails.steps 0 0 first here.replaced);
              first = exchanged-first on all new more.more (ap (λ (w : Streaming). w.bytes) more.same)
                  (subst (λ (b : Built). length more.more ≤ buffer_len b.patterns) on.built_is more.room) here.built_is
                  (still-more more (replaced-none passing calls v s)) fails;
            }),
            here.small,
          )

      -- or of what was left at the end
      pub fails-at-last : MeetsEnd ends v new reader new_reader → (e : StreamError) (t : Replacing E D)
          → FailsToExchange passing calls new s e t → FailsBy passing calls ends built begun new_reader first e t
      fails-at-last met e t fails =
          let here = ends-there met in (
            new.bytes,
            inr (record {
              given = fails.given;
              place = fails.place;
              settled = (let all = settled-ended new fails.given fails.place here.built_is here.ended fails.settled in
                  inr (here.reads, all.0, all.1));
              steps = steps-by new fails.given fails.place (Some e) t here.built_is (fails.steps 0 0 first here.replaced);
              first = exchanged-first on all new [] (ap (λ (w : Streaming). w.bytes) met.same ∙ sym (append-nil v.bytes))
                  (omega arith) here.built_is (still-ended met (replaced-none passing calls v s)) fails;
            }),
            here.small,
          )

  module _ {reader : Reading} {v : Streaming} {s : Replacing E D} where
    -- what was found in what was read was exchanged
    pub goes-on : {new : Streaming} {t : Replacing E D} → IsReplacing reader v s → HasExchanged passing calls v new s t
        → IsReplacing reader new t
    goes-on on done = record {
      built_is = ap (λ (w : Streaming). w.built) done.same ∙ on.built_is;
      goes_on = ap (λ (w : Streaming). w.phase) done.same ∙ on.goes_on;
      reads = subst (λ (w : Streaming). ReadsSome begun reader w.bytes) (sym done.same) on.reads;
      small = subst (λ (w : Streaming). length w.bytes ≤ usize_max) (sym done.same) on.small;
      clear = done.clear;
      replaced = done.replaced 0 0 first on.replaced;
    }

    -- at the end all was written
    pub replaces : {new : Streaming} {t : Replacing E D} → IsEnding reader v s → HasExchanged passing calls v new s t
        → ReplacesBy passing calls ends built begun reader first t
    replaces {new} {t} on done =
        let all = replaced-all passing calls new first t new.kept (done.replaced 0 0 first on.replaced) refl in
        search (rules, all, settled-ended, steps-by, take_all)
