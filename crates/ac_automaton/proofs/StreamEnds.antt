-- The next match of a stream, or that there is none, once its end was met.
use Rattle.ac_util.proofs.Prelude.{◌≡◌, ◌⊎◌, ◌∙◌, ap, inr, refl, append-nil, append_assoc, ℕ, ◌≤◌, Bool, List, [], ◌++◌, length, sym, subst, arith, Option, Some, None, Result, Ok, Err, common_steps, MatchOption, MatchResult}
use Rattle.ac_automaton.specs.Prelude.{buffer_len, Built, CouldNextChange, IsNear, IsSettledBefore, IsSettledIn, Occurrence, Reading, ReadsAll, ReadsSome, Standard, stream_result, StreamError, usize_max, Ended, EndsNow, Failed, FillsMore, GivesMatch, GivesNone, GoesOnBy, HasGivenLast, HasGivenSettled, KeepsGiven, MeetsEnd, Open, Phase, Streaming, Streams, GivesNextMatch}

-- the end was met after some bytes more, or before; under Standard all matches were given before it was
module _ (ends : Bool) (old between new : Streaming) (reader new_reader : Reading) (more : List ℕ)
    (read : between
    ≡ record old { bytes = old.bytes ++ more; front = between.front; kept = between.kept; phase = Ended })
    (reads : GoesOnBy ends old.phase Ended reader new_reader more) (keeps : KeepsGiven old (old.bytes ++ more))
    (early : old.built.kind ≡ Standard → old.given ≡ length (stream_result old.built (old.bytes ++ more)))
    (small : length (old.bytes ++ more) ≤ usize_max)
    (needed : (new_reader ≡ reader)
    ⊎ ((before : List ℕ) × (place : ℕ) × IsSettledBefore old.built (old.bytes ++ more) before old.given place)) where
  -- all matches were given
  ends-now : HasGivenLast between new → EndsNow ends old new reader new_reader
  ends-now done = grind (arith, common_steps)

  -- or one more
  gives-next : (m : Occurrence) → GivesMatch between m new → GivesNextMatch ends old m new reader new_reader
  gives-next m gives = grind (arith, common_steps, needed)

  none-by : (p : Phase) → GoesOnBy ends p Ended reader new_reader more → EndsNow ends old new reader new_reader
      → GivesNone p ends old new reader new_reader
  none-by Open h done = done
  none-by Ended h done = done
  none-by Failed h done = absurd h

  pub gives-last : (result : Option (Result Occurrence StreamError)) → MatchOption result (HasGivenLast between new)
      (λ item. MatchResult item (λ m. GivesMatch between m new) (λ e. ⊥))
      → Streams ends (record { stream = old; reader = reader }) result (record { stream = new; reader = new_reader })
  gives-last None done = none-by old.phase reads (ends-now done)
  gives-last (Some (Ok m)) gives = gives-next m gives
  gives-last (Some (Err e)) never = absurd never

-- all that is settled of what was read was given, and then no more came than a buffer has
pub settled-before : (old between searched : Streaming) (more last : List ℕ)
    → between ≡ record old { bytes = old.bytes ++ more; front = between.front; kept = between.kept } → old.phase ≡ Open
    → HasGivenSettled between searched → length last ≤ buffer_len old.built.patterns
    → IsSettledBefore old.built ((old.bytes ++ more) ++ last) (old.bytes ++ more) old.given searched.kept
settled-before old between searched more last read goes_on settled short = record {
  last = last;
  whole = refl;
  short = short;
  all = record {
    settled = subst (λ (p : Phase). IsSettledIn p old.built (old.bytes ++ more) old.given searched.kept) goes_on
        (subst (λ (v : Streaming). IsSettledIn v.phase v.built v.bytes v.given searched.kept) read settled.all.settled);
    near = subst (λ (v : Streaming). IsNear v.built v.bytes searched.kept) read settled.all.near;
    next = subst (λ (v : Streaming). CouldNextChange v.built v.bytes v.given) read settled.all.next;
  };
}

-- so the read was needed
pub needed-then : (old between searched : Streaming) (more last : List ℕ)
    → between ≡ record old { bytes = old.bytes ++ more; front = between.front; kept = between.kept } → old.phase ≡ Open
    → HasGivenSettled between searched → length last ≤ buffer_len searched.built.patterns
    → (before : List ℕ) × (place : ℕ) × IsSettledBefore old.built (old.bytes ++ (more ++ last)) before old.given place
needed-then old between searched more last read goes_on settled short = (
  old.bytes ++ more,
  searched.kept,
  subst (λ (bytes : List ℕ). IsSettledBefore old.built bytes (old.bytes ++ more) old.given searched.kept) (append_assoc old.bytes more last)
      (settled-before old between searched more last read goes_on settled
      (subst (λ (b : Built). length last ≤ buffer_len b.patterns)
      (ap (λ (v : Streaming). v.built) settled.same ∙ ap (λ (v : Streaming). v.built) read) short)),
)

-- some bytes were read, all that is settled of them was given, and then some more came
module _ (old between searched : Streaming) (more : List ℕ)
    (read : between ≡ record old { bytes = old.bytes ++ more; front = between.front; kept = between.kept })
    (settled : HasGivenSettled between searched) {filled : Streaming} {mid later : Reading} (fills : FillsMore searched filled mid later) where
  longer : searched.bytes ++ fills.more ≡ old.bytes ++ (more ++ fills.more)
  longer =
      ap (λ (v : Streaming). v.bytes ++ fills.more) (settled.same ∙ ap (λ (v : Streaming). record v { kept = searched.kept }) read)
      ∙ append_assoc old.bytes more fills.more

  pub same-then : filled ≡ record old { bytes = old.bytes ++ (more ++ fills.more); front = filled.front; kept = filled.kept }
  same-then = grind (arith, common_steps, longer)

  pub small-then : length (old.bytes ++ (more ++ fills.more)) ≤ usize_max
  small-then =
      subst (λ (n : ℕ). n ≤ usize_max) (ap (λ (v : Streaming). length v.bytes) fills.same ∙ ap (length {A = ℕ}) longer) fills.small

  pub given-then : KeepsGiven old (old.bytes ++ more) → KeepsGiven old (old.bytes ++ (more ++ fills.more))
  given-then keeps = grind (arith, common_steps, longer, keeps, same-then)

-- some bytes were read, all that is settled of them was given, and then the end was met
module _ (ends : Bool) (old between searched filled new : Streaming) (reader mid new_reader : Reading) (more : List ℕ)
    (read : between ≡ record old { bytes = old.bytes ++ more; front = between.front; kept = between.kept })
    (goes_on : old.phase ≡ Open) (reads : ReadsSome reader mid more) (settled : HasGivenSettled between searched)
    (met : MeetsEnd ends searched filled mid new_reader) where
  filled-is : filled ≡ record old { bytes = old.bytes ++ more; front = filled.front; kept = filled.kept; phase = Ended }
  filled-is = grind (arith, common_steps)

  goes-by : GoesOnBy ends old.phase Ended reader new_reader more
  goes-by =
      subst (λ (p : Phase). GoesOnBy ends p Ended reader new_reader more) (sym goes_on)
      (reads-all reads met.reads)
    where
      reads-all : ReadsSome reader mid more → ReadsAll ends mid new_reader [] → ReadsAll ends reader new_reader more
      reads-all some all = grind (arith, common_steps)

  early : old.built.kind ≡ Standard → old.given ≡ length (stream_result old.built (old.bytes ++ more))
  early standard = grind (arith, common_steps)

  pub ended-then : length (old.bytes ++ more) ≤ usize_max → KeepsGiven old (old.bytes ++ more)
      → (result : Option (Result Occurrence StreamError)) → MatchOption result (HasGivenLast filled new)
      (λ item. MatchResult item (λ m. GivesMatch filled m new) (λ e. ⊥))
      → Streams ends (record { stream = old; reader = reader }) result (record { stream = new; reader = new_reader })
  ended-then small keeps =
      gives-last ends old filled new reader new_reader more filled-is goes-by keeps early small
      (inr (
        old.bytes ++ more,
        searched.kept,
        subst (λ (bytes : List ℕ). IsSettledBefore old.built bytes (old.bytes ++ more) old.given searched.kept) (append-nil (old.bytes ++ more))
            (settled-before old between searched more [] read goes_on settled (omega arith)),
      ))
