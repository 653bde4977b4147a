-- What the replacement of a stream writes, by the stream alone: all of it, or after a failure a beginning.
use Rattle.ac_util.proofs.Prelude.{◌≡◌, ◌∙◌, ℕ, false, true, List, [], ◌∷◌, ◌++◌, append_assoc, append-nil, length, map, take, drop, inl, inr, refl, ap, sym, subst, arith, All, Bool, Option, None, Some, Result, Ok, Err, slice_index_or, slice_range, common_steps, get_or-map, take-append-drop, take_all, All-head, All-tail, Bor, MutBor}
use Rattle.ac_util.specs.Prelude.{Io, Match, Memory, TooLong, WriteZero, WriteError, Built, Calls, exchanged_from, FailsToRead, LiesIn, Occurrence, Reading, ReplacementSteps, Replacing, StreamError, Turn, stream_result, whole_input, has_empty, stream_refusal, Writing, WritesAll, WritesBeginning, WritesUntilFailure, AlwaysWritesOut, answer_of_result, by_length, exchanged_to, ExchangesAll, ExchangesBeginning, FailsToReplace, FailsToReplaceWith, IsSettled, IsSettledBy, ReplacesStream, ReplacesStreamWith, stream_exchanged, text_of, WritesPiece}
use Rattle.std.proofs.KnownBytes.{Appends-nil, Appends-trans, Consumes-nil}
use Rattle.std.specs.Fn.{Mut}
use Rattle.std.specs.Io.KnownBytes.{Consumes}
use Rattle.std.specs.declared.io.Error.{Error}
use Rattle.ac_util.proofs.Devices.{writes-join}
use Rattle.ac_util.proofs.Lying.{walk_result-lie}
use Rattle.ac_util.proofs.ReplacedCuts.{settled-begins}

-- all bytes were written, which is a beginning of them
begins-whole : (a b : Writing) (bytes : List ℕ) → WritesAll a b bytes → WritesBeginning a b bytes
begins-whole a b bytes all = record { part = bytes; rest = []; whole = sym (append-nil bytes); moved = all.moved }

-- so is what was written before a write has failed
pub begins-failed : (a b : Writing) (bytes : List ℕ) (e : WriteError) → WritesUntilFailure a b bytes e → WritesBeginning a b bytes
begins-failed a b bytes e fails =
    let some = fails.some in record {
      part = some.part;
      rest = drop (length some.part) bytes;
      whole =
          sym (take-append-drop (length some.part) bytes)
          ∙ ap (λ (w : List ℕ). w ++ drop (length some.part) bytes) some.begins;
      moved = some.moved;
    }

-- a beginning of some bytes is one of more
pub begins-longer : (a b : Writing) (xs ys : List ℕ) → WritesBeginning a b xs → WritesBeginning a b (xs ++ ys)
begins-longer a b xs ys begun = record {
  part = begun.part;
  rest = begun.rest ++ ys;
  whole = ap (λ (w : List ℕ). w ++ ys) begun.whole ∙ append_assoc begun.part begun.rest ys;
  moved = begun.moved;
}

-- bytes were written, and then a beginning of others
pub begins-join : (a b c : Writing) (xs ys : List ℕ) → WritesAll a b xs → WritesBeginning b c ys → WritesBeginning a c (xs ++ ys)
begins-join a b c xs ys all begun = record {
  part = xs ++ begun.part;
  rest = begun.rest;
  whole = ap (λ (w : List ℕ). xs ++ w) begun.whole ∙ sym (append_assoc xs begun.part begun.rest);
  moved = Appends-trans a.written b.written c.written xs begun.part all.moved begun.moved;
}

-- what the steps of a closure write whose calls write what `write` gives
module _ {F D : Type 0} (told : D → Writing)
    (closures : Mut F (Bor Occurrence × (Bor (List ℕ) × (MutBor D × Unit {0})))
    (Result (Unit {0}) Error × (MutBor D × Unit {0}))) (write : Occurrence → List ℕ → List ℕ)
    (writes : AlwaysWritesOut (Calls closures) told write) (haystack : List ℕ) where
  abbrev Steps : ℕ → List Occurrence → Replacing F D → Option StreamError → Replacing F D → Type 0
  Steps place ms s end t = ReplacementSteps (WritesPiece told) (Calls closures) answer_of_result haystack place ms s end t

  -- a piece was written, or a beginning of it
  piece-begins : (bytes : List ℕ) (s t : Replacing F D) (end : Option StreamError) → WritesPiece told bytes s end t
      → WritesBeginning (told s.destination) (told t.destination) bytes
  piece-begins bytes s t None piece = begins-whole (told s.destination) (told t.destination) bytes piece.1
  piece-begins bytes s t (Some e) piece =
      begins-failed (told s.destination) (told t.destination) bytes piece.1.0 piece.1.2

  -- what a turn writes: the gap, and what the match is exchanged for
  abbrev turned : ℕ → Occurrence → List ℕ
  turned place m = slice_range haystack place m.start ++ write m (slice_range haystack m.start m.end)

  turn-writes : (place : ℕ) (m : Occurrence) (s u : Replacing F D) {done : Unit {0}}
      → Turn (WritesPiece told) (Calls closures) answer_of_result haystack place m s (Ok done) u
      → WritesAll (told s.destination) (told u.destination) (turned place m)
  turn-writes place m s u {done} turn =
      writes-join (told s.destination) (told turn.at_match.destination) (told u.destination)
      (slice_range haystack place m.start) (write m (slice_range haystack m.start m.end)) turn.gap.1
      (writes m (slice_range haystack m.start m.end) turn.at_match (Ok done) u turn.call)

  steps-write : (place : ℕ) (ms : List Occurrence) (s t : Replacing F D) → Steps place ms s None t
      → WritesAll (told s.destination) (told t.destination) (exchanged_from haystack write place ms)
  steps-write place [] s t steps = steps.1
  steps-write place (m ∷ ms) s t (inl gap) = absurd (gap.0 refl)
  steps-write place (m ∷ ms) s t (inr (Ok done, u, turn, on)) =
      writes-join (told s.destination) (told u.destination) (told t.destination) (turned place m)
      (exchanged_from haystack write m.end ms) (turn-writes place m s u turn) (steps-write m.end ms u t on)
  steps-write place (m ∷ ms) s t (inr (Err e, u, turn, ended)) = absurd (cc)

  steps-begin : (place : ℕ) (ms : List Occurrence) (s t : Replacing F D) (end : Option StreamError) → Steps place ms s end t
      → WritesBeginning (told s.destination) (told t.destination) (exchanged_from haystack write place ms)
  steps-begin place [] s t end steps = piece-begins (drop place haystack) s t end steps
  steps-begin place (m ∷ ms) s t end (inl gap) =
      begins-longer (told s.destination) (told t.destination) (turned place m) (exchanged_from haystack write m.end ms)
      (begins-longer (told s.destination) (told t.destination) (slice_range haystack place m.start)
      (write m (slice_range haystack m.start m.end)) (piece-begins (slice_range haystack place m.start) s t end gap.1))
  steps-begin place (m ∷ ms) s t end (inr (Ok done, u, turn, on)) =
      begins-join (told s.destination) (told u.destination) (told t.destination) (turned place m)
      (exchanged_from haystack write m.end ms) (turn-writes place m s u turn) (steps-begin m.end ms u t end on)
  steps-begin place (m ∷ ms) s t end (inr (Err e, u, turn, ended)) =
      subst (λ (x : Replacing F D). WritesBeginning (told s.destination) (told x.destination)
      (exchanged_from haystack write place (m ∷ ms))) (sym ended.1)
      (begins-longer (told s.destination) (told u.destination) (turned place m) (exchanged_from haystack write m.end ms)
      (begins-join (told s.destination) (told turn.at_match.destination) (told u.destination)
      (slice_range haystack place m.start) (write m (slice_range haystack m.start m.end)) turn.gap.1
      (writes m (slice_range haystack m.start m.end) turn.at_match (Err e) u turn.call)))

-- the bytes that came before a read has failed
came : (reader new_reader : Reading) (bytes : List ℕ) (e : StreamError) → FailsToRead 0 reader new_reader bytes e
    → (lost : List ℕ) × Consumes reader.left new_reader.left (bytes ++ lost)
came reader new_reader bytes (Match m) fails = absurd fails
came reader new_reader bytes Memory fails = absurd fails
came reader new_reader bytes (Io cause) fails =
    ([], subst (Consumes reader.left new_reader.left) (sym (append-nil bytes)) fails.moved)
came reader new_reader bytes WriteZero fails = absurd fails
came reader new_reader bytes TooLong fails = (fails.lost, fails.moved)

-- a searcher that doesn't refuse streams has no empty pattern
nonempty-served : (built : Built) → stream_refusal built ≡ None → has_empty built ≡ false
nonempty-served built served = by (has_empty built) refl
  where
    by : (t : Bool) → has_empty built ≡ t → has_empty built ≡ false
    by false is = is
    by true is = grind (arith, common_steps)

module _ (built : Built) (write : Occurrence → List ℕ → List ℕ) (ends : Bool) (reader new_reader : Reading)
    (old new : Writing) where
  -- all of the matches are as many as there are
  ended-part : (bytes : List ℕ) (given place : ℕ) → given ≡ length (stream_result built bytes) → place ≡ length bytes
      → exchanged_to built write bytes given place ≡ stream_exchanged built write bytes
  ended-part bytes given place all many =
      ap (λ (t : List ℕ). exchanged_from t write 0 (take given (stream_result built bytes)))
      (take_all place bytes (omega arith))
      ∙ ap (exchanged_from bytes write 0) (take_all given (stream_result built bytes) (omega arith))

  -- a beginning of what is settled begins what is written for every stream that begins with these bytes
  settled-part : (bytes : List ℕ) (given place : ℕ) → stream_refusal built ≡ None
      → IsSettledBy built.kind built bytes given place → WritesBeginning old new (exchanged_to built write bytes given place)
      → (more : List ℕ) → WritesBeginning old new (stream_exchanged built write (bytes ++ more))
  settled-part bytes given place served settled begun more =
      let whole = settled-begins built write bytes more given place (nonempty-served built served) settled in
      subst (WritesBeginning old new) (sym whole.1)
      (begins-longer old new (exchanged_to built write bytes given place) whole.0 begun)

  part-begins : (bytes : List ℕ) (given place : ℕ) → stream_refusal built ≡ None
      → IsSettled ends built reader new_reader bytes given place
      → WritesBeginning old new (exchanged_to built write bytes given place)
      → ExchangesBeginning built write ends reader new_reader old new
  part-begins bytes given place served (inl (some, settled)) begun = (
    bytes,
    inl (
      ([], subst (Consumes reader.left new_reader.left) (sym (append-nil bytes)) some.moved),
      settled-part bytes given place served settled begun,
    ),
  )
  part-begins bytes given place served (inr (reads, all, many)) begun =
      (bytes, inr (reads, subst (WritesBeginning old new) (ended-part bytes given place all many) begun))

  read-begins : (bytes : List ℕ) (given place : ℕ) (e : StreamError) → stream_refusal built ≡ None
      → FailsToRead 0 reader new_reader bytes e → IsSettledBy built.kind built bytes given place
      → WritesAll old new (exchanged_to built write bytes given place)
      → ExchangesBeginning built write ends reader new_reader old new
  read-begins bytes given place e served fails settled all = (
    bytes,
    inl (
      came reader new_reader bytes e fails,
      settled-part bytes given place served settled
          (begins-whole old new (exchanged_to built write bytes given place) all),
    ),
  )

-- nothing was read or written
pub unchanged-begins : (built : Built) (write : Occurrence → List ℕ → List ℕ) (ends : Bool) (reader : Reading) (writer : Writing)
    → ExchangesBeginning built write ends reader reader writer writer
unchanged-begins built write ends reader writer = (
  [],
  inl (
    ([], Consumes-nil reader.left),
    λ more. record {
      part = [];
      rest = stream_exchanged built write more;
      whole = refl;
      moved = Appends-nil writer.written;
    },
  ),
)

module _ {F D : Type 0} (told : D → Writing)
    (closures : Mut F (Bor Occurrence × (Bor (List ℕ) × (MutBor D × Unit {0})))
    (Result (Unit {0}) Error × (MutBor D × Unit {0}))) where
  pub closure-whole : (built : Built) (write : Occurrence → List ℕ → List ℕ) (ends : Bool) (reader new_reader : Reading) (closure : F)
      (old new : D) → AlwaysWritesOut (Calls closures) told write
      → ReplacesStreamWith told closures built closure old ends reader new_reader new
      → ExchangesAll built write ends reader new_reader (told old) (told new)
  closure-whole built write ends reader new_reader closure old new writes (bytes, reads, (left, steps), small) = (
    bytes,
    reads,
    subst (WritesAll (told old) (told new))
        (ap (λ (t : List ℕ). exchanged_from t write 0 (stream_result built bytes)) (take_all (length bytes) bytes (omega arith)))
        (steps-write told closures write writes (take (length bytes) bytes) 0 (stream_result built bytes)
        (record { closure = closure; destination = old }) (record { closure = left; destination = new }) steps),
  )

  pub closure-begun : (built : Built) (write : Occurrence → List ℕ → List ℕ) (ends : Bool) (reader new_reader : Reading) (closure : F)
      (old new : D) (e : StreamError) → AlwaysWritesOut (Calls closures) told write → stream_refusal built ≡ None
      → FailsToReplaceWith told closures built closure old ends reader new_reader new e
      → ExchangesBeginning built write ends reader new_reader (told old) (told new)
  closure-begun built write ends reader new_reader closure old new e writes served (bytes, inl (fails, (given, place, settled, (left, steps))), small) =
      read-begins built write ends reader new_reader (told old) (told new) bytes given place e served fails settled.settled
      (steps-write told closures write writes (take place bytes) 0 (take given (stream_result built bytes))
      (record { closure = closure; destination = old }) (record { closure = left; destination = new }) steps)
  closure-begun built write ends reader new_reader closure old new e writes served (bytes, inr fails, small) =
      part-begins built write ends reader new_reader (told old) (told new) bytes fails.given fails.place served fails.settled
      (steps-begin told closures write writes (take fails.place bytes) 0 (take fails.given (stream_result built bytes))
      (record { closure = closure; destination = old }) (record { closure = fails.steps.0; destination = new }) (Some e) fails.steps.1)

-- by a list of texts
module _ (built : Built) (texts : List (List ℕ)) (ends : Bool) (reader new_reader : Reading) (old new : Writing) where
  pub texts-whole : ReplacesStream built texts old new ends reader new_reader
      → ExchangesAll built (text_of texts) ends reader new_reader old new
  texts-whole h = (h.0, h.1, h.2)

  pub texts-begun : (e : StreamError) → stream_refusal built ≡ None
      → FailsToReplace built texts old new ends reader new_reader e
      → ExchangesBeginning built (text_of texts) ends reader new_reader old new
  texts-begun e served (bytes, inl (fails, (given, place, settled, all)), small) =
      read-begins built (text_of texts) ends reader new_reader old new bytes given place e served fails settled.settled all
  texts-begun e served (bytes, inr fails, small) =
      part-begins built (text_of texts) ends reader new_reader old new bytes fails.given fails.place served fails.settled
      (begins-failed old new (exchanged_to built (text_of texts) bytes fails.given fails.place) fails.failure fails.writes)

-- where matches are exchanged for the same, what is written is the same
module _ (built : Built) (write other : Occurrence → List ℕ → List ℕ)
    (same : (bytes : List ℕ) → stream_exchanged built write bytes ≡ stream_exchanged built other bytes) (ends : Bool)
    (reader new_reader : Reading) (old new : Writing) where
  pub all-alike : ExchangesAll built write ends reader new_reader old new
      → ExchangesAll built other ends reader new_reader old new
  all-alike h = (h.0, h.1, subst (WritesAll old new) (same h.0) h.2)

  pub beginning-alike : ExchangesBeginning built write ends reader new_reader old new
      → ExchangesBeginning built other ends reader new_reader old new
  beginning-alike (bytes, inl (some, begun)) =
      (bytes, inl (some, λ more. subst (WritesBeginning old new) (same (bytes ++ more)) (begun more)))
  beginning-alike (bytes, inr (reads, begun)) = (bytes, inr (reads, subst (WritesBeginning old new) (same bytes) begun))

-- where each text is what f gives for the length of its pattern
module _ (built : Built) (texts : List (List ℕ)) (f : ℕ → List ℕ) (are : texts ≡ map (λ p. f (length p)) built.patterns) where
  -- the text of a match is what f gives for the length of its slice
  text-by_length : (bytes : List ℕ) (m : Occurrence) → LiesIn built (whole_input bytes) m
      → text_of texts m (slice_range bytes m.start m.end) ≡ by_length f m (slice_range bytes m.start m.end)
  text-by_length bytes m lie =
      ap (λ (ts : List (List ℕ)). slice_index_or ts m.pattern []) are
      ∙ get_or-map (λ (p : List ℕ). f (length p)) built.patterns m.pattern [] [] lie.numbered
      ∙ ap f (let long = lie.as_long in grind (arith, common_steps))

  exchanged-by_length : (bytes : List ℕ) (place : ℕ) (ms : List Occurrence) → All (LiesIn built (whole_input bytes)) ms
      → exchanged_from bytes (text_of texts) place ms ≡ exchanged_from bytes (by_length f) place ms
  exchanged-by_length bytes place [] lie = refl
  exchanged-by_length bytes place (m ∷ ms) lie =
      let here = text-by_length bytes m (All-head (LiesIn built (whole_input bytes)) m ms lie) in
      let later = exchanged-by_length bytes m.end ms (All-tail (LiesIn built (whole_input bytes)) m ms lie) in
      ap (λ (w : List ℕ). slice_range bytes place m.start ++ w ++ exchanged_from bytes (text_of texts) m.end ms) here
      ∙ ap (λ (w : List ℕ). slice_range bytes place m.start ++ by_length f m (slice_range bytes m.start m.end) ++ w) later

  pub by_length-same : (bytes : List ℕ)
      → stream_exchanged built (text_of texts) bytes ≡ stream_exchanged built (by_length f) bytes
  by_length-same bytes =
      exchanged-by_length bytes 0 (stream_result built bytes) (walk_result-lie built (whole_input bytes) (omega arith))
