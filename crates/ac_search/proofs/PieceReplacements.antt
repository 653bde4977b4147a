-- What a replacement of a text in pieces has written, as its search goes on.
use Rattle.ac_util.proofs.Prelude.{◌≡◌, false, ℕ, ◌+◌, ◌-◌, ◌≤◌, List, [], ◌∷◌, ◌++◌, length, length-append, take, drop, take-take, refl, ap, sym, subst, ◌∙◌, arith, Some, append-nil, append_assoc, slice_get, slice_index_or, slice_range, take-append-drop, take-append-le, drop-take, drop_all, take_all, length-take-le}
use Rattle.ac_util.specs.Prelude.{AreApart, AreInOrder, Built, Occurrence, StartFrom, StaysApart, exchanged_from, exchanged_to, has_empty, last_end, stream_result, text_of}
use Rattle.ac_util.specs.Patterns.{usize_max}
use Rattle.ac_util.proofs.Exchanges.{exchanged-in_order}
use Rattle.ac_util.proofs.ReplacedCuts.{all-apart, cut-of, exchanged-cut, last-inside, order-front, order-next, order-within, settled-apart}
use Rattle.ac_automaton.specs.Streams.{IsAllGiven, IsSettledIn}
use Rattle.ac_automaton.proofs.Places.{take-next}
use Rattle.ac_automaton.specs.declared.automaton.stream_settled.Phase.{Phase}
use Rattle.ac_automaton.specs.declared.automaton.stream_settled.Phase.TheVariants.{Open, Ended, Failed}
use Rattle.ac_search.specs.PieceReplacements.{BeginsReplaced, IsAllReplaced, IsReplacedSoFar, PieceReplacing, replaced_to, replacing_by}

-- the last of some matches and one more is that one
last-of : (ms : List Occurrence) (m : Occurrence) → last_end (ms ++ m ∷ []) ≡ m.end
last-of [] m = refl
last-of (n ∷ []) m = refl
last-of (n ∷ o ∷ ms) m = last-of (o ∷ ms) m

module _ (built : Built) where
  abbrev found : List ℕ → List Occurrence
  found bytes = stream_result built bytes

  abbrev many : ℕ
  many = length built.patterns

  abbrev in-order : (bytes : List ℕ) → AreInOrder (length bytes) many 0 (found bytes)
  in-order bytes = exchanged-in_order built bytes many refl

  -- matches that are apart from the others are in order as far as these begin
  order-to : (bytes : List ℕ) (given place : ℕ) → AreApart built bytes given place → AreInOrder place many 0 (take given (found bytes))
  order-to bytes given place apart =
      order-within (length bytes) many 0 place (take given (found bytes))
      (order-front (length bytes) many 0 (take given (found bytes)) (drop given (found bytes))
      (subst (AreInOrder (length bytes) many 0) (sym (take-append-drop given (found bytes))) (in-order bytes))) (omega arith) apart.last

  -- matches that follow others in order start no earlier than the last of these ends
  starts-after : (bytes : List ℕ) (first others : List Occurrence) (place : ℕ) → AreInOrder (length bytes) many 0 (first ++ others)
      → place ≤ last_end first → StartFrom place others
  starts-after bytes first [] place order at = tt
  starts-after bytes first (n ∷ others) place order at =
      let l = order-next (length bytes) many 0 first n others order in omega arith

  -- one match more, and those after it
  apart-next : (bytes more : List ℕ) (given : ℕ) (first : List Occurrence) (m : Occurrence)
      → take (given + 1) (found (bytes ++ more)) ≡ first ++ m ∷ [] → m.end ≤ length bytes → AreApart built (bytes ++ more) (given + 1) m.end
  apart-next bytes more given first m is within =
      let all = found (bytes ++ more) in
      let last : last_end (take (given + 1) all) ≡ m.end = ap last_end is ∙ last-of first m in
      record {
        within = (let l = length-append bytes more in omega arith);
        last = omega arith;
        starts = starts-after (bytes ++ more) (take (given + 1) all) (drop (given + 1) all) m.end
            (subst (AreInOrder (length (bytes ++ more)) many 0) (sym (take-append-drop (given + 1) all)) (in-order (bytes ++ more)))
            (omega arith);
      }

  module _ (texts : List (List ℕ)) where
    abbrev write : Occurrence → List ℕ → List ℕ
    write = text_of texts

    -- the text as far as an offset, by the same matches, and then as far as a later one
    further : (bytes : List ℕ) (place to : ℕ) (ms : List Occurrence) → AreInOrder place many 0 ms → place ≤ to → to ≤ length bytes
        → exchanged_from (take to bytes) write 0 ms ≡ exchanged_from (take place bytes) write 0 ms ++ slice_range bytes place to
    further bytes place to ms order onward within =
        let long = length-take-le to bytes within in
        ap (exchanged_from (take to bytes) write 0) (sym (append-nil ms))
        ∙ exchanged-cut (take to bytes) write many 0 place ms [] order tt (omega arith)
        ∙ ap (λ (t : List ℕ). exchanged_from t write 0 ms ++ drop place (take to bytes)) (take-take place to bytes onward)
        ∙ ap (λ (t : List ℕ). exchanged_from (take place bytes) write 0 ms ++ t)
        (ap (λ (n : ℕ). drop place (take n bytes)) (let e : to ≡ place + (to - place) = omega arith in e) ∙ drop-take place (to - place) bytes)

    -- and then with one match more
    one-more : (bytes : List ℕ) (place : ℕ) (ms : List Occurrence) (m : Occurrence) → AreInOrder place many 0 ms → place ≤ m.start
        → m.start ≤ m.end → m.end ≤ length bytes
        → exchanged_from (take m.end bytes) write 0 (ms ++ m ∷ [])
        ≡ exchanged_from (take place bytes) write 0 ms ++ (slice_range bytes place m.start ++ slice_index_or texts m.pattern [])
    one-more bytes place ms m order after ordered within =
        let long = length-take-le m.end bytes within in
        let before = exchanged_from (take place bytes) write 0 ms in
        let text = slice_index_or texts m.pattern [] in
        let part-so : slice_range (take m.end bytes) place m.start ≡ slice_range bytes place m.start =
        ap (λ (n : ℕ). take (m.start - place) (drop place (take n bytes))) (let e : m.end ≡ place + (m.end - place) = omega arith in e)
        ∙ ap (take (m.start - place)) (drop-take place (m.end - place) bytes)
        ∙ take-take (m.start - place) (m.end - place) (drop place bytes) (omega arith) in
        exchanged-cut (take m.end bytes) write many 0 place ms (m ∷ []) order after (omega arith)
        ∙ ap (λ (t : List ℕ). exchanged_from t write 0 ms
        ++ (slice_range (take m.end bytes) place m.start ++ text ++ drop m.end (take m.end bytes))) (take-take place m.end bytes (omega arith))
        ∙ ap (λ (t : List ℕ). before ++ (t ++ text ++ drop m.end (take m.end bytes))) part-so
        ∙ ap (λ (t : List ℕ). before ++ (slice_range bytes place m.start ++ text ++ t)) (drop_all m.end (take m.end bytes) (omega arith))
        ∙ ap (λ (t : List ℕ). before ++ t) (append-nil (slice_range bytes place m.start ++ text))

    module _ (bytes more : List ℕ) (given place : ℕ) (stays : StaysApart built bytes more given place) (within : place ≤ length bytes) where
      -- what follows leaves the replaced text so far as it is
      same-so-far : exchanged_to built write (bytes ++ more) given place ≡ exchanged_to built write bytes given place
      same-so-far =
          ap (λ (t : List ℕ). exchanged_from t write 0 (take given (found (bytes ++ more)))) (take-append-le place bytes more within)
          ∙ ap (exchanged_from (take place bytes) write 0) stays.0

      settled-further : (to : ℕ) → place ≤ to → to ≤ length (bytes ++ more)
          → exchanged_to built write (bytes ++ more) given to
          ≡ exchanged_to built write bytes given place ++ slice_range (bytes ++ more) place to
      settled-further to onward inside =
          further (bytes ++ more) place to (take given (found (bytes ++ more))) (order-to (bytes ++ more) given place stays.1) onward inside
          ∙ ap (λ (t : List ℕ). t ++ slice_range (bytes ++ more) place to) same-so-far

      match-further : (m : Occurrence) → slice_get (found (bytes ++ more)) given ≡ Some m → place ≤ m.start → m.start ≤ m.end
          → m.end ≤ length (bytes ++ more)
          → exchanged_to built write (bytes ++ more) (given + 1) m.end
          ≡ exchanged_to built write bytes given place
          ++ (slice_range (bytes ++ more) place m.start ++ slice_index_or texts m.pattern [])
      match-further m next after ordered inside =
          ap (exchanged_from (take m.end (bytes ++ more)) write 0) (take-next (found (bytes ++ more)) given m next)
          ∙ one-more (bytes ++ more) place (take given (found (bytes ++ more))) m (order-to (bytes ++ more) given place stays.1) after ordered inside
          ∙ ap (λ (t : List ℕ). t ++ (slice_range (bytes ++ more) place m.start ++ slice_index_or texts m.pattern [])) same-so-far

-- an offset as far as which a replacement has come lies in what was taken
pub place-within : {v : PieceReplacing} → IsReplacedSoFar v → v.text.kept ≤ length v.text.bytes
place-within {v} h =
    subst (λ (bs : List ℕ). v.text.kept ≤ length bs) (append-nil v.text.bytes) (h.apart [] (λ ended. refl)).1.within

-- so what was written begins the replaced text, whatever follows
pub begins-replaced : {v : PieceReplacing} → IsReplacedSoFar v → BeginsReplaced v
begins-replaced {v} h more closed =
    let built = v.text.built in
    let bytes = v.text.bytes in
    let stays = h.apart more closed in
    let rest = exchanged_from (bytes ++ more) (text_of v.texts) v.text.kept (drop v.text.given (found built (bytes ++ more))) in (
      v.due ++ rest,
      sym (append_assoc v.written v.due rest)
          ∙ ap (λ (t : List ℕ). t ++ rest)
          (h.is ∙ sym (same-so-far built v.texts bytes more v.text.given v.text.kept stays (place-within h)))
          ∙ sym (cut-of built (text_of v.texts) (bytes ++ more) v.text.given v.text.kept stays.1),
    )

-- and where nothing is due, and the search has given all, all that is settled was written
pub all-replaced : {v : PieceReplacing} → IsReplacedSoFar v → v.due ≡ [] → IsAllGiven v.text → IsAllReplaced v.text.phase v
all-replaced {v} h clear all = by v.text.phase refl
  where
    written : v.written ≡ replaced_to v v.text.given v.text.kept
    written = sym (append-nil v.written) ∙ ap (λ (t : List ℕ). v.written ++ t) (sym clear) ∙ h.is

    settled : (phase : Phase) → v.text.phase ≡ phase → IsSettledIn phase v.text.built v.text.bytes v.text.given v.text.kept
    settled phase is = subst (λ (p : Phase). IsSettledIn p v.text.built v.text.bytes v.text.given v.text.kept) is all.settled

    by : (phase : Phase) → v.text.phase ≡ phase → IsAllReplaced phase v
    by Open is = (v.text.given, v.text.kept, record { settled = settled Open is; near = all.near; next = all.next }, written)
    by Ended is =
        let s = settled Ended is in
        let ms = found v.text.built v.text.bytes in
        written
        ∙ ap (λ (t : List ℕ). exchanged_from t (text_of v.texts) 0 (take v.text.given ms))
        (take_all v.text.kept v.text.bytes (let e = s.1 in omega arith))
        ∙ ap (exchanged_from v.text.bytes (text_of v.texts) 0) (take_all v.text.given ms (let e = s.0 in omega arith))
    by Failed is = absurd (h.goes_on is)

module _ (old : PieceReplacing) (h : IsReplacedSoFar old) (clear : old.due ≡ []) (served : has_empty old.text.built ≡ false)
    (piece left : List ℕ) where
  abbrev built' : Built
  built' = old.text.built

  written-is : old.written ≡ replaced_to old old.text.given old.text.kept
  written-is = sym (append-nil old.written) ∙ ap (λ (t : List ℕ). old.written ++ t) (sym clear) ∙ h.is

  module _ (taken : List ℕ) (closed : old.text.phase ≡ Ended → taken ≡ []) (small : length (old.text.bytes ++ taken) ≤ usize_max) where
    abbrev bytes' : List ℕ
    bytes' = old.text.bytes ++ taken

    stays : StaysApart built' old.text.bytes taken old.text.given old.text.kept
    stays = h.apart taken closed

    -- no match is settled: what stands before what is settled is due
    module _ (to : ℕ) (all : IsAllGiven (record old.text { bytes = bytes'; kept = to })) (onward : old.text.kept ≤ to) where
      abbrev on : PieceReplacing
      on = replacing_by (record old.text { bytes = bytes'; kept = to }) old.texts old.written (slice_range bytes' old.text.kept to ++ [])

      apart-on : (more : List ℕ) → (old.text.phase ≡ Ended → more ≡ []) → StaysApart built' bytes' more old.text.given to
      apart-on more ends = by old.text.phase refl
        where
          settled : (phase : Phase) → old.text.phase ≡ phase → IsSettledIn phase built' bytes' old.text.given to
          settled phase is = subst (λ (p : Phase). IsSettledIn p built' bytes' old.text.given to) is all.settled

          by : (phase : Phase) → old.text.phase ≡ phase → StaysApart built' bytes' more old.text.given to
          by Open is = settled-apart built' bytes' more old.text.given to served (settled Open is)
          by Ended is =
              let s = settled Ended is in
              let whole : bytes' ++ more ≡ bytes' = ap (λ (w : List ℕ). bytes' ++ w) (ends is) ∙ append-nil bytes' in (
                ap (λ (bs : List ℕ). take old.text.given (found built' bs)) whole,
                subst (λ (bs : List ℕ). AreApart built' bs old.text.given to) (sym whole)
                    (all-apart built' bytes' old.text.given to s.0 (let e = s.1 in omega arith)
                    (let e = s.1 in let l = last-inside built' bytes' in omega arith)),
              )
          by Failed is = absurd (h.goes_on is)

      pub so-far-on : IsReplacedSoFar on
      so-far-on = record {
        goes_on = h.goes_on;
        small = small;
        is = ap (λ (t : List ℕ). old.written ++ t) (append-nil (slice_range bytes' old.text.kept to))
            ∙ ap (λ (t : List ℕ). t ++ slice_range bytes' old.text.kept to) written-is
            ∙ sym (settled-further built' old.texts old.text.bytes taken old.text.given old.text.kept stays (place-within h) to onward all.within);
        apart = apart-on;
      }

    -- the next match was found: what stands before it is due, and then its text
    module _ (m : Occurrence) (next : slice_get (found built' bytes') old.text.given ≡ Some m) (after : old.text.kept ≤ m.start)
        (ordered : m.start ≤ m.end) (inside : m.end ≤ length bytes')
        (keeps : old.text.phase ≡ Open → (more : List ℕ)
        → take (old.text.given + 1) (found built' (bytes' ++ more)) ≡ take (old.text.given + 1) (found built' bytes')) where
      abbrev past : PieceReplacing
      past = replacing_by (record old.text { bytes = bytes'; given = old.text.given + 1; kept = m.end }) old.texts old.written
          (slice_range bytes' old.text.kept m.start ++ slice_index_or old.texts m.pattern [])

      keeps-so : (more : List ℕ) → (old.text.phase ≡ Ended → more ≡ [])
          → take (old.text.given + 1) (found built' (bytes' ++ more)) ≡ take (old.text.given + 1) (found built' bytes')
      keeps-so more ends = by old.text.phase refl
        where
          by : (phase : Phase) → old.text.phase ≡ phase
              → take (old.text.given + 1) (found built' (bytes' ++ more)) ≡ take (old.text.given + 1) (found built' bytes')
          by Open is = keeps is more
          by Ended is =
              ap (λ (bs : List ℕ). take (old.text.given + 1) (found built' bs))
              (ap (λ (w : List ℕ). bytes' ++ w) (ends is) ∙ append-nil bytes')
          by Failed is = absurd (h.goes_on is)

      pub so-far-past : IsReplacedSoFar past
      so-far-past = record {
        goes_on = h.goes_on;
        small = small;
        is = ap (λ (t : List ℕ). t ++ (slice_range bytes' old.text.kept m.start ++ slice_index_or old.texts m.pattern [])) written-is
            ∙ sym (match-further built' old.texts old.text.bytes taken old.text.given old.text.kept stays (place-within h) m next after ordered
            inside);
        apart = λ more ends. (
          keeps-so more ends,
          apart-next built' bytes' more old.text.given (take old.text.given (found built' bytes')) m
              (keeps-so more ends ∙ take-next (found built' bytes') old.text.given m next) inside,
        );
      }
