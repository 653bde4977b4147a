-- Printing the matches of a stream while it is read.
use Rattle.std.proofs.Common.{◌≡◌, ◌+◌, ◌<◌, ◌≤◌, ◌-◌, ℕ, List, [], ◌∷◌, ◌++◌, length, drop, take, ap, refl, sym, ◌∙◌, subst, arith, inl, inr, Bool, Some, rules, slice_get}
use Rattle.std.proofs.KnownBytes.{Consumes-nil}
use Rattle.std.proofs.lemmas.List.{append_cancel_right, append-nil, drop_more, length-append, length-drop, take-append-drop}
use Rattle.std.proofs.lemmas.Option.{get_or_from_slice_get, slice_get_within}
use Rattle.std.proofs.Math.Seq.{take-append-add}
use Rattle.std.proofs.lemmas.Grind.{common_steps}
use Rattle.ac_search.specs.declared.StreamError.{StreamError}
use Rattle.ac_search.specs.Built.{Built}
use Rattle.ac_search.specs.Device.{Reading, Writing, WritesAll}
use Rattle.ac_search.specs.Occurrence.{Occurrence}
use Rattle.ac_search.specs.Patterns.{usize_max}
use Rattle.ac_search.specs.Stream.{stream_result, IsAllSettled, IsSettled}
use Rattle.ac_search.specs.declared.Phase.{Phase}
use Rattle.ac_search.specs.declared.Phase.TheVariants.{Ended, Failed, Open}
use Rattle.ac_search.specs.Streams.{EndsNow, GivesError, GivesMatch, GivesNextMatch, GivesNone, GoesOnBy, HasGivenSettled, IsSettledIn, KeepsGiven, Streaming, matches_so_far, initial_stream}
use Rattle.acs.specs.declared.fault.Fault.{Fault}
use Rattle.acs.specs.declared.request.Mode.TheVariants.{Stream}
use Rattle.acs.specs.declared.run.Outcome.{Outcome}
use Rattle.acs.specs.declared.run.Outcome.TheVariants.{Found, Nothing}
use Rattle.acs.specs.Faults.{stream_fault_of}
use Rattle.acs.specs.Lines.{lines, outcome_of}
use Rattle.acs.specs.Printed.{FailsToPrintSettled, FailsToPrintStream, HasPrintedRead, IsPrinting, PrintsSoFar, PrintsStream}
use Rattle.acs.specs.Modes.{FailsToPrint, FailsToWrite, WritesSettled}
use Rattle.acs.proofs.Printing.{printing-begins, printing-fails, printing-writes}
use Rattle.acs.proofs.Reading.{fails-after}

-- what is left of a list from a place on begins with the element there
drop-slice_get : {X : Type 0} (xs : List X) (i : ℕ) (x : X) → slice_get xs i ≡ Some x → drop i xs ≡ x ∷ drop (i + 1) xs
drop-slice_get xs i x at =
    drop_more xs i x (slice_get_within xs i x at)
    ∙ ap (λ (y : _). y ∷ drop (i + 1) xs) (get_or_from_slice_get xs i x x at)

-- of another list that begins with the matches given, the same lines are written
printing-longer : (n : ℕ) (all others : List Occurrence) {old new : Writing} {text : List ℕ} {outcome : Outcome}
    → take n others ≡ take n all → IsPrinting all (drop n all) old new text outcome
    → IsPrinting others (drop n others) old new text outcome
printing-longer n all others same h = grind (arith, common_steps)

-- of the bytes read so far the next match is given
pub read-printing : {v w : Streaming} {m : Occurrence} {old new : Writing} {text : List ℕ} {outcome : Outcome}
    → GivesMatch v m w → PrintsSoFar v old new text outcome
    → IsPrinting (matches_so_far w) (m ∷ drop w.given (matches_so_far w)) old new text outcome
read-printing {v} {w} {m} {old} {new} {text} {outcome} gives h = search (rules, drop-slice_get)

-- among more of the matches the next one is the first whose line isn't written
pub printing-among : (n : ℕ) (all rest : List Occurrence) (m : Occurrence) {old new : Writing} {text : List ℕ} {outcome : Outcome}
    → (h : IsPrinting all (m ∷ rest) old new text outcome) → length h.done < n
    → IsPrinting (take n all) (m ∷ take (n - length h.done - 1) rest) old new text outcome
printing-among n all rest m h more = record {
  done = h.done;
  parted =
      sym (ap (take n) (sym h.parted)
      ∙ ap (λ (k : ℕ). take k (h.done ++ m ∷ rest)) (let e : n ≡ length h.done + (n - length h.done - 1 + 1) = omega arith in e)
      ∙ take-append-add h.done (m ∷ rest) (n - length h.done - 1 + 1) ∙ more-of);
  out = h.out;
  moved = h.moved;
  written = h.written;
  failed = h.failed;
  idles = h.idles;
  blanks = h.blanks;
  outcome_is = h.outcome_is;
}
  where
    more-of : h.done ++ take (n - length h.done - 1 + 1) (m ∷ rest) ≡ h.done ++ m ∷ take (n - length h.done - 1) rest
    more-of = grind (arith, common_steps)

-- of those that were given none is left
pub printing-given : (n : ℕ) (all : List Occurrence) {old new : Writing} {text : List ℕ} {outcome : Outcome}
    → (h : IsPrinting all (drop n all) old new text outcome) → IsPrinting (take n all) [] old new text outcome
printing-given n all h = record {
  done = h.done;
  parted = append-nil h.done ∙ append_cancel_right h.done (take n all) (drop n all) (h.parted ∙ sym (take-append-drop n all));
  out = h.out;
  moved = h.moved;
  written = h.written;
  failed = h.failed;
  idles = h.idles;
  blanks = h.blanks;
  outcome_is = h.outcome_is;
}

-- so many lines are written, or in the text, as matches were given
given-many : {n : ℕ} {all rest : List Occurrence} {old new : Writing} {text : List ℕ} {outcome : Outcome}
    → (h : IsPrinting all rest old new text outcome) → length rest + n ≡ length all → length h.done ≡ n
given-many {n} {all} {rest} h is =
    let parted = ap (length {A = Occurrence}) h.parted ∙ refl in let long = length-append h.done rest in omega arith

-- the line of the next match couldn't be written: it is settled
pub next-stops : {v w : Streaming} {m : Occurrence} {old now new : Writing} {text : List ℕ} {outcome : Outcome} {fault : Fault}
    → GivesMatch v m w → PrintsSoFar v old now text outcome
    → ((all rest : List Occurrence) (old : Writing) (before : Outcome) → IsPrinting all (m ∷ rest) old now text before
    → FailsToPrint old new (lines all) fault)
    → FailsToPrintSettled v old new fault
next-stops {v} {w} {m} {old} {now} {new} {text} {outcome} {fault} gives h fails =
    let ms = matches_so_far v in let settled = gives.settled in
    let next = subst (λ (rest : List Occurrence). IsPrinting ms rest old now text outcome) (drop-slice_get ms v.given m gives.next) h in
    let within = slice_get_within ms v.given m gives.next in
    let among = settled.among in (
      settled.given,
      settled.place,
      settled.settled,
      fails (take settled.given ms) _ old outcome
          (printing-among settled.given ms (drop (v.given + 1) ms) m next
          (let many = given-many {n = v.given} next (let d = length-drop (v.given + 1) ms in omega arith) in omega arith)),
    )

-- the text couldn't be written: of all that are settled the lines are in it, or written
pub text-stops : {v w : Streaming} {old now new : Writing} {text : List ℕ} {outcome : Outcome} {fault : Fault}
    → HasGivenSettled v w → PrintsSoFar v old now text outcome → FailsToWrite now new text fault → FailsToPrintSettled v old new fault
text-stops {v} {w} {old} {now} {new} {text} {outcome} {fault} all h fails = (
  v.given,
  w.kept,
  all.all.settled,
  printing-fails (take v.given (matches_so_far v)) [] old now text outcome
      (printing-given v.given (matches_so_far v) h) new fault fails,
)

-- all of them that are settled were given, and the text is written
pub read-printed : {v w first : Streaming} {old new later : Writing} {text left : List ℕ}
    → v ≡ record first { given = v.given; kept = v.kept } → first.given ≤ v.given → HasGivenSettled v w
    → PrintsSoFar v old new text Found → WritesAll new later text → left ≡ [] → HasPrintedRead first w old later left Found
read-printed {v} {w} {first} {old} {new} {later} {text} same onward all h writes none = search (rules, printing-writes)

-- some bytes came, or all of them, and are settled so far
settled-by : (ends : Bool) (phase : Phase) (built : Built) (reader now : Reading) (bytes : List ℕ) (given place : ℕ)
    → GoesOnBy ends Open phase reader now bytes → IsSettledIn phase built bytes given place
    → IsSettled ends built reader now bytes given place
settled-by ends Open built reader now bytes given place reads settled = inl (reads, settled)
settled-by ends Ended built reader now bytes given place reads settled = inr (reads, settled.0, settled.1)
settled-by ends Failed built reader now bytes given place reads settled = absurd reads

-- before a read the lines of the matches that were given are written
pub record IsPrintingStream (ends : Bool) (built : Built) (v : Streaming) (reader new_reader : Reading)
    (writer new_writer : Writing) (text : List ℕ) (outcome : Outcome) : Type 0 where
  pub built_is : v.built ≡ built
  pub reads : GoesOnBy ends Open v.phase reader new_reader v.bytes
  pub nothing : text ≡ []
  pub printing : PrintsSoFar v writer new_writer [] outcome

-- at first none was given
pub print-begins : (ends : Bool) (v : Streaming) (reader : Reading) (writer : Writing) → v ≡ initial_stream v.built
    → IsPrintingStream ends v.built v reader reader writer writer [] Nothing
print-begins ends v reader writer begun = search (rules, Consumes-nil, printing-begins)

module _ {ends : Bool} {built : Built} {v : Streaming} {reader new_reader : Reading} {writer new_writer : Writing}
    {text : List ℕ} {outcome : Outcome}
    (h : IsPrintingStream ends built v reader new_reader writer new_writer text outcome) where
  -- of more bytes the same lines are written
  longer : (bytes : List ℕ) → KeepsGiven v bytes
      → IsPrinting (stream_result v.built bytes) (drop v.given (stream_result v.built bytes)) writer new_writer [] outcome
  longer bytes keeps = printing-longer v.given (matches_so_far v) (stream_result v.built bytes) keeps h.printing

  -- and of all of them where all were given
  all-written : (bytes : List ℕ) → KeepsGiven v bytes → v.given ≡ length (stream_result built bytes)
      → WritesAll writer new_writer (lines (stream_result built bytes)) × (outcome ≡ outcome_of (stream_result built bytes))
  all-written bytes keeps all = grind (arith, common_steps)

  -- what is settled is written
  settled-written : (bytes : List ℕ) (place : ℕ) → KeepsGiven v bytes
      → IsAllSettled built bytes v.given place → WritesSettled Stream built [] bytes writer new_writer
  settled-written bytes place keeps all = grind (arith, common_steps)

  -- a read has failed, or brought more than usize counts
  pub read-stops : {later : Reading} {e : StreamError} {w : Streaming} {fault : Fault}
      → GivesError v e w new_reader later → fault ≡ stream_fault_of e
      → FailsToPrintStream ends built reader later writer new_writer fault
  read-stops {later} {e} {w} gives is =
      let bytes = v.bytes ++ gives.more in
      let read = subst (λ (p : Phase). GoesOnBy ends Open p reader new_reader v.bytes) gives.open' h.reads in
      record {
        bytes = bytes;
        cause = inl (
          e,
          is,
          fails-after later gives.more read e gives.reads,
          settled-written bytes w.kept gives.given (subst (λ (b : Built). IsAllSettled b bytes v.given w.kept) h.built_is gives.all),
        );
      }

  -- the end was met
  ends-there : {later : Reading} {w : Streaming} → EndsNow ends v w new_reader later
      → PrintsStream ends built reader later writer new_writer outcome
  ends-there {later} gives = grind (arith, common_steps)

  pub stream-ends : (later : Reading) (w : Streaming) → GivesNone v.phase ends v w new_reader later
      → PrintsStream ends built reader later writer new_writer outcome
  stream-ends later w none = grind (arith, common_steps)

  module _ {later : Reading} {m : Occurrence} {w : Streaming} (gives : GivesNextMatch ends v m w new_reader later) where
    -- the next match is the first one whose line isn't written
    next-printing : IsPrinting (matches_so_far w) (m ∷ drop w.given (matches_so_far w)) writer new_writer text outcome
    next-printing =
        rw h.nothing
        (subst (λ (u : Streaming). IsPrinting (matches_so_far u) (m ∷ drop u.given (matches_so_far u)) writer new_writer [] outcome)
        (sym gives.same)
        (subst (λ (rest : List Occurrence). IsPrinting (stream_result v.built (v.bytes ++ gives.more)) rest writer new_writer [] outcome)
        (drop-slice_get (stream_result v.built (v.bytes ++ gives.more)) v.given m gives.next) (longer (v.bytes ++ gives.more) gives.given)))

    -- the line of the next match is printed, if this is what printing a line does
    pub line-printed : {new : Writing} {more : List ℕ}
        → ((all rest : List Occurrence) (old : Writing) (before : Outcome) → IsPrinting all (m ∷ rest) old new_writer text before
        → IsPrinting all rest old new more Found)
        → PrintsSoFar w writer new more Found
    line-printed prints = prints (matches_so_far w) (drop w.given (matches_so_far w)) writer outcome next-printing

    -- and as many lines were written before
    before-next : {n : ℕ} → v.given < n → length next-printing.done < n
    before-next {n} less =
        let within = slice_get_within (stream_result v.built (v.bytes ++ gives.more)) v.given m gives.next in
        let given = ap (λ (u : Streaming). u.given) gives.same in
        let all = ap (λ (u : Streaming). length (matches_so_far u)) gives.same in
        let rest = length-drop w.given (matches_so_far w) in
        let many = given-many {n = v.given} next-printing (omega arith) in omega arith

    next-reads : GoesOnBy ends Open w.phase reader later w.bytes
    next-reads = grind (arith, common_steps)

    next-built : w.built ≡ built
    next-built = ap (λ (u : Streaming). u.built) gives.same ∙ h.built_is

    -- a line couldn't be written
    pub print-stops : {new : Writing} {fault : Fault} → FailsToPrintSettled w writer new fault
        → FailsToPrintStream ends built reader later writer new fault
    print-stops {new} {fault} (given, place, settled, fails) = record {
      bytes = w.bytes;
      cause = inr (
        given,
        place,
        subst (λ (b : Built). IsSettled ends b reader later w.bytes given place) next-built
            (settled-by ends w.phase w.built reader later w.bytes given place next-reads settled),
        subst (λ (b : Built). FailsToPrint writer new (lines (take given (stream_result b w.bytes))) fault) next-built fails,
      );
    }

    -- nor could that of the next match
    pub line-stops : {new : Writing} {fault : Fault}
        → ((all rest : List Occurrence) (old : Writing) (before : Outcome) → IsPrinting all (m ∷ rest) old new_writer text before
        → FailsToPrint old new (lines all) fault)
        → FailsToPrintStream ends built reader later writer new fault
    line-stops fails =
        let settled = gives.settled in let ms = matches_so_far w in
        print-stops (
          settled.given,
          settled.place,
          settled.settled,
          fails (take settled.given ms) _ writer outcome
              (printing-among settled.given ms (drop w.given ms) m next-printing (before-next settled.among)),
        )

    -- the lines of all matches so far were written
    pub printed-more : {x : Streaming} {new : Writing} {left : List ℕ} → HasPrintedRead w x writer new left Found
        → IsPrintingStream ends built x reader later writer new left Found
    printed-more {x} {new} printed = grind (arith, common_steps)

    -- fewer matches than usize counts may follow
    pub given-more : {x : Streaming} {new : Writing} {left : List ℕ} → HasPrintedRead w x writer new left Found
        → usize_max - x.given < usize_max - v.given
    given-more printed = grind (arith, common_steps)
