-- A loop takes bytes of a piece and writes what is due, until there is no room for more or nothing is left to do.
use Rattle.ac_util.proofs.Prelude.{◌≡◌, ℕ, ◌+◌, ◌<◌, ◌≤◌, Bool, false, List, [], ◌++◌, length, length-append, length-drop, length-take-le, take, drop, refl, ap, ap₂, sym, ◌∙◌, arith, append-nil, append_assoc, drop-drop, drop_all, drop-append-add, take-append-add, take-append_seam, drop-append_seam}
use Rattle.ac_automaton.specs.Streams.{Streaming}
use Rattle.ac_automaton.specs.declared.automaton.stream_settled.Phase.TheVariants.{Ended}
use Rattle.ac_search.specs.PieceReplacements.{IsReplacedSoFar, PieceReplacing, TakesAndReplaces, TakesSome, WritesDue, gone_on, replacing_by}
use Rattle.ac_search.proofs.PieceReplacements.{all-replaced, begins-replaced}

-- so much was taken of a piece, and written; and nothing is due where there is room for more
pub record HasReplaced (old : PieceReplacing) (piece out new_out : List ℕ) (filled : ℕ) (new : PieceReplacing) (left : List ℕ) : Type 0 where
  pub taken : List ℕ
  pub parted : piece ≡ taken ++ left
  pub closed : old.text.phase ≡ Ended → taken ≡ []
  pub same : new ≡ gone_on old taken new
  pub written : new.written ≡ old.written ++ take filled new_out
  pub fits : filled ≤ length out
  pub stays : drop filled new_out ≡ drop filled out
  pub sized : length new_out ≡ length out
  pub clear : filled < length out → new.due ≡ []
  pub so_far : IsReplacedSoFar new

module _ {old : PieceReplacing} {piece out : List ℕ} where
  -- what is due at first is written
  pub first-replaced : {now : PieceReplacing} {new_out : List ℕ} {filled : ℕ} → WritesDue old out new_out filled now → IsReplacedSoFar now
      → HasReplaced old piece out new_out filled now piece
  first-replaced {now} {new_out} {filled} writes so-far =
      let text : now.text ≡ old.text = ap (λ (v : PieceReplacing). v.text) writes.same in
      let long = length-take-le filled old.due (let l = writes.least in omega arith) in
      let cut = drop filled out in
      record {
        taken = [];
        parted = refl;
        closed = λ _. refl;
        same =
            ap₂ (λ (t : Streaming) (ts : List (List ℕ)). replacing_by t ts now.written now.due)
            (text ∙ ap₂ (λ (bs : List ℕ) (t : Streaming). record old.text { bytes = bs; given = t.given; kept = t.kept })
            (sym (append-nil old.text.bytes)) (sym text))
            (ap (λ (v : PieceReplacing). v.texts) writes.same);
        written = ap (λ (v : PieceReplacing). v.written) writes.same
            ∙ ap (λ (t : List ℕ). old.written ++ t)
            (sym (ap (take filled) writes.copied
            ∙ ap (λ (n : ℕ). take n (take filled old.due ++ cut)) (sym long)
            ∙ take-append_seam (take filled old.due) cut));
        fits = (let l = writes.least in omega arith);
        stays = ap (drop filled) writes.copied
            ∙ ap (λ (n : ℕ). drop n (take filled old.due ++ cut)) (sym long)
            ∙ drop-append_seam (take filled old.due) cut;
        sized = (let l = writes.least in
            let a = ap (length {A = ℕ}) writes.copied ∙ length-append (take filled old.due) cut in
            let d = length-drop filled out in omega (arith, long));
        clear = λ room. ap (λ (v : PieceReplacing). v.due) writes.same ∙ drop_all filled old.due (let l = writes.least in omega arith);
        so_far = so-far;
      }

  module _ {now : PieceReplacing} {now_out : List ℕ} {filled : ℕ} {left : List ℕ} (h : HasReplaced old piece out now_out filled now left)
      {next : PieceReplacing} {others : List ℕ} {goes_on : Bool} (takes : TakesSome now left goes_on next others) where
    abbrev taken' : List ℕ
    taken' = h.taken ++ takes.taken

    parted-so : piece ≡ taken' ++ others
    parted-so =
        h.parted ∙ ap (λ (t : List ℕ). h.taken ++ t) takes.parted ∙ sym (append_assoc h.taken takes.taken others)

    phase-is : now.text.phase ≡ old.text.phase
    phase-is = ap (λ (v : PieceReplacing). v.text.phase) h.same

    closed-so : old.text.phase ≡ Ended → taken' ≡ []
    closed-so ended =
        ap₂ (λ (s : List ℕ) (t : List ℕ). s ++ t) (h.closed ended) (takes.closed (phase-is ∙ ended))

    -- it has gone on by both
    same-so : (new : PieceReplacing) → new.text ≡ next.text → new.texts ≡ next.texts → new ≡ gone_on old taken' new
    same-so new text texts =
        ap₂ (λ (t : Streaming) (ts : List (List ℕ)). replacing_by t ts new.written new.due)
        (text
        ∙ ap (λ (v : PieceReplacing). v.text) takes.same
        ∙ ap (λ (v : PieceReplacing). record v.text { bytes = v.text.bytes ++ takes.taken; given = next.text.given; kept = next.text.kept }) h.same
        ∙ ap₂ (λ (bs : List ℕ) (t : Streaming). record old.text { bytes = bs; given = t.given; kept = t.kept })
        (append_assoc old.text.bytes h.taken takes.taken) (sym text))
        (texts ∙ ap (λ (v : PieceReplacing). v.texts) takes.same ∙ ap (λ (v : PieceReplacing). v.texts) h.same)

    -- and then what is due is written
    pub next-replaced : {new : PieceReplacing} {end : List ℕ} {count : ℕ} (rest : List ℕ) → rest ≡ drop filled now_out
        → WritesDue next rest end count new → IsReplacedSoFar new → (tail : List ℕ) → tail ≡ []
        → HasReplaced old piece out (take filled now_out ++ (end ++ tail)) (filled + count) new others
    next-replaced {new} {end} {count} rest rest-is writes so-far tail nothing =
        let front = take filled now_out in
        let due = take count next.due in
        let cut = drop count rest in
        let f = h.fits in let z = h.sized in let l = writes.least in
        let long = length-take-le filled now_out (omega arith) in
        let due-long = length-take-le count next.due (omega arith) in
        let rest-long = ap (length {A = ℕ}) rest-is ∙ length-drop filled now_out in
        let end-is : end ++ tail ≡ due ++ cut = ap (λ (t : List ℕ). end ++ t) nothing ∙ append-nil end ∙ writes.copied in
        record {
          taken = taken';
          parted = parted-so;
          closed = closed-so;
          same = same-so new (ap (λ (v : PieceReplacing). v.text) writes.same) (ap (λ (v : PieceReplacing). v.texts) writes.same);
          written = ap (λ (v : PieceReplacing). v.written) writes.same
              ∙ ap (λ (t : List ℕ). t ++ due) (takes.written ∙ h.written)
              ∙ append_assoc old.written front due
              ∙ ap (λ (t : List ℕ). old.written ++ t)
              (sym (ap (λ (t : List ℕ). take (filled + count) (front ++ t)) end-is
              ∙ ap (λ (n : ℕ). take (n + count) (front ++ (due ++ cut))) (sym long)
              ∙ take-append-add front (due ++ cut) count
              ∙ ap (λ (t : List ℕ). front ++ t)
              (ap (λ (n : ℕ). take n (due ++ cut)) (sym due-long) ∙ take-append_seam due cut)));
          fits = omega (arith, rest-long);
          stays = ap (λ (t : List ℕ). drop (filled + count) (front ++ t)) end-is
              ∙ ap (λ (n : ℕ). drop (n + count) (front ++ (due ++ cut))) (sym long)
              ∙ drop-append-add front (due ++ cut) count
              ∙ ap (λ (n : ℕ). drop n (due ++ cut)) (sym due-long)
              ∙ drop-append_seam due cut
              ∙ ap (drop count) (rest-is ∙ h.stays)
              ∙ drop-drop count filled out;
          sized = (let a = length-append front (end ++ tail) in
              let b = ap (length {A = ℕ}) end-is ∙ length-append due cut in
              let c = length-drop count rest in omega (arith, long, due-long, rest-long));
          clear = λ room. ap (λ (v : PieceReplacing). v.due) writes.same
              ∙ drop_all count next.due (omega (arith, rest-long));
          so_far = so-far;
        }

    -- or nothing is left to do
    pub last-replaced : goes_on ≡ false → IsReplacedSoFar next → TakesAndReplaces old piece out now_out filled next others
    last-replaced done so-far = record {
      taken = taken';
      parted = parted-so;
      closed = closed-so;
      same = same-so next refl refl;
      written = takes.written ∙ h.written;
      fits = h.fits;
      stays = h.stays;
      begins = begins-replaced so-far;
      all = λ room. all-replaced so-far (takes.clear done) (takes.all done);
      whole = λ room open'. takes.whole done (phase-is ∙ open');
      small = so-far.small;
    }

  -- or there is room for no more
  pub full-replaced : {now : PieceReplacing} {now_out : List ℕ} {filled : ℕ} {left : List ℕ}
      → HasReplaced old piece out now_out filled now left → length now_out ≤ filled → TakesAndReplaces old piece out now_out filled now left
  full-replaced {now} {now_out} {filled} h full = record {
    taken = h.taken;
    parted = h.parted;
    closed = h.closed;
    same = h.same;
    written = h.written;
    fits = h.fits;
    stays = h.stays;
    begins = begins-replaced h.so_far;
    all = λ room. absurd (let z = h.sized in omega arith);
    whole = λ room. absurd (let z = h.sized in omega arith);
    small = h.so_far.small;
  }
