-- A replacement of a text in pieces goes on: what is due is written, bytes are taken, and its window moves on with it.
use Rattle.ac_util.proofs.Prelude.{◌≡◌, ◌⊎◌, ℕ, ◌+◌, ◌-◌, ◌<◌, ◌≤◌, Bool, true, false, List, [], ◌++◌, length, length-append, length-drop, length-take-le, nil_from_length, take, drop, min, take-take, refl, ap, sym, subst, ◌∙◌, arith, Option, None, Some, IfSome, append-nil, append_assoc, slice_index_or, slice_range, take-append-drop, take-append_seam, drop-append-le, drop-drop, drop-take, drop-nil, inl, inr}
use Rattle.ac_util.specs.Prelude.{Occurrence, stream_result}
use Rattle.ac_util.specs.Patterns.{usize_max}
use Rattle.ac_automaton.specs.Pieces.{TakesOn}
use Rattle.ac_automaton.specs.Streams.{GivesMatch, HasGivenSettled, Streaming}
use Rattle.ac_automaton.specs.declared.automaton.stream_settled.Phase.TheVariants.{Open}
use Rattle.ac_search.specs.PieceReplacements.{IsDueFrom, IsReplacedSoFar, IsReplacing, PieceReplacing, TakesSome, WritesDue, due_after, due_bytes, due_text, replacing_by, steps_left, text_after}
use Rattle.ac_search.specs.Windows.{HasMadeRoom, WindowView, shown}
use Rattle.ac_search.specs.declared.ahocorasick.piece_replacer.Due.{Due}
use Rattle.ac_search.specs.declared.ahocorasick.piece_replacer.DueText.{DueText}
use Rattle.ac_search.proofs.DueWrites.{AreCopied, both-copied}
use Rattle.ac_search.proofs.PieceReplacements.{place-within, so-far-on, so-far-past}

-- what is due once a match was given, and where none is settled
abbrev pub due-of-match : ℕ → ℕ → ℕ → Due
due-of-match from to number = record { from = from; to = to; text = Some (record { number = number; at = 0 }) }

abbrev pub due-of-gap : ℕ → ℕ → Due
due-of-gap from to = record { from = from; to = to; text = None }

module _ {old : PieceReplacing} {w : WindowView} {due : Due} {ended : Bool} (h : IsReplacing old w due ended) where
  -- the window reaches to the end of what was taken
  reach : w.front + length w.bytes ≡ length old.text.bytes
  reach =
      let l = ap (length {A = ℕ}) h.window.shows ∙ length-drop w.front old.text.bytes in
      let within = place-within h.so_far in
      let a = h.window.begins in let b = h.window.ordered in let c = h.window.before in omega arith

  pub kept-shown : old.text.kept ≤ w.front + length w.bytes
  kept-shown = let within = place-within h.so_far in omega (arith, reach)

  pub due-shown : due.to ≤ w.front + length w.bytes
  due-shown = let within = place-within h.so_far in let c = h.window.before in omega (arith, reach)

  module _ (clear : old.due ≡ []) {moved : WindowView} (m : HasMadeRoom w old.text.kept moved) (piece : List ℕ) (most room : ℕ)
      (most-is : most ≡ min (length piece) room) (room-is : length moved.bytes + room ≡ moved.size) {found : Option Occurrence}
      {text : Streaming} {left : List ℕ} (takes : TakesOn old.text (take most piece) found text left) where
    abbrev count : ℕ
    count = most - length left

    long : length (take most piece) ≡ most
    long = length-take-le most piece (omega arith)

    sum : length takes.taken + length left ≡ most
    sum = let l = sym (length-append takes.taken left) ∙ sym (ap (length {A = ℕ}) takes.parted) ∙ long in omega arith

    pub long-left : length left ≤ most
    long-left = omega (arith, sum)

    taken-is : take count piece ≡ takes.taken
    taken-is =
        sym (take-take count most piece (omega arith))
        ∙ ap (take count) takes.parted
        ∙ ap (λ (n : ℕ). take n (takes.taken ++ left)) (let e : count ≡ length takes.taken = omega (arith, sum) in e)
        ∙ take-append_seam takes.taken left

    pub fits-more : length moved.bytes + length (take count piece) ≤ moved.size
    fits-more = let l = ap (length {A = ℕ}) taken-is in omega (arith, sum)

    abbrev rest : List ℕ
    rest = drop count piece

    parted-so : piece ≡ takes.taken ++ rest
    parted-so = sym (take-append-drop count piece) ∙ ap (λ (t : List ℕ). t ++ rest) taken-is

    rest-long : length rest ≡ length piece - length takes.taken
    rest-long = length-drop count piece ∙ ap (λ (n : ℕ). length piece - n) (let e : count ≡ length takes.taken = omega (arith, sum) in e)

    abbrev onward : WindowView
    onward = record moved { bytes = moved.bytes ++ take count piece }

    abbrev bytes' : List ℕ
    bytes' = old.text.bytes ++ takes.taken

    shows-so : onward.bytes ≡ drop onward.front bytes'
    shows-so =
        let a = m.onward in let b = m.before in let within = place-within h.so_far in
        ap (λ (t : List ℕ). t ++ take count piece)
        (m.bytes
        ∙ ap (drop (moved.front - w.front)) h.window.shows
        ∙ drop-drop (moved.front - w.front) w.front old.text.bytes
        ∙ ap (λ (n : ℕ). drop n old.text.bytes) (let e : w.front + (moved.front - w.front) ≡ moved.front = omega arith in e))
        ∙ ap (λ (t : List ℕ). drop moved.front old.text.bytes ++ t) taken-is
        ∙ sym (drop-append-le moved.front old.text.bytes takes.taken (omega arith))

    small' : {t : Streaming} → text ≡ t → length t.bytes ≤ usize_max
    small' is = subst (λ (t : Streaming). length t.bytes ≤ usize_max) is takes.small

    longer : length bytes' ≡ length old.text.bytes + length takes.taken
    longer = length-append old.text.bytes takes.taken

    -- the next match was given
    module _ (o : Occurrence) (gives : GivesMatch (record old.text { bytes = bytes' }) o text) (is : found ≡ Some o) where
      abbrev so : Streaming
      so = record old.text { bytes = bytes'; given = old.text.given + 1; kept = o.end }

      abbrev due-past : Due
      due-past = due-of-match old.text.kept o.start o.pattern

      abbrev past-by : Streaming → PieceReplacing
      past-by t = replacing_by t old.texts old.written (due_bytes t.bytes old.texts due-past)

      so-far-so : IsReplacedSoFar (past-by so)
      so-far-so =
          so-far-past old h.so_far clear h.served [] [] takes.taken takes.closed (small' gives.same) o gives.next gives.after gives.ordered gives.within
          (λ open' more. (let s = takes.stays (ap (λ (t : Streaming). t.phase) gives.same ∙ open') more in
          subst (λ (t : Streaming). take t.given (stream_result t.built (t.bytes ++ more)) ≡ take t.given (stream_result t.built t.bytes)) gives.same s))

      replacing-so : IsReplacing (past-by so) onward due-past ended
      replacing-so = record {
        closed = h.closed;
        served = h.served;
        many = h.many;
        window = record {
          shows = shows-so;
          begins = m.before;
          ordered = gives.after;
          before = gives.ordered;
          text = (let n = gives.numbered in let k = h.many in (omega arith, omega arith));
          fits = (let f = h.window.fits in let s = m.size in omega arith);
        };
        so_far = so-far-so;
      }

      pub replacing-past : (from to number : ℕ) → from ≡ old.text.kept → to ≡ o.start → number ≡ o.pattern → (pushed : WindowView)
          → pushed ≡ onward
          → IsReplacing (replacing_by text old.texts old.written (due_bytes text.bytes old.texts (due-of-match from to number))) pushed
          (due-of-match from to number) ended
      replacing-past from to number e f n pushed p =
          rw (e, f, n, p) (subst (λ (t : Streaming). IsReplacing (past-by t) onward due-past ended) (sym gives.same) replacing-so)

      less-so : steps_left (past-by so) rest < steps_left old piece
      less-so =
          let counted = subst (λ (t : Streaming). t.given ≤ usize_max) gives.same gives.counted in
          let a = gives.after in let b = gives.ordered in let c = gives.within in let within = place-within h.so_far in
          omega (arith, longer, rest-long, sum)

      takes-so : TakesSome old piece true (past-by so) rest
      takes-so = record {
        taken = takes.taken;
        parted = parted-so;
        closed = takes.closed;
        same = refl;
        written = refl;
        small = small' gives.same;
        less = λ _. less-so;
        clear = λ e. absurd (cc);
        all = λ e. absurd (cc);
        whole = λ e. absurd (cc);
      }

      pub takes-past : (from to number : ℕ) → from ≡ old.text.kept → to ≡ o.start → number ≡ o.pattern → (v : PieceReplacing) → old ≡ v
          → (others : List ℕ) → others ≡ rest
          → TakesSome v piece true (replacing_by text old.texts old.written (due_bytes text.bytes old.texts (due-of-match from to number))) others
      takes-past from to number e f n v is others o' =
          rw (e, f, n, o') (subst (λ (u : PieceReplacing). TakesSome u piece true (past-by text) rest) is
          (subst (λ (t : Streaming). TakesSome old piece true (past-by t) rest) (sym gives.same) takes-so))

    -- or none is settled
    module _ (gives : HasGivenSettled (record old.text { bytes = bytes' }) text) where
      abbrev on-so : Streaming
      on-so = record old.text { bytes = bytes'; kept = text.kept }

      abbrev due-on : ℕ → Due
      due-on to = due-of-gap old.text.kept to

      abbrev on-by : Streaming → PieceReplacing
      on-by t = replacing_by t old.texts old.written (due_bytes t.bytes old.texts (due-on text.kept))

      replacing-so' : IsReplacing (on-by on-so) onward (due-on text.kept) ended
      replacing-so' = record {
        closed = h.closed;
        served = h.served;
        many = h.many;
        window = record {
          shows = shows-so;
          begins = m.before;
          ordered = gives.onward;
          before = omega arith;
          text = tt;
          fits = (let f = h.window.fits in let s = m.size in omega arith);
        };
        so_far = so-far-on old h.so_far clear h.served [] [] takes.taken takes.closed (small' gives.same) text.kept gives.all gives.onward;
      }

      pub replacing-on : (from to : ℕ) → from ≡ old.text.kept → to ≡ text.kept → (pushed : WindowView) → pushed ≡ onward
          → IsReplacing (replacing_by text old.texts old.written (due_bytes text.bytes old.texts (due-of-gap from to))) pushed
          (due-of-gap from to) ended
      replacing-on from to e f pushed p =
          rw (e, f, p) (subst (λ (t : Streaming). IsReplacing (on-by t) onward (due-on text.kept) ended) (sym gives.same) replacing-so')

      module _ (has-room : (length moved.bytes < moved.size) ⊎ (moved.front ≡ old.text.kept)) (goes_on : Bool)
          (when : goes_on ≡ true → (0 < count) ⊎ (old.text.kept < text.kept)) (unless : goes_on ≡ false → (count ≡ 0) × (text.kept ≤ old.text.kept))
          (none : found ≡ None) where
        less-on : (0 < count) ⊎ (old.text.kept < text.kept) → steps_left (on-by on-so) rest < steps_left old piece
        less-on (inl some) =
            let a = gives.onward in let c = gives.all.within in let within = place-within h.so_far in omega (arith, longer, rest-long, sum)
        less-on (inr further) =
            let c = gives.all.within in let within = place-within h.so_far in omega (arith, longer, rest-long, sum)

        -- where nothing was taken of some bytes, there was no room for any, so what is settled lies further on
        whole-so : (count ≡ 0) × (text.kept ≤ old.text.kept) → old.text.phase ≡ Open → (rest ≡ []) ⊎ (length bytes' ≡ usize_max)
        whole-so (nothing, still) open' = by (takes.whole none open')
          where
            by : (left ≡ []) ⊎ (length text.bytes ≡ usize_max) → (rest ≡ []) ⊎ (length bytes' ≡ usize_max)
            by (inl is) =
                let l = ap (length {A = ℕ}) is in
                inl (nil_from_length rest (none-left has-room))
              where
                none-left : (length moved.bytes < moved.size) ⊎ (moved.front ≡ old.text.kept) → length rest ≡ 0
                none-left (inl some) = let l = ap (length {A = ℕ}) is in omega (arith, rest-long, sum)
                none-left (inr full) =
                    let l = ap (length {A = ℕ}) is in
                    let near = gives.all.near in
                    let fits = h.window.fits in
                    let size = m.size in
                    let shown = ap (length {A = ℕ}) shows-so ∙ length-drop moved.front bytes' in
                    let joined = length-append moved.bytes (take count piece) in
                    let taken = ap (length {A = ℕ}) taken-is in
                    omega (arith, rest-long, sum, longer)
            by (inr most') = inr (ap (λ (t : Streaming). length t.bytes) (sym gives.same) ∙ most')

        takes-so' : TakesSome old piece goes_on (on-by on-so) rest
        takes-so' = record {
          taken = takes.taken;
          parted = parted-so;
          closed = takes.closed;
          same = refl;
          written = refl;
          small = small' gives.same;
          less = λ e. less-on (when e);
          clear = λ e. nothing-due (unless e).1;
          all = λ _. gives.all;
          whole = λ e. whole-so (unless e);
        }
          where
            nothing-due : text.kept ≤ old.text.kept → slice_range bytes' old.text.kept text.kept ++ [] ≡ []
            nothing-due still =
                append-nil (slice_range bytes' old.text.kept text.kept)
                ∙ ap (λ (n : ℕ). take n (drop old.text.kept bytes')) (let e : text.kept - old.text.kept ≡ 0 = omega arith in e)

        pub takes-on : (from to : ℕ) → from ≡ old.text.kept → to ≡ text.kept → (v : PieceReplacing) → old ≡ v → (others : List ℕ)
            → others ≡ rest
            → TakesSome v piece goes_on (replacing_by text old.texts old.written (due_bytes text.bytes old.texts (due-of-gap from to))) others
        takes-on from to e f v is others o' =
            rw (e, f, o') (subst (λ (u : PieceReplacing). TakesSome u piece goes_on (on-by text) rest) is
            (subst (λ (t : Streaming). TakesSome old piece goes_on (on-by t) rest) (sym gives.same) takes-so'))

-- what is due is written, first of the text and then of the text of a match
module _ {text : Streaming} {texts : List (List ℕ)} {written : List ℕ} {w : WindowView} {due : Due} {ended : Bool}
    (h : IsReplacing (replacing_by text texts written (due_bytes text.bytes texts due)) w due ended) where
  abbrev gap : List ℕ
  gap = slice_range text.bytes due.from due.to

  abbrev of-match : List ℕ
  of-match = due_text texts due.text

  shown-is : shown w due.from due.to ≡ gap
  shown-is =
      let a = h.window.begins in let b = h.window.ordered in
      ap (λ (t : List ℕ). slice_range t (due.from - w.front) (due.to - w.front)) h.window.shows
      ∙ ap (take (due.to - w.front - (due.from - w.front)))
      (drop-drop (due.from - w.front) w.front text.bytes
      ∙ ap (λ (n : ℕ). drop n text.bytes) (let e : w.front + (due.from - w.front) ≡ due.from = omega arith in e))
      ∙ ap (λ (n : ℕ). take n (drop due.from text.bytes)) (let e : due.to - w.front - (due.from - w.front) ≡ due.to - due.from = omega arith in e)

  gap-long : length gap ≡ due.to - due.from
  gap-long =
      let within = place-within h.so_far in let b = h.window.before in let o = h.window.ordered in let l = length-drop due.from text.bytes in
      length-take-le (due.to - due.from) (drop due.from text.bytes) (omega arith)

  -- what is left of both
  text-left : (t : Option DueText) (count : ℕ) → due_text texts (text_after t count) ≡ drop count (due_text texts t)
  text-left None count = sym (drop-nil count)
  text-left (Some t) count = sym (drop-drop count t.at (slice_index_or texts t.number []))

  gap-left : (filled : ℕ) → filled ≤ length gap → slice_range text.bytes (due.from + filled) due.to ≡ drop filled gap
  gap-left filled few =
      ap (λ (n : ℕ). take n (drop (due.from + filled) text.bytes)) (let e : due.to - (due.from + filled) ≡ due.to - due.from - filled = omega arith in e)
      ∙ ap (take (due.to - due.from - filled)) (sym (drop-drop filled due.from text.bytes))
      ∙ sym (drop-take filled (due.to - due.from - filled) (drop due.from text.bytes))
      ∙ ap (λ (n : ℕ). drop filled (take n (drop due.from text.bytes)))
      (let e : filled + (due.to - due.from - filled) ≡ due.to - due.from = omega (arith, gap-long) in e)

  module _ (out between seen given-text copied tail : List ℕ) (filled count : ℕ) (seen-is : seen ≡ shown w due.from due.to)
      (least : filled ≡ min (length seen) (length out)) (first : between ≡ take filled seen ++ drop filled out) (rest' : List ℕ)
      (rest-is : rest' ≡ drop filled between) (text-is : given-text ≡ of-match) (least' : count ≡ min (length given-text) (length rest'))
      (second : copied ≡ take count given-text ++ drop count rest') (tail-is : tail ≡ []) where
    abbrev new-out : List ℕ
    new-out = take filled between ++ (copied ++ tail)

    least-gap : filled ≡ min (length gap) (length out)
    least-gap = least ∙ ap (λ (t : List ℕ). min (length t) (length out)) (seen-is ∙ shown-is)

    out-is : new-out ≡ take filled between ++ (take count of-match ++ drop count (drop filled between))
    out-is =
        ap (λ (t : List ℕ). take filled between ++ t)
        (ap (λ (t : List ℕ). copied ++ t) tail-is
        ∙ append-nil copied
        ∙ second
        ∙ ap (λ (t : List ℕ). take count t ++ drop count rest') text-is
        ∙ ap (λ (t : List ℕ). take count of-match ++ drop count t) rest-is)

    both : AreCopied gap of-match out new-out filled count
    both =
        subst (λ (t : List ℕ). AreCopied gap of-match out t filled count) (sym out-is)
        (both-copied gap of-match out between filled count least-gap
        (first ∙ ap (λ (t : List ℕ). take filled t ++ drop filled out) (seen-is ∙ shown-is))
        (least' ∙ ap (λ (t : List ℕ). min (length t) (length rest')) text-is ∙ ap (λ (t : List ℕ). min (length of-match) (length t)) rest-is))

    abbrev all-due : List ℕ
    all-due = gap ++ of-match

    due-left : due_bytes text.bytes texts (due_after due filled count) ≡ drop (filled + count) all-due
    due-left =
        ap (λ (t : List ℕ). t ++ due_text texts (text_after due.text count)) (gap-left filled (omega (arith, least-gap)))
        ∙ ap (λ (t : List ℕ). drop filled gap ++ t) (text-left due.text count)
        ∙ sym both.left

    written-so : take (filled + count) new-out ≡ take (filled + count) all-due
    written-so =
        let few = both.least in
        let l = length-take-le (filled + count) all-due (omega arith) in
        ap (take (filled + count)) both.copied
        ∙ ap (λ (n : ℕ). take n (take (filled + count) all-due ++ drop (filled + count) out)) (sym l)
        ∙ take-append_seam (take (filled + count) all-due) (drop (filled + count) out)

    module _ (now : List ℕ) (now-is : now ≡ written ++ take (filled + count) new-out) (left : Due) (left-is : left ≡ due_after due filled count) where
      abbrev new : PieceReplacing
      new = replacing_by text texts now (due_bytes text.bytes texts left)

      pub so-far-left : IsReplacedSoFar new
      so-far-left = record {
        goes_on = h.so_far.goes_on;
        small = h.so_far.small;
        is = ap (λ (t : List ℕ). t ++ due_bytes text.bytes texts left) (now-is ∙ ap (λ (t : List ℕ). written ++ t) written-so)
            ∙ ap (λ (d : Due). written ++ take (filled + count) all-due ++ due_bytes text.bytes texts d) left-is
            ∙ ap (λ (t : List ℕ). written ++ take (filled + count) all-due ++ t) due-left
            ∙ append_assoc written (take (filled + count) all-due) (drop (filled + count) all-due)
            ∙ ap (λ (t : List ℕ). written ++ t) (take-append-drop (filled + count) all-due)
            ∙ h.so_far.is;
        apart = h.so_far.apart;
      }

      text-within : (t : Option DueText) → IfSome t (IsDueFrom texts) → count ≤ length (due_text texts t)
          → IfSome (text_after t count) (IsDueFrom texts)
      text-within None from few = tt
      text-within (Some t) from few = (from.0, (let l = length-drop t.at (slice_index_or texts t.number []) in let a = from.1 in omega arith))

      pub replacing-left : IsReplacing new w left ended
      replacing-left =
          subst (λ (d : Due). IsReplacing (replacing_by text texts now (due_bytes text.bytes texts left)) w d ended) (sym left-is)
          (record {
            closed = h.closed;
            served = h.served;
            many = h.many;
            window = record {
              shows = h.window.shows;
              begins = (let b = h.window.begins in omega arith);
              ordered = (let o = h.window.ordered in omega (arith, least-gap, gap-long));
              before = h.window.before;
              text = text-within due.text h.window.text
                  (let e = least' in let l = ap (length {A = ℕ}) text-is in omega arith);
              fits = h.window.fits;
            };
            so_far = so-far-left;
          })

      pub writes-due : (v : PieceReplacing) → replacing_by text texts written (due_bytes text.bytes texts due) ≡ v
          → WritesDue v out new-out (filled + count) new
      writes-due v is =
          subst (λ (u : PieceReplacing). WritesDue u out new-out (filled + count) new) is
          (record {
            least = both.least;
            copied = both.copied;
            same =
                ap (λ (d : Due). replacing_by text texts now (due_bytes text.bytes texts d)) left-is
                ∙ ap (replacing_by text texts now) due-left
                ∙ ap (λ (t : List ℕ). replacing_by text texts t (drop (filled + count) all-due))
                (now-is ∙ ap (λ (t : List ℕ). written ++ t) written-so);
          })
