-- The search of a stream: how its buffer is filled, and what is seen then.
use Rattle.ac_util.proofs.Prelude.{All, ◌≡◌, ◌≢◌, ℕ, ◌+◌, ◌-◌, ◌≤◌, List, ◌++◌, length, length-append, length-drop, take, drop, max, inl, inr, refl, ap, sym, subst, ◌∙◌, arith, append_assoc, slice_range, rules, append-nil, drop-append-le, drop-drop, length-take-le, take-add, common_steps}
use Rattle.ac_automaton.specs.Prelude.{StandsAfter, Built, from, Node, stream_result, usize_max, Ended, Failed, HasGivenSettled, Inside, IsAllGiven, IsStreaming, Open, Phase, plain_of, StandsPast, stream_from, Streaming, pending, HasGivenFirst, ChainMatch, IsBuffered, buffer_len, longest_len}
use Rattle.ac_util.proofs.Longer.{pick-extended}
use Rattle.ac_util.proofs.Spans.{take_drop_take}

-- what was given in some bytes is given in more
module _ (built : Built) (bytes more : List ℕ) (begun : ℕ) where
  given-longer : (phase : Phase) (given : ℕ) → (phase ≡ Ended → ⊥) → HasGivenFirst phase built bytes given begun
      → HasGivenFirst phase built (bytes ++ more) given begun
  given-longer phase given goes_on g = grind (arith, common_steps)

module _ (stands : ℕ → Node → Type 0) (chains : List (List ChainMatch)) (i : Inside) (v : Streaming)
    (inv : IsStreaming stands chains i v) where
  -- the matches that were given stay as they are, whichever bytes follow
  pub given-stays : (more : List ℕ) → (v.phase ≡ Ended → ⊥)
      → take v.given (stream_result v.built (v.bytes ++ more)) ≡ take v.given (stream_result v.built v.bytes)
  given-stays more goes_on = grind (arith, common_steps, append-nil v.bytes)

  -- the stream goes on
  module _ (open' : v.phase ≡ Open) where
    goes-on : v.phase ≡ Ended → ⊥
    goes-on ended = absurd (let no = sym open' ∙ ended in cc)

    back-open : v.kept ≤ max i.begun (v.front + i.at - i.reserve)
    back-open = elim inv.back [ inl back ↦ back | inr over ↦ absurd (goes-on over.ended) ]

    -- whatever stands in the buffer, a search stands where it did
    past-then : (buffer : List ℕ) (phase : Phase) (size : ℕ)
        → StandsPast stands chains (record i { buffer = buffer }) (record v { phase = phase; buffer = size })
    past-then buffer phase size =
        let p = inv.past in
        record {
          node = p.node;
          there = p.there;
          after = λ more last. p.after more (λ ended. absurd (goes-on ended));
          sound = p.sound;
          near = p.near;
          first = λ standard. record { left = (p.first standard).left; none = (p.first standard).none };
        }

    -- in more bytes too
    past-longer : (buffer : List ℕ) (n size : ℕ) (more : List ℕ)
        → StandsPast stands chains (record i { buffer = buffer; filled = n }) (record v { bytes = v.bytes ++ more; buffer = size })
    past-longer buffer n size more =
        let p = inv.past in
        record {
          node = p.node;
          there = p.there;
          after = λ others last.
              subst (λ (bs : List ℕ). StandsAfter v.built.kind (plain_of v.built) (stream_from v.built bs i.begun)
              (pending v.built chains i.rest) p.node (v.front + i.at)) (sym (append_assoc v.bytes more others))
              (p.after (more ++ others) (λ ended. absurd (goes-on ended)));
          sound = p.sound;
          near = p.near;
          first = λ standard.
              let w = inv.within in let c = inv.counted in
              record {
                left = (p.first standard).left;
                none = pick-extended (record (stream_from v.built v.bytes i.begun) { high = v.front + i.at }) more inv.read (omega arith)
                    v.built.kind
                    ∙ (p.first standard).none;
              };
        }

    -- so where more bytes have come, which stand in the buffer
    module _ (buffer : List ℕ) (filled size : ℕ) (more : List ℕ) (fits : filled ≤ length buffer) (as_long : filled ≡ i.filled + length more)
        (holds : take filled buffer ≡ drop v.front (v.bytes ++ more)) (small : length (v.bytes ++ more) ≤ usize_max) where
      pub streams-longer : IsStreaming stands chains (record i { buffer = buffer; filled = filled })
          (record v { bytes = v.bytes ++ more; buffer = size })
      streams-longer =
          let c = inv.counted in let l = length-append v.bytes more in let w = inv.within in let k = inv.kept_within in
          record {
            allowed = inv.allowed;
            starts = inv.starts;
            stops = inv.stops;
            reserve = inv.reserve;
            filled = fits;
            counted = omega arith;
            small = small;
            holds = holds;
            within = omega arith;
            read = inv.read;
            past = past-longer buffer filled size more;
            given = given-longer v.built v.bytes more i.begun v.phase v.given goes-on inv.given;
            all = λ ended. absurd (goes-on ended);
            failed = λ failed. absurd (let no = sym open' ∙ failed in cc);
            few = inv.few;
            in_buffer = inv.in_buffer;
            after = inv.after;
            kept_within = omega arith;
            back = inl back-open;
          }

    -- what stands in the buffer after the bytes read has changed
    module _ (buffer : List ℕ) (long : length buffer ≡ length i.buffer) (keeps : take i.filled buffer ≡ take i.filled i.buffer) where
      -- and no bytes came
      pub streams-still : IsStreaming stands chains (record i { buffer = buffer }) (record v { buffer = length buffer })
      streams-still = search (rules, past-then buffer v.phase (length buffer), back-open)

      -- the stream was closed
      module _ (settled : IsAllGiven v) (phase : Phase) (closed : phase ≢ Open) where
        pub streams-closed : IsStreaming stands chains (record i { buffer = buffer }) (record v { phase = phase; buffer = length buffer })
        streams-closed = by phase closed
          where
            by : (p : Phase) → p ≢ Open → IsStreaming stands chains (record i { buffer = buffer }) (record v { phase = p; buffer = length buffer })
            by Open closed = absurd (closed refl)
            by Ended closed = search (rules, past-then buffer Ended (length buffer), back-open)
            by Failed closed = search (rules, past-then buffer Failed (length buffer), back-open)

      -- and some of that is bytes more
      module _ (n : ℕ) (more : List ℕ) (reads : more ≡ take n (drop i.filled buffer)) (room : n ≤ length (drop i.filled buffer))
          (small : v.front + i.filled + n ≤ usize_max) (bytes : List ℕ) (added : bytes ≡ v.bytes ++ more) where
        size-more : length more ≡ n
        size-more = ap length reads ∙ length-take-le n (drop i.filled buffer) room

        filled : IsStreaming stands chains (record i { buffer = buffer; filled = i.filled + n })
            (record v { bytes = v.bytes ++ more; buffer = length buffer })
        filled =
            let size = size-more in let c = inv.counted in let l = length-append v.bytes more in
            let d = length-drop i.filled buffer in let k = inv.kept_within in let b = inv.in_buffer in let f = inv.filled in
            streams-longer buffer (i.filled + n) (length buffer) more (omega arith) (omega arith)
            (take-add i.filled n buffer
            ∙ ap (λ (xs : List ℕ). xs ++ take n (drop i.filled buffer)) (keeps ∙ inv.holds)
            ∙ ap (λ (xs : List ℕ). drop v.front v.bytes ++ xs) (sym reads)
            ∙ sym (drop-append-le v.front v.bytes more (omega arith))) (omega arith)

        pub streams-filled : IsStreaming stands chains (record i { buffer = buffer; filled = i.filled + n })
            (record v { bytes = bytes; buffer = length buffer })
        streams-filled = search (rules, filled)

-- a buffer that stays as it is stays one
pub buffer-same : {i j : Inside} {v w : Streaming} → IsBuffered i v → j.buffer ≡ i.buffer → j.filled ≡ i.filled → w.buffer ≡ v.buffer
    → w.built ≡ v.built → w.phase ≡ v.phase → IsBuffered j w
buffer-same {i} {j} {v} {w} was buffer filled size same phase = record {
  size = size ∙ was.size ∙ ap length (sym buffer);
  long = ap length buffer ∙ was.long ∙ ap (λ (b : Built). buffer_len b.patterns) (sym same);
  fits = (let f = was.fits in let l = ap length buffer in let b = ap (λ (b : Built). longest_len b.patterns) same in omega arith);
  clear = λ closed.
      subst (λ (bs : List ℕ). All (λ b. b ≡ 0) bs) (ap (λ (bs : List ℕ). drop i.filled bs) (sym buffer) ∙ ap (λ (n : ℕ). drop n j.buffer) (sym filled))
      (was.clear (λ open'. closed (phase ∙ open')));
}

-- it stays one as long as it is, while the stream goes on
pub buffer-open : {i j : Inside} {v w : Streaming} → length j.buffer ≡ length i.buffer → w.buffer ≡ length j.buffer
    → w.built ≡ v.built → w.phase ≡ Open → IsBuffered i v → IsBuffered j w
buffer-open {i} {j} {v} {w} long size same open' was = record {
  size = size;
  long = long ∙ was.long ∙ ap (λ (b : Built). buffer_len b.patterns) (sym same);
  fits = (let f = was.fits in let b = ap (λ (b : Built). longest_len b.patterns) same in omega arith);
  clear = λ closed. absurd (closed open');
}

-- or where it is cleared after the bytes that are left
pub buffer-closed : {i j : Inside} {v w : Streaming} → length j.buffer ≡ length i.buffer → w.buffer ≡ length j.buffer
    → w.built ≡ v.built → All (λ b. b ≡ 0) (drop j.filled j.buffer) → IsBuffered i v → IsBuffered j w
buffer-closed {i} {j} {v} {w} long size same clear was = record {
  size = size;
  long = long ∙ was.long ∙ ap (λ (b : Built). buffer_len b.patterns) (sym same);
  fits = (let f = was.fits in let b = ap (λ (b : Built). longest_len b.patterns) same in omega arith);
  clear = λ _. clear;
}

-- where all matches that are settled were given, they are given wherever the buffer begins
pub given-as : (old inside : Streaming) (front : ℕ) → inside ≡ record old { front = front } → IsAllGiven old → IsAllGiven inside
given-as old inside front is all =
    subst IsAllGiven (sym is) (record { settled = all.settled; near = all.near; next = all.next; within = all.within })

-- what is seen once it was closed after a read, by what was seen before that and once there was room
pub closed-as : (old mid inside : Streaming) → inside ≡ mid → mid ≡ record old { front = mid.front }
    → (n : ℕ) → n ≡ inside.buffer → (phase : Phase) → {new : Streaming}
    → new ≡ record inside { buffer = n; front = inside.kept; phase = phase }
    → new ≡ record old { front = old.kept; phase = phase }
closed-as old mid inside is same n size phase closed = cc

-- what is seen once all that was read was searched, and a read has failed then
pub failed-as : (old between searched new : Streaming) (more : List ℕ)
    → between ≡ record old { bytes = old.bytes ++ more; front = between.front; kept = between.kept }
    → HasGivenSettled between searched → new ≡ record searched { front = searched.kept; phase = Failed }
    → new ≡ record old { bytes = old.bytes ++ more; front = new.kept; kept = new.kept; phase = Failed }
failed-as old between searched new more read all failed = grind (arith, common_steps)

-- bytes of the stream as they stand in the buffer
pub buffer-shows : (bytes buffer : List ℕ) (front filled start end : ℕ) → length bytes ≡ front + filled
    → take filled buffer ≡ drop front bytes → front ≤ start → start ≤ end → end ≤ length bytes
    → take (end - front - (start - front)) (drop (start - front) buffer) ≡ slice_range bytes start end
buffer-shows bytes buffer front filled start end counted holds from ordered within =
    ap (λ (n : ℕ). take n (drop (start - front) buffer)) (let e : end - front - (start - front) ≡ end - start = omega arith in e)
    ∙ sym (take_drop_take (end - start) (start - front) filled buffer (omega arith))
    ∙ ap (λ (xs : List ℕ). take (end - start) (drop (start - front) xs)) holds
    ∙ ap (take (end - start)) (drop-drop (start - front) front bytes
    ∙ ap (λ (k : ℕ). drop k bytes) (let e : front + (start - front) ≡ start = omega arith in e))

-- what is seen once more bytes have come
pub filled-as : (old mid inside : Streaming) → inside ≡ mid → mid ≡ record old { front = mid.front }
    → (n : ℕ) → n ≡ inside.buffer → (bytes more : List ℕ) → bytes ≡ inside.bytes ++ more
    → record inside { bytes = bytes; buffer = n } ≡ record old { bytes = old.bytes ++ more; front = inside.front }
filled-as old mid inside is same n size bytes more added = cc
