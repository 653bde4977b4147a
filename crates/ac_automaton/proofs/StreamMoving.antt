-- The search of a stream makes room in its buffer: the bytes that are kept are moved to the front, or none is.
use Rattle.ac_util.proofs.Prelude.{◌≡◌, ℕ, ◌+◌, ◌-◌, ◌≤◌, ◌⊎◌, List, ◌++◌, length, length-drop, take, drop, max, inl, inr, refl, ap, sym, subst, ◌∙◌, arith, copy_within, drop-drop, drop-take, drop_all, paste}
use Rattle.ac_automaton.specs.Prelude.{StandsAfter, Node, pick, Ended, Inside, HasSearchedAll, IsStreaming, Open, plain_of, stream_from, Streaming, pending, ChainMatch}
use Rattle.std.proofs.lemmas.List.Edits.{take-paste}

module _ (stands : ℕ → Node → Type 0) (chains : List (List ChainMatch)) (i : Inside) (v : Streaming)
    (inv : IsStreaming stands chains i v) where
  -- what stands at the front of the buffer once the bytes that are kept were moved there
  pub kept-moved : take (i.filled - (v.kept - v.front)) (copy_within i.buffer (v.kept - v.front) i.filled 0) ≡ drop v.kept v.bytes
  kept-moved =
      let from = v.kept - v.front in let n = i.filled - from in
      let c = inv.counted in let k = inv.kept_within in let f = inv.filled in let b = inv.in_buffer in
      ap (λ (m : ℕ). take m (paste i.buffer 0 (drop from i.buffer) n)) (let e : n ≡ 0 + n = omega arith in e)
      ∙ take-paste i.buffer 0 (drop from i.buffer) n (omega arith) (let l = length-drop from i.buffer in omega arith)
      ∙ sym (drop-take from n i.buffer)
      ∙ ap (λ (m : ℕ). drop from (take m i.buffer)) (let e : from + n ≡ i.filled = omega arith in e)
      ∙ ap (drop from) inv.holds
      ∙ drop-drop from v.front v.bytes
      ∙ ap (λ (m : ℕ). drop m v.bytes) (let e : v.front + from ≡ v.kept = omega arith in e)

  -- the bytes that are kept were moved to the front of the buffer
  module _ (open' : v.phase ≡ Open) (buffer : List ℕ) (long : length buffer ≡ length i.buffer)
      (holds : take (i.filled - (v.kept - v.front)) buffer ≡ drop v.kept v.bytes) where
    back-there : v.kept ≤ max i.begun (v.front + i.at - i.reserve)
    back-there = elim inv.back [ inl back ↦ back | inr over ↦ absurd (let no = sym open' ∙ over.ended in cc) ]

    -- the search stands where it did
    place-there : v.front + i.at ≡ v.kept + (i.at - (v.kept - v.front))
    place-there = let b = back-there in let f = inv.in_buffer in let r = inv.read in omega arith

    abbrev at-there : ℕ
    at-there = i.at - (v.kept - v.front)

    pub streams-moved : IsStreaming stands chains (record i { buffer = buffer; filled = i.filled - (v.kept - v.front); at = at-there })
        (record v { front = v.kept; buffer = length buffer })
    streams-moved =
        let place = place-there in let c = inv.counted in let f = inv.in_buffer in let k = inv.kept_within in
        let w = inv.within in let n = inv.filled in
        record {
          allowed = inv.allowed;
          starts = inv.starts;
          stops = inv.stops;
          reserve = inv.reserve;
          filled = omega arith;
          counted = omega arith;
          small = inv.small;
          holds = holds;
          within = omega arith;
          read = (let r = inv.read in omega arith);
          past =
              let p = inv.past in
              record {
                node = p.node;
                there = p.there;
                after = λ more last.
                    subst (λ (n : ℕ). StandsAfter v.built.kind (plain_of v.built) (stream_from v.built (v.bytes ++ more) i.begun)
                    (pending v.built chains i.rest) p.node n) place (p.after more last);
                sound = p.sound;
                near = p.near;
                first = λ standard. record {
                  left = (p.first standard).left;
                  none = sym (ap (λ (n : ℕ). pick v.built.kind (record (stream_from v.built v.bytes i.begun) { high = n })) place)
                      ∙ (p.first standard).none;
                };
              };
          given = inv.given;
          all = inv.all;
          failed = λ failed. absurd (let no = sym open' ∙ failed in cc);
          few = inv.few;
          in_buffer = omega arith;
          after = inv.after;
          kept_within = inv.kept_within;
          back = inl (let b = back-there in omega arith);
        }

  -- the end was met, no byte is kept, and the buffer was cleared
  module _ (ended : v.phase ≡ Ended) (none : v.kept ≡ length v.bytes) (buffer : List ℕ) where
    -- the search has read all of it
    all-read : v.front + i.at ≡ v.kept + 0
    all-read =
        let c = inv.counted in let w = inv.within in let r = inv.read in
        elim inv.back [ inl back ↦ omega arith | inr over ↦ let whole = over.whole in omega arith ]

    back-read : (v.kept ≤ max i.begun (v.kept + 0 - i.reserve)) ⊎ HasSearchedAll (record i { buffer = buffer; filled = 0; at = 0 })
        (record v { front = v.kept; buffer = length buffer })
    back-read =
        let place = all-read in
        elim inv.back [
          | inl back ↦ inl (omega arith)
          | inr over ↦ inr (record { ended = ended; whole = refl; none = over.none })
        ]

    pub streams-cleared : IsStreaming stands chains (record i { buffer = buffer; filled = 0; at = 0 })
        (record v { front = v.kept; buffer = length buffer })
    streams-cleared =
        let place = all-read in let c = inv.counted in
        record {
          allowed = inv.allowed;
          starts = inv.starts;
          stops = inv.stops;
          reserve = inv.reserve;
          filled = omega arith;
          counted = omega arith;
          small = inv.small;
          holds = sym (drop_all v.kept v.bytes (omega arith));
          within = omega arith;
          read = (let r = inv.read in omega arith);
          past =
              let p = inv.past in
              record {
                node = p.node;
                there = p.there;
                after = λ more last.
                    subst (λ (n : ℕ). StandsAfter v.built.kind (plain_of v.built) (stream_from v.built (v.bytes ++ more) i.begun)
                    (pending v.built chains i.rest) p.node n) place (p.after more last);
                sound = p.sound;
                near = p.near;
                first = λ standard. record {
                  left = (p.first standard).left;
                  none = sym (ap (λ (n : ℕ). pick v.built.kind (record (stream_from v.built v.bytes i.begun) { high = n })) place)
                      ∙ (p.first standard).none;
                };
              };
          given = inv.given;
          all = inv.all;
          failed = λ failed. absurd (let no = sym ended ∙ failed in cc);
          few = inv.few;
          in_buffer = omega arith;
          after = inv.after;
          kept_within = inv.kept_within;
          back = back-read;
        }
