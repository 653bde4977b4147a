-- The search of a text that comes in pieces: where it stands, by where a search over a stream stands whose buffer has all that came.
use Rattle.ac_util.proofs.Prelude.{◌≡◌, ◌⊎◌, ℕ, zero, suc, ◌+◌, ◌-◌, ◌<◌, ◌≤◌, Bool, false, not, List, [], ◌∷◌, ◌++◌, length, length-append, length-drop, length-take-le, take, drop, get_or, slice_index, Option, Some, None, IfSome, inl, inr, refl, ap, sym, subst, ◌∙◌, arith, append-nil, drop-append-le, get_or-drop, false≢true, common_steps, drop_all}
use Rattle.std.proofs.Math.Seq.{take-length}
use Rattle.std.proofs.lemmas.List.{drop_more, get_or-take}
use Rattle.ac_automaton.specs.Prelude.{AutomatonView, CommitsView, Cursor, Ended, Failed, HasCommits, Inside, IsFed, IsStreaming, KeepsGiven, MatchKind, No, Node, Open, Phase, ReadsThrough, Standard, StopsAt, Streaming, hand_bytes, in_hand, inside_of, is_leftmost, matches_so_far, most_kept, most_of, pending, pick, plain_of, reached, scan_of, step, step_of, stream_from, streaming_by, stream_refusal, stream_result, text, ChainMatch, ChainRest, usize_max}
use Rattle.ac_util.proofs.Reached.{reached-alive, step-reached}
use Rattle.ac_util.proofs.Walks.{next-none, walk_after-None}
use Rattle.ac_automaton.proofs.PieceReads.{reads-moved}
use Rattle.ac_automaton.proofs.StreamBegins.{stream_result-nothing, streams-begin}
use Rattle.ac_automaton.proofs.StreamFilling.{given-stays, streams-longer}
use Rattle.ac_automaton.proofs.StreamReads.{IsReadOn, comes, none-more, stands-there, u}

-- a search of a text of which nothing came
pub fed-begins : (a : AutomatonView) (c : CommitsView) → HasCommits a c → stream_refusal a.built ≡ None → (start : ℕ)
    → a.stands No start (Some []) → (stops : Bool) (reserve : ℕ) → stops ≡ not (is_leftmost a.built.kind)
    → reserve ≡ most_kept a.built → {begun given : ℕ} {bytes : List ℕ} → begun ≡ 0 → given ≡ 0 → bytes ≡ []
    → IsFed a c (inside_of start stops reserve bytes start 0 None begun) None (streaming_by a.built bytes given 0 0 Open 0)
fed-begins a c commits allowed start starts stops reserve s r {begun} {given} {bytes} b n none =
    rw (b, n, none) (record {
      commits = commits;
      streams = streams-begin (a.stands No) c.chains a.built allowed start starts [] stops reserve 0 0 [] s r refl refl refl;
      unfailed = λ failed. absurd (cc);
      followed = refl;
      empty = λ standard. refl;
      all = λ standard. sym (ap length (stream_result-nothing a.built allowed));
    })

-- after the end it stands where it stood
pub fed-ended : {a : AutomatonView} {c : CommitsView} {i : Inside} {hand : Option ℕ} {v : Streaming} → IsFed a c i hand v
    → IsFed a c i hand (record v { phase = Ended })
fed-ended {a} {c} {i} {hand} {v} h =
    let inv = h.streams in let p = inv.past in
    record {
      commits = h.commits;
      streams = record {
        allowed = inv.allowed;
        starts = inv.starts;
        stops = inv.stops;
        reserve = inv.reserve;
        filled = inv.filled;
        counted = inv.counted;
        small = inv.small;
        holds = inv.holds;
        within = inv.within;
        read = inv.read;
        past = record {
          node = p.node;
          there = p.there;
          after = λ more last. p.after more (λ ended. last refl);
          sound = p.sound;
          near = p.near;
          first = λ standard. record { left = (p.first standard).left; none = (p.first standard).none };
        };
        given = record {
          matches = inv.given.matches;
          count = inv.given.count;
          end = inv.given.end;
          last = inv.given.last;
          walks = λ more last. inv.given.walks more (λ ended. last refl);
        };
        all = λ ended standard. h.all standard;
        failed = λ failed. absurd (cc);
        few = inv.few;
        in_buffer = inv.in_buffer;
        after = inv.after;
        kept_within = inv.kept_within;
        back = elim inv.back [
          | inl back ↦ inl back
          | inr over ↦ inr (record { ended = refl; whole = over.whole; none = over.none })
        ];
      };
      unfailed = λ failed. absurd (cc);
      followed = h.followed;
      empty = h.empty;
      all = h.all;
    }

-- under Standard all matches were given of what was followed whole
pub all-given : {stands : ℕ → Node → Type 0} {chains : List (List ChainMatch)} {i : Inside} {v : Streaming}
    → (inv : IsStreaming stands chains i v) → v.front + i.at ≡ length v.bytes → v.built.kind ≡ Standard
    → v.given ≡ length (matches_so_far v)
all-given {stands} {chains} {i} {v} inv whole standard = sym (ap length whole-given ∙ inv.given.count)
  where
    none : pick v.built.kind (stream_from v.built v.bytes i.begun) ≡ None
    none =
        sym (ap (λ (k : ℕ). pick v.built.kind (record (stream_from v.built v.bytes i.begun) { high = k })) whole)
        ∙ (inv.past.first standard).none

    whole-given : stream_result v.built v.bytes ≡ inv.given.matches
    whole-given = grind (arith, common_steps, append-nil v.bytes, none, append-nil inv.given.matches, walk_after-None, next-none)

module _ (a : AutomatonView) (c : CommitsView) {start : ℕ} {stops : Bool} {reserve : ℕ} {bytes : List ℕ} {state read : ℕ}
    {rest : Option ChainRest} {begun : ℕ} {hand : Option ℕ} {given kept : ℕ} {phase : Phase}
    (h : IsFed a c (inside_of start stops reserve bytes state read rest begun) hand (streaming_by a.built bytes given 0 kept phase 0)) where
  -- it has followed all bytes but the one in hand
  pub read-long : length bytes ≡ read + in_hand hand
  read-long =
      let w = h.streams.within in let d = length-drop read bytes in
      let l : length (drop read bytes) ≡ in_hand hand = ap length h.followed ∙ by hand in omega arith
    where
      by : (b : Option ℕ) → length (hand_bytes b) ≡ in_hand b
      by None = refl
      by (Some b) = refl

  -- only a search that stops at no match has a byte in hand
  pub hand-past : IfSome hand (λ b. stops ≡ false)
  hand-past = by hand h.empty a.built.kind refl
    where
      by : (b : Option ℕ) → (a.built.kind ≡ Standard → b ≡ None) → (k : MatchKind) → a.built.kind ≡ k → IfSome b (λ b. stops ≡ false)
      by None empty k is = tt
      by (Some b) empty Standard is = absurd (let none = empty is in let no : Some b ≡ None = none in cc)
      by (Some b) empty k is = h.streams.stops ∙ ap (λ (k : MatchKind). not (is_leftmost k)) is

  module _ (piece : List ℕ) (most : ℕ) (most-is : most ≡ most_of phase (read + in_hand hand) (length piece)) {there : Cursor}
      {byte : Option ℕ}
      (reads : ReadsThrough (scan_of a No stops) (hand_bytes hand ++ take most piece) (record { state = state; at = 0 }) there byte)
    where
      most-few : most ≤ length piece
      most-few = by phase most-is
        where
          by : (p : Phase) → most ≡ most_of p (read + in_hand hand) (length piece) → most ≤ length piece
          by Open is = omega arith
          by Ended is = omega arith
          by Failed is = omega arith

      most-counted : most + length bytes ≤ usize_max
      most-counted =
          let l = read-long in let s = h.streams.small in by phase most-is
        where
          by : (p : Phase) → most ≡ most_of p (read + in_hand hand) (length piece) → most + length bytes ≤ usize_max
          by Open is = let l = read-long in let s = h.streams.small in omega arith
          by Ended is = let s = h.streams.small in omega arith
          by Failed is = let s = h.streams.small in omega arith

      abbrev text-read : List ℕ
      text-read = hand_bytes hand ++ take most piece

      pub text-long : length text-read ≡ in_hand hand + most
      text-long = by hand
        where
          by : (b : Option ℕ) → length (hand_bytes b ++ take most piece) ≡ in_hand b + most
          by None = let l = length-take-le most piece most-few in omega arith
          by (Some b) = let l = length-take-le most piece most-few in omega arith

      -- of these bytes so many were taken, with the one in hand before
      read-few : there.at + in_hand byte ≤ in_hand hand + most
      read-few = by byte reads.hand
        where
          by : (b : Option ℕ) → IfSome b (λ b. (there.at < length text-read) × (b ≡ slice_index text-read there.at))
              → there.at + in_hand b ≤ in_hand hand + most
          by None there' = let w = reads.within (omega arith) in let l = text-long in omega arith
          by (Some b) there' = let b = there'.0 in let l = text-long in omega arith

      pub hand-first : in_hand hand ≤ there.at + in_hand byte
      hand-first = by hand text-long hand-past byte reads.enough
        where
          by : (b : Option ℕ) → length text-read ≡ in_hand b + most → IfSome b (λ b. stops ≡ false) → (x : Option ℕ)
              → (x ≡ None → (length text-read ≤ there.at) ⊎ StopsAt (scan_of a No stops) there.state)
              → in_hand b ≤ there.at + in_hand x
          by None l past x enough = omega arith
          by (Some b) l past None enough = elim (enough refl) [
            | inl over ↦ omega arith
            | inr stopped ↦ absurd (false≢true (sym past ∙ stopped.0))
          ]
          by (Some b) l past (Some x) enough = omega arith

      abbrev pub count : ℕ
      count = there.at + in_hand byte - in_hand hand

      pub count-few : count ≤ most
      count-few = let f = read-few in omega arith

      pub count-piece : count ≤ length piece
      count-piece = let f = read-few in let m = most-few in omega arith

      abbrev pub more : List ℕ
      more = take count piece

      pub more-long : length more ≡ count
      more-long = length-take-le count piece count-piece

      -- they are the last of all that came
      bytes-same : (k : ℕ) → k < there.at + in_hand byte → slice_index (bytes ++ more) (read + k) ≡ slice_index text-read k
      bytes-same k before =
          sym (get_or-drop read (bytes ++ more) k 0)
          ∙ ap (λ (bs : List ℕ). get_or bs k 0)
          (drop-append-le read bytes more (let w = h.streams.within in omega arith)
          ∙ ap (λ (bs : List ℕ). bs ++ more) h.followed)
          ∙ by hand k (let f = hand-first in omega arith)
        where
          in-piece : (k : ℕ) → k < count → get_or (take count piece) k 0 ≡ get_or (take most piece) k 0
          in-piece k before =
              get_or-take count piece k 0 before ∙ sym (get_or-take most piece k 0 (let f = count-few in omega arith))

          by : (b : Option ℕ) (k : ℕ) → k < in_hand b + count → get_or (hand_bytes b ++ more) k 0 ≡ get_or (hand_bytes b ++ take most piece) k 0
          by None k before = in-piece k (omega arith)
          by (Some b) zero before = refl
          by (Some b) (suc k) before = in-piece k (omega arith)

      bytes-long : length (bytes ++ more) ≡ read + there.at + in_hand byte
      bytes-long = let l = length-append bytes more in let m = more-long in let r = read-long in let f = hand-first in omega arith

      pub bytes-small : length (bytes ++ more) ≤ usize_max
      bytes-small = let l = length-append bytes more in let m = more-long in let f = count-few in let c = most-counted in omega arith

      -- after the end nothing was taken
      pub closed-none : phase ≡ Ended → more ≡ []
      closed-none ended =
          let f = count-few in
          let none : most ≡ 0 = most-is ∙ ap (λ (p : Phase). most_of p (read + in_hand hand) (length piece)) ended in
          ap (λ (n : ℕ). take n piece) (let e : count ≡ 0 = omega arith in e)

      -- so it stands with them where it stood
      pub inv-more : IsStreaming (a.stands No) c.chains (inside_of start stops reserve (bytes ++ more) state read rest begun)
          (streaming_by a.built (bytes ++ more) given 0 kept phase 0)
      inv-more = by phase refl
        where
          by : (p : Phase) → phase ≡ p → IsStreaming (a.stands No) c.chains (inside_of start stops reserve (bytes ++ more) state read rest begun)
              (streaming_by a.built (bytes ++ more) given 0 kept phase 0)
          by Open is =
              streams-longer (a.stands No) c.chains (inside_of start stops reserve bytes state read rest begun)
              (streaming_by a.built bytes given 0 kept phase 0) h.streams is (bytes ++ more) (length (bytes ++ more)) 0 more (omega arith)
              (length-append bytes more) (take-length (bytes ++ more)) bytes-small
          by Ended is =
              subst (λ (bs : List ℕ). IsStreaming (a.stands No) c.chains (inside_of start stops reserve bs state read rest begun)
              (streaming_by a.built bs given 0 kept phase 0))
              (sym (ap (λ (bs : List ℕ). bytes ++ bs) (closed-none is) ∙ append-nil bytes)) h.streams
          by Failed is = absurd (h.unfailed is)

      -- the matches that were given stay
      pub kept-given : KeepsGiven (streaming_by a.built bytes given 0 kept phase 0) (bytes ++ more)
      kept-given = by phase refl
        where
          by : (p : Phase) → phase ≡ p → KeepsGiven (streaming_by a.built bytes given 0 kept phase 0) (bytes ++ more)
          by Open is =
              given-stays (a.stands No) c.chains (inside_of start stops reserve bytes state read rest begun)
              (streaming_by a.built bytes given 0 kept phase 0) h.streams more (λ ended. absurd (let no = sym is ∙ ended in cc))
          by Ended is =
              ap (λ (bs : List ℕ). take given (stream_result a.built bs))
              (ap (λ (bs : List ℕ). bytes ++ bs) (closed-none is) ∙ append-nil bytes)
          by Failed is = absurd (h.unfailed is)

      module _ (left : pending a.built c.chains rest ≡ []) where
        -- it has read on in them
        pub on-more : IsReadOn a c.chains (inside_of start stops reserve (bytes ++ more) state read rest begun)
            (record { state = there.state; at = read + there.at }) byte
        on-more = record {
          left = left;
          shown = bytes ++ more;
          shows = sym (take-length (bytes ++ more));
          reads =
              subst (λ (k : ℕ). ReadsThrough (scan_of a No stops) (bytes ++ more) (record { state = state; at = k })
              (record { state = there.state; at = read + there.at }) byte) (let e : read + 0 ≡ read = omega arith in e)
              (reads-moved reads (bytes ++ more) read bytes-long bytes-same);
          long = refl;
        }

        -- no byte leads to the dead node under Standard
        pub hand-empty : a.built.kind ≡ Standard → byte ≡ None
        hand-empty standard = by byte refl
          where
            by : (b : Option ℕ) → byte ≡ b → b ≡ None
            by None is = refl
            by (Some b) is =
                let s = stands-there a inv-more on-more [] (none-more a inv-more) in
                let dead = subst (λ (x : Option ℕ). IfSome x (λ b. step_of a.built No (Some (u a inv-more on-more)) b ≡ None)) is
                (comes a inv-more on-more).dead in
                absurd (never (u a inv-more on-more) _ s.stands _ dead)
              where
                never : (w text : List ℕ) → reached a.built.kind (plain_of a.built) No text ≡ Some w → (b : ℕ)
                    → step a.built.kind (plain_of a.built) No (Some w) b ≡ None → ⊥
                never w text is b dead =
                    reached-alive a.built.kind (plain_of a.built) (ap is_leftmost standard) (text ++ b ∷ [])
                    (sym (step-reached a.built.kind (plain_of a.built) No text b)
                    ∙ ap (λ (x : Node). step a.built.kind (plain_of a.built) No x b) is ∙ dead)

        -- what it hasn't followed is in hand
        pub followed-more : drop (read + there.at) (bytes ++ more) ≡ hand_bytes byte
        followed-more = by byte refl bytes-long reads.hand
          where
            by : (b : Option ℕ) → byte ≡ b → length (bytes ++ more) ≡ read + there.at + in_hand b
                → IfSome b (λ b. (there.at < length text-read) × (b ≡ slice_index text-read there.at))
                → drop (read + there.at) (bytes ++ more) ≡ hand_bytes b
            by None is l hand = drop_all (read + there.at) (bytes ++ more) (omega arith)
            by (Some b) is l hand =
                drop_more (bytes ++ more) (read + there.at) 0 (omega arith)
                ∙ ap (λ (xs : List ℕ). slice_index (bytes ++ more) (read + there.at) ∷ xs)
                (drop_all (read + there.at + 1) (bytes ++ more) (omega arith))
                ∙ ap (λ (x : ℕ). x ∷ []) (bytes-same there.at (let e = ap in_hand is in omega arith) ∙ sym hand.1)
