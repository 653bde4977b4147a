-- The search of a text that comes in pieces gives its next match, or none: what it has taken, and where it stands then.
use Rattle.ac_util.proofs.Prelude.{◌≡◌, ◌≢◌, ◌⊎◌, ℕ, ◌+◌, ◌-◌, ◌≤◌, Bool, true, max, min, List, [], ◌∷◌, ◌++◌, length, length-append, take, drop, Option, Some, None, option_map, inl, inr, refl, ap, sym, subst, ◌∙◌, arith, append-nil, drop_all, take-append-drop, length-drop, cases_lt}
use Rattle.ac_automaton.specs.Prelude.{AutomatonView, CommitsView, Cursor, Given, GivesAt, GivesMatch, Inside, IsFed, IsStreaming, KeepsGiven, No, Node, Occurrence, Open, Phase, ReadsThrough, SettlesBy, Standard, Streaming, TakesFrom, TakesOn, hand_bytes, in_hand, inside_of, kept_from, matches_of, matches_so_far, most_of, pattern_of, pending, place_of, scan_of, streaming_by, stream_result, ChainRest, first_given, usize_max}
use Rattle.ac_automaton.proofs.OnwardGives.{gives-first}
use Rattle.ac_automaton.proofs.Pieces.{all-given, bytes-small, closed-none, count, count-few, followed-more, hand-empty, inv-more, kept-given, more, more-long, on-more, read-long, text-long}
use Rattle.ac_automaton.proofs.StreamFilling.{given-stays}
use Rattle.ac_automaton.proofs.StreamKnown.{gives-known, streams-known}
use Rattle.ac_automaton.proofs.StreamNext.{holds-so, settles-so}
use Rattle.ac_automaton.proofs.StreamReads.{HoldsBack, Settles, gives-given, gives-nothing, streams-given, streams-nothing}

-- while more may come, the matches that were given are the first ones of every longer text
stays-fed : {a : AutomatonView} {c : CommitsView} {i : Inside} {hand : Option ℕ} {v : Streaming} → IsFed a c i hand v
    → v.phase ≡ Open → (others : List ℕ) → KeepsGiven v (v.bytes ++ others)
stays-fed {a} {c} {i} {hand} {v} h open' others =
    given-stays (a.stands No) c.chains i v h.streams others (λ ended. absurd (let no = sym open' ∙ ended in cc))

-- the same search, by an automaton and commits that are seen alike
pub fed-as : {A : Type 0} (seen : A → AutomatonView) {x y : A} → x ≡ y → {c d : CommitsView} → c ≡ d → {s t : ℕ} → s ≡ t
    → {p q : Bool} → p ≡ q → {bytes these : List ℕ} → bytes ≡ these → {reserve state read : ℕ} {rest : Option ChainRest} {begun : ℕ}
    {hand : Option ℕ} {given kept : ℕ} {phase : Phase}
    → IsFed (seen x) c (inside_of s p reserve bytes state read rest begun) hand (streaming_by (seen x).built bytes given 0 kept phase 0)
    → IsFed (seen y) d (inside_of t q reserve these state read rest begun) hand (streaming_by (seen y).built these given 0 kept phase 0)
fed-as seen e f g h b is = rw (e, f, g, h, b) at is

-- and the same of what a call takes
pub takes-as : {A : Type 0} (seen : A → AutomatonView) {x y : A} → x ≡ y → {v w : Streaming} → v ≡ w
    → {bytes these those piece left new_left : List ℕ} → those ≡ these → left ≡ new_left → {given given' kept kept' : ℕ} {phase : Phase}
    {result : Option Occurrence} → v ≡ streaming_by (seen y).built bytes given 0 kept phase 0
    → TakesOn (streaming_by (seen x).built bytes given 0 kept phase 0) piece result (streaming_by (seen x).built those given' 0 kept' phase 0) left
    → TakesOn w piece result (streaming_by (seen y).built these given' 0 kept' phase 0) new_left
takes-as seen e f b l is takes = rw (← f, is, ← e, ← b, ← l) takes

module _ (a : AutomatonView) (c : CommitsView) {start : ℕ} {stops : Bool} {reserve : ℕ} {bytes : List ℕ} {state read : ℕ}
    {rest : Option ChainRest} {begun : ℕ} {hand : Option ℕ} {given kept : ℕ} {phase : Phase}
    (h : IsFed a c (inside_of start stops reserve bytes state read rest begun) hand (streaming_by a.built bytes given 0 kept phase 0)) where
  abbrev old : Streaming
  old = streaming_by a.built bytes given 0 kept phase 0

  -- the next match of a chain
  module _ (m : Occurrence) (left : Option ChainRest)
      (takes : (r : ChainRest) × (rest ≡ Some r) × TakesFrom a.built c.chains r m left) (begun' kept' given' : ℕ)
      (begins-at : begun' ≡ m.end) (is_kept : kept' ≡ m.end) (one_more : given' ≡ given + 1) where
    abbrev known : Streaming
    known = streaming_by a.built bytes given' 0 kept' phase 0

    never : a.built.kind ≡ Standard → ⊥
    never standard = absurd (let none = (h.streams.past.first standard).left in let some = takes.1 in let no : None ≡ Some takes.0 = sym none ∙ some in cc)

    pub fed-known : IsFed a c (inside_of start stops reserve bytes state read left begun') hand known
    fed-known = record {
      commits = h.commits;
      streams = streams-known a h.streams h.unfailed m left takes begun' kept' given' begins-at is_kept one_more;
      unfailed = h.unfailed;
      followed = h.followed;
      empty = h.empty;
      all = λ standard. absurd (never standard);
    }

    pub takes-known : (piece : List ℕ) → TakesOn old piece (Some m) known piece
    takes-known piece = record {
      taken = [];
      parted = refl;
      closed = λ ended. refl;
      kept = ap (λ (bs : List ℕ). take given (stream_result a.built bs)) (append-nil bytes);
      gives =
          subst (λ (bs : List ℕ). GivesMatch (record old { bytes = bs }) m known) (sym (append-nil bytes))
          (gives-known a h.streams h.unfailed m left takes begun' kept' given' begins-at is_kept one_more);
      whole = λ none. absurd (let no : Some m ≡ None = none in cc);
      small = h.streams.small;
      stays = λ open' others. stays-fed fed-known open' others;
      all = λ standard. absurd (never standard);
    }

  -- or a piece was read
  module _ (piece : List ℕ) (most : ℕ) (most-is : most ≡ most_of phase (read + in_hand hand) (length piece)) {there : Cursor}
      {byte : Option ℕ}
      (reads : ReadsThrough (scan_of a No stops) (hand_bytes hand ++ take most piece) (record { state = state; at = 0 }) there byte)
      (left : pending a.built c.chains rest ≡ [])
      (lists : (u : Node) → a.stands No there.state u → a.listed there.state ≡ matches_of a.built No u) where
    abbrev these : List ℕ
    these = bytes ++ more a c h piece most most-is reads

    abbrev seen : Streaming
    seen = streaming_by a.built these given 0 kept phase 0

    abbrev inside : Inside
    inside = inside_of start stops reserve these state read rest begun

    abbrev here : Cursor
    here = record { state = there.state; at = read + there.at }

    abbrev inv : IsStreaming (a.stands No) c.chains inside seen
    inv = inv-more a c h piece most most-is reads

    parted-so : piece ≡ more a c h piece most most-is reads ++ drop (count a c h piece most most-is reads) piece
    parted-so = sym (take-append-drop (count a c h piece most most-is reads) piece)

    -- and what is settled is given
    module _ (gave : Given) (is : SettlesBy stops byte phase × GivesAt a c.chains start stops there.state (Some gave)) where
      pub settled : Settles a c.chains inside seen here gave
      settled = settles-so a inv (on-more a c h piece most most-is reads left) lists gave is

      abbrev pub end : ℕ
      end = read + there.at - gave.rest

      pub within : gave.rest ≤ read + there.at
      within = let w = settled.rest in omega arith

      pub fits : length (pattern_of a.built.patterns gave.pattern) ≤ end
      fits = let f = settled.fits in omega arith

      end-is : 0 + (read + there.at) - gave.rest ≡ end
      end-is = omega arith

      module _ (chain : Option ChainRest)
          (chain-is : chain ≡ option_map (λ (number : ℕ). record { chain = number; index = 0; base = end }) gave.chain)
          (begun' given' : ℕ) (begins-at : begun' ≡ end) (one_more : given' ≡ given + 1) where
        abbrev given-so : Streaming
        given-so = streaming_by a.built these given' 0 end phase 0

        chain-so : chain ≡ option_map (λ (number : ℕ). record { chain = number; index = 0; base = 0 + (read + there.at) - gave.rest }) gave.chain
        chain-so =
            subst (λ (n : ℕ). chain ≡ option_map (λ (number : ℕ). record { chain = number; index = 0; base = n }) gave.chain) (sym end-is) chain-is

        streams-so : IsStreaming (a.stands No) c.chains (inside_of start stops reserve these gave.next (read + there.at) chain begun') given-so
        streams-so =
            subst (λ (n : ℕ). IsStreaming (a.stands No) c.chains (inside_of start stops reserve these gave.next (read + there.at) chain begun')
            (streaming_by a.built these given' 0 n phase 0)) end-is
            (streams-given inv h.unfailed settled chain chain-so begun' given' (begins-at ∙ sym end-is) one_more)

        all-so : a.built.kind ≡ Standard → given' ≡ length (matches_so_far given-so)
        all-so standard =
            let empty = hand-empty a c h piece most most-is reads left standard in
            let f = ap (length {A = ℕ}) (followed-more a c h piece most most-is reads left ∙ ap hand_bytes empty) in
            let w = streams-so.within in let d = length-drop (read + there.at) these in
            all-given streams-so (omega arith) standard

        pub fed-given : IsFed a c (inside_of start stops reserve these gave.next (read + there.at) chain begun') byte given-so
        fed-given = record {
          commits = h.commits;
          streams = streams-so;
          unfailed = h.unfailed;
          followed = followed-more a c h piece most most-is reads left;
          empty = hand-empty a c h piece most most-is reads left;
          all = all-so;
        }

        pub takes-given : (found : Occurrence) → found ≡ place_of a.built end gave.pattern
            → TakesOn old piece (Some found) given-so (drop (count a c h piece most most-is reads) piece)
        takes-given found found-is = record {
          taken = more a c h piece most most-is reads;
          parted = parted-so;
          closed = closed-none a c h piece most most-is reads;
          kept = kept-given a c h piece most most-is reads;
          gives =
              subst (λ (n : ℕ). GivesMatch seen found (streaming_by a.built these given' 0 n phase 0)) end-is
              (gives-given inv h.unfailed settled found given'
              (found-is ∙ ap (λ (n : ℕ). place_of a.built n gave.pattern) (sym end-is)) one_more);
          whole = λ none. absurd (let no : Some found ≡ None = none in cc);
          small = bytes-small a c h piece most most-is reads;
          stays = λ open' others. stays-fed fed-given open' others;
          all = all-so;
        }

    -- or nothing is
    module _ (none : SettlesBy stops byte phase → GivesAt a c.chains start stops there.state None) (kept' : ℕ)
        (is : kept' ≡ kept_from phase (max kept (read + there.at - reserve)) (read + there.at)) (chain : Option ChainRest)
        (chain-is : chain ≡ None) where
      held : HoldsBack a c.chains inside seen inv here
      held = holds-so a inv (on-more a c h piece most most-is reads left) lists none

      zero : 0 + (read + there.at) ≡ read + there.at
      zero = omega arith

      kept-so : kept' ≡ kept_from phase (max kept (0 + (read + there.at) - reserve)) (0 + (read + there.at))
      kept-so = subst (λ (n : ℕ). kept' ≡ kept_from phase (max kept (n - reserve)) n) (sym zero) is

      abbrev held-so : Streaming
      held-so = streaming_by a.built these given 0 kept' phase 0

      streams-held : IsStreaming (a.stands No) c.chains (inside_of start stops reserve these there.state (read + there.at) chain begun) held-so
      streams-held = streams-nothing inv held kept' kept-so chain chain-is

      all-held : a.built.kind ≡ Standard → given ≡ length (matches_so_far held-so)
      all-held standard =
          let e = held.all in let w = streams-held.within in all-given streams-held (omega arith) standard

      pub fed-held : IsFed a c (inside_of start stops reserve these there.state (read + there.at) chain begun) byte held-so
      fed-held = record {
        commits = h.commits;
        streams = streams-held;
        unfailed = h.unfailed;
        followed = followed-more a c h piece most most-is reads left;
        empty = hand-empty a c h piece most most-is reads left;
        all = all-held;
      }

      -- nothing is in hand
      no-hand : byte ≡ None
      no-hand = by byte (followed-more a c h piece most most-is reads left)
        where
          by : (b : Option ℕ) → drop (read + there.at) these ≡ hand_bytes b → b ≡ None
          by None f = refl
          by (Some b) f =
              let l : length (drop (read + there.at) these) ≡ 1 = ap length f in let e = held.all in
              let d = length-drop (read + there.at) these in absurd (omega arith)

      no-match : a.listed there.state ≢ [] → stops ≡ true → ⊥
      no-match some first = some (by (a.listed there.state) (gives-first a c.chains start there.state stops None first (none (inl first))))
        where
          by : (ns : List ℕ) → None ≡ first_given start ns → ns ≡ []
          by [] is = refl
          by (n ∷ ns) is = absurd (cc)

      -- so the piece was taken as far as it could be
      whole-taken : phase ≡ Open → (drop (count a c h piece most most-is reads) piece ≡ []) ⊎ (length these ≡ usize_max)
      whole-taken open' = elim (reads.enough no-hand) [
        | inl over ↦
            let none-in-hand = ap in_hand no-hand in let few = count-few a c h piece most most-is reads in
            let m : most ≡ min (length piece) (usize_max - (read + in_hand hand)) =
            most-is ∙ ap (λ (p : Phase). most_of p (read + in_hand hand) (length piece)) open' in
            let l = more-long a c h piece most most-is reads in let r = read-long a c h in
            let long = length-append bytes (more a c h piece most most-is reads) in let s = h.streams.small in
            let t = text-long a c h piece most most-is reads in
            elim (cases_lt (count a c h piece most most-is reads) (length piece)) [
              | inl less ↦ inr (omega arith)
              | inr all ↦ inl (drop_all (count a c h piece most most-is reads) piece (omega arith))
            ]
        | inr stopped ↦ absurd (no-match stopped.1 stopped.0)
      ]

      pub takes-none : TakesOn old piece None held-so (drop (count a c h piece most most-is reads) piece)
      takes-none = record {
        taken = more a c h piece most most-is reads;
        parted = parted-so;
        closed = closed-none a c h piece most most-is reads;
        kept = kept-given a c h piece most most-is reads;
        gives = gives-nothing inv held kept' kept-so;
        whole = λ gone. whole-taken;
        small = bytes-small a c h piece most most-is reads;
        stays = λ open' others. stays-fed fed-held open' others;
        all = all-held;
      }
