-- The search of a stream reads on in its buffer: where it stands then, whichever bytes follow; and what it gives or keeps there.
use Rattle.ac_util.proofs.Prelude.{◌≡◌, ◌≢◌, ◌⊎◌, ℕ, ◌+◌, ◌-◌, ◌<◌, ◌≤◌, true, List, [], ◌++◌, length, length-append, take, max, get_or, slice_index, IfSome, inl, inr, refl, ap, sym, subst, ◌∙◌, arith, Option, Some, None, option_map, get_or-drop, get_or_append_left}
use Rattle.ac_automaton.specs.Prelude.{CouldNextChange, IsSearchFor, StandsAfter, is_leftmost, IsSettledBy, LeftmostFirst, LeftmostLongest, MatchKind, No, Occurrence, pattern_of, pick, Search, Standard, AutomatonView, Cursor, Ended, Failed, GivesMatch, HasGivenSettled, Inside, IsStreaming, kept_from, Phase, place_of, plain_of, StandsPast, stream_from, Streaming, pending, Arrives, StopsAt, scan_of, ReadsThrough, streaming_by, ChainMatch, ChainRest, Given}
use Rattle.ac_automaton.proofs.LedWalks.{IsSearchOf, led-after}
use Rattle.ac_automaton.proofs.StreamGiving.{gives, streams-then}
use Rattle.ac_automaton.proofs.StreamKeeping.{gives-settled, kept_open, streams-on}

-- a kind is Standard or a leftmost one
pub by-kind : (kind : MatchKind) → (kind ≡ Standard) ⊎ (is_leftmost kind ≡ true)
by-kind Standard = inl refl
by-kind LeftmostFirst = inr refl
by-kind LeftmostLongest = inr refl

-- a search has no match of a chain left, and has read on in the bytes that are filled
pub record IsReadOn (a : AutomatonView) (chains : List (List ChainMatch)) (i : Inside) (there : Cursor) (byte : Option ℕ)
    : Type 0 where
  pub left : pending a.built chains i.rest ≡ []
  pub shown : List ℕ
  pub shows : shown ≡ take i.filled i.buffer
  pub reads : ReadsThrough (scan_of a No i.stops) shown (record { state = i.state; at = i.at }) there byte
  pub long : length shown ≡ i.filled

module _ (a : AutomatonView) {bytes : List ℕ} {given front kept : ℕ} {phase : Phase} {buffer : ℕ} {chains : List (List ChainMatch)}
    {i : Inside} (inv : IsStreaming (a.stands No) chains i (streaming_by a.built bytes given front kept phase buffer)) where
  -- the search of the stream, whichever bytes follow
  abbrev pub q : List ℕ → Search
  q more = stream_from a.built (bytes ++ more) i.begun

  abbrev pub place : ℕ
  place = front + i.at

  pub search-is : (more : List ℕ) → IsSearchFor (plain_of a.built) (q more)
  search-is more =
      let l = length-append bytes more in let k = inv.kept_within in let b = inv.after in
      record { free = refl; ordered = omega arith; inside = omega arith; same = refl }

  -- at least no bytes may follow
  abbrev pub no-bytes : List ℕ
  no-bytes = []

  pub none-more : phase ≡ Ended → no-bytes ≡ []
  none-more ended = refl

  module _ {there : Cursor} {byte : Option ℕ} (on : IsReadOn a chains i there byte) where
    abbrev pub comes : Arrives (scan_of a No i.stops) on.shown inv.past.node (record { state = i.state; at = i.at }) there byte
    comes = on.reads.comes inv.past.node inv.past.there

    abbrev pub u : List ℕ
    u = comes.node

    -- a byte in hand is one of those that are filled, and else they were read to their end, or as far as the search stops
    pub hand-there : IfSome byte (λ b. (there.at < i.filled) × (b ≡ slice_index on.shown there.at))
    hand-there =
        subst (λ (n : ℕ). IfSome byte (λ b. (there.at < n) × (b ≡ slice_index on.shown there.at))) on.long on.reads.hand

    pub read-enough : byte ≡ None → (i.filled ≤ there.at) ⊎ StopsAt (scan_of a No i.stops) there.state
    read-enough =
        subst (λ (n : ℕ). byte ≡ None → (n ≤ there.at) ⊎ StopsAt (scan_of a No i.stops) there.state) on.long on.reads.enough

    pub onward : i.at ≤ there.at
    onward = on.reads.onward

    abbrev pub at : ℕ
    at = front + there.at

    pub within-buffer : there.at ≤ i.filled
    within-buffer = (let w = inv.within in let l = on.long in let h = on.reads.within (omega arith) in omega arith)

    pub within-bytes : at ≤ length bytes
    within-bytes = let w = within-buffer in let c = inv.counted in omega arith

    pub of-search : (more : List ℕ) → IsSearchOf a.built on.shown i.filled front (q more)
    of-search more = record {
      is = search-is more;
      cases = refl;
      within = (let c = inv.counted in let l = length-append bytes more in omega arith);
      same = λ k before.
          get_or_append_left bytes more 0 (front + k) (let c = inv.counted in omega arith)
          ∙ sym (get_or-drop front bytes k 0)
          ∙ ap (λ (bs : List ℕ). get_or bs k 0) (sym (on.shows ∙ inv.holds));
    }

    -- it stood at a node with no match of a chain to give, whichever bytes follow
    pub stands-here : (more : List ℕ) → (phase ≡ Ended → more ≡ [])
        → StandsAfter a.built.kind (plain_of a.built) (q more) [] inv.past.node place
    stands-here more last =
        subst (λ (ms : List Occurrence). StandsAfter a.built.kind (plain_of a.built) (q more) ms inv.past.node place) on.left
        (inv.past.after more last)

    -- and so it stands now
    pub stands-there : (more : List ℕ) → (phase ≡ Ended → more ≡ [])
        → StandsAfter a.built.kind (plain_of a.built) (q more) [] u at
    stands-there more last =
        subst (λ (k : ℕ). StandsAfter a.built.kind (plain_of a.built) (q more) [] u k)
        (let o = onward in let e : front + (i.at + (there.at - i.at)) ≡ at = omega arith in e)
        (led-after a i.stops (of-search more) [] inv.past.node i.at (stands-here more last) (there.at - i.at) u
        (let o = onward in let w = within-buffer in omega arith) comes.leads)

    pub begun-before : i.begun ≤ at
    begun-before = (stands-there [] none-more).within

-- where the match ends that is given of a state
abbrev pub base_of : Streaming → Cursor → Given → ℕ
base_of v there gave = v.front + there.at - gave.rest

-- it is given of the state to which a search has come: it is the next match, whichever bytes follow, no byte of it was given up,
-- and the search goes on after it
pub record Settles (a : AutomatonView) (chains : List (List ChainMatch)) (i : Inside) (v : Streaming) (there : Cursor) (gave : Given)
    : Type 0 where
  pub rest : gave.rest ≤ v.front + there.at
  pub numbered : gave.pattern < length a.built.patterns
  pub fits : length (pattern_of a.built.patterns gave.pattern) ≤ base_of v there gave
  pub within : there.at ≤ i.filled
  pub picks : (more : List ℕ) → (v.phase ≡ Ended → more ≡ [])
      → pick v.built.kind (stream_from v.built (v.bytes ++ more) i.begun) ≡ Some (place_of a.built (base_of v there gave) gave.pattern)
  pub beyond : v.kept ≤ (place_of a.built (base_of v there gave) gave.pattern).start
  pub stands : (rest : Option ChainRest)
      → rest ≡ option_map (λ (number : ℕ). record { chain = number; index = 0; base = base_of v there gave }) gave.chain
      → StandsPast (a.stands No) chains
      (record i { state = gave.next; at = there.at; rest = rest; begun = base_of v there gave })
      (record v { given = v.given + 1; kept = base_of v there gave })

module _ {a : AutomatonView} {chains : List (List ChainMatch)} {i : Inside} {v : Streaming} {there : Cursor} {gave : Given}
    (inv : IsStreaming (a.stands No) chains i v) (unfailed : v.phase ≢ Failed) (settles : Settles a chains i v there gave) where
  -- so it was given, by where it ends and how many were given then
  pub streams-given : (rest : Option ChainRest)
      → rest ≡ option_map (λ (number : ℕ). record { chain = number; index = 0; base = base_of v there gave }) gave.chain
      → (begun given : ℕ) → begun ≡ base_of v there gave → given ≡ v.given + 1
      → IsStreaming (a.stands No) chains (record i { state = gave.next; at = there.at; rest = rest; begun = begun })
      (record v { given = given; kept = base_of v there gave })
  streams-given rest rest-is begun given begins-at one_more =
      rw (begins-at, one_more) (streams-then inv (place_of a.built (base_of v there gave) gave.pattern) settles.picks settles.beyond
      unfailed gave.next there.at rest settles.within (omega arith) (settles.stands rest rest-is))

  pub gives-given : (found : Occurrence) (given : ℕ) → found ≡ place_of a.built (base_of v there gave) gave.pattern → given ≡ v.given + 1
      → GivesMatch v found (record v { given = given; kept = base_of v there gave })
  gives-given found given found-is one_more =
      rw (found-is, one_more) (gives inv (place_of a.built (base_of v there gave) gave.pattern) settles.picks settles.beyond unfailed)

-- nothing is given of it: all that was read was searched, what is settled of that was given, and the search goes on there
pub record HoldsBack (a : AutomatonView) (chains : List (List ChainMatch)) (i : Inside) (v : Streaming)
    (inv : IsStreaming (a.stands No) chains i v) (there : Cursor) : Type 0 where
  pub ahead : i.at ≤ there.at
  pub all : there.at ≡ i.filled
  pub begun : i.begun ≤ v.front + there.at
  pub settles : (v.phase ≡ Ended → ⊥) → IsSettledBy v.built.kind v.built v.bytes v.given (kept_open inv there.at ahead all)
  pub ends : v.phase ≡ Ended → pick v.built.kind (stream_from v.built v.bytes i.begun) ≡ None
  pub next : CouldNextChange v.built v.bytes v.given
  pub stands : (kept : ℕ) (rest : Option ChainRest) → rest ≡ None
      → StandsPast (a.stands No) chains (record i { state = there.state; at = there.at; rest = rest }) (record v { kept = kept })

-- so bytes are kept from a place on
module _ {a : AutomatonView} {chains : List (List ChainMatch)} {i : Inside} {v : Streaming} {there : Cursor}
    (inv : IsStreaming (a.stands No) chains i v) (holds : HoldsBack a chains i v inv there) (kept : ℕ)
    (is : kept ≡ kept_from v.phase (max v.kept (v.front + there.at - i.reserve)) (v.front + there.at)) where
  pub gives-nothing : HasGivenSettled v (record v { kept = kept })
  gives-nothing = gives-settled inv there.at holds.ahead holds.all holds.begun holds.settles holds.ends holds.next kept is

  pub streams-nothing : (rest : Option ChainRest) → rest ≡ None
      → IsStreaming (a.stands No) chains (record i { state = there.state; at = there.at; rest = rest }) (record v { kept = kept })
  streams-nothing rest none =
      streams-on inv there.at holds.ahead holds.all holds.begun holds.settles holds.ends holds.next kept is there.state rest
      (holds.stands kept rest none)
