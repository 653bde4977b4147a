-- A find where a match may be picked anywhere in its span, once it has read as far as it reads: what it gives is the pick.
use Rattle.ac_util.proofs.Prelude.{◌≡◌, ◌⊎◌, ℕ, ◌+◌, ◌<◌, ◌≤◌, Bool, true, false, List, [], ◌∷◌, length, inl, inr, refl, ap, sym, ◌∙◌, subst, arith, Option, None, Some, IfSome, option_map, slice_get, slice_index, list_any, cases_Bool, cases_lt, false≢true, ◌≢◌}
use Rattle.ac_automaton.specs.Prelude.{IsSearchFor, StandsAfter, is_empty, is_leftmost, MatchKind, No, Node, Occurrence, order_of, pick, Search, Span, Standard, Lists, AutomatonView, found_at, HasSearched, in_memory, IsAlive, matches_of, node, place_of, plain_of, Scan, ScanText, search_through, Work, Leaves, GivesAt, GivesHere, IsSearchBy, scan_by, Comes, HasReadOn, in_hand, Point, read_to, ReadsOn, StopsAtDead, Core, Given, Position}
use Rattle.ac_util.proofs.SearchLoop.{SearchGoesOn}
use Rattle.ac_automaton.proofs.FindAhead.{answer-there, found-first, decided-there, ends-there, found-nothing, picked-ahead, picked-there as picked-at}
use Rattle.ac_automaton.proofs.FindLoop.{goes_on-by, goes_on-none, order, picked-start, picked-still, searched, up_to, picking_by}
use Rattle.ac_automaton.proofs.OnwardGives.{gives-first, gives-past}
use Rattle.ac_automaton.proofs.PastGives.{ends-there as ends-in, picks-first}
use Rattle.ac_automaton.proofs.ReadAhead.{at-dead, at-node, living, none-to, scans-dead, scans-there}
use Rattle.ac_automaton.proofs.ReadOn.{alive-start, node-start}
use Rattle.ac_automaton.proofs.Skipping.{none-there}

-- a find of an automaton, which begins at its start
module _ {A M : Type 0} (seen : A → AutomatonView) (k : Core A M) (lawful : IsSearchBy seen k)
    (one_or_two : ((seen k.automaton.now).most ≡ 1) ⊎ ((seen k.automaton.now).most ≡ 2))
    (leftmost : k.stops ≡ false → is_leftmost (seen k.automaton.now).built.kind ≡ true)
    (some : list_any is_empty (seen k.automaton.now).built.patterns ≡ false)
    (lists : (state : ℕ) (u : Node) → (seen k.automaton.now).stands No state u
    → Lists (seen k.automaton.now).built No u ((seen k.automaton.now).listed state))
    (bytes : List ℕ) (span : Span) (ordered : span.start ≤ span.end) (inside : span.end ≤ length bytes) (begun : Work)
    (unread : begun.place ≤ span.start) where
  abbrev a : AutomatonView
  a = seen k.automaton.now

  abbrev s : Scan
  s = scan_by seen k

  abbrev t : ScanText
  t = in_memory bytes span

  abbrev start : Point
  start = record { bytes = bytes; cursor = record { state = k.start; at = span.start }; hand = None; work = begun }

  abbrev picks : MatchKind
  picks = order s k.stops bytes span

  abbrev searches : Search
  searches = search_through s t

  abbrev picked_to : ℕ → Option Occurrence
  picked_to at = pick picks (up_to s k.stops bytes span at)

  abbrev found_in : ℕ → Option Occurrence
  found_in at = found_at a.built No (node s t at) at

  pub alive : IsAlive s t start.cursor
  alive = alive-start s t span.start lawful.core.starts refl (omega arith)

  pub starts : node s t span.start ≡ Some []
  starts = node-start s t span.start refl

  goes : SearchGoesOn a.built.kind picks None
  goes = goes_on-by a.built.kind k.stops None leftmost (λ _. refl)

  first-none : found_in span.start ≡ None
  first-none = found-nothing s k.stops bytes span span.start (none-there s refl some starts)

  -- it has read on to a point
  module _ {r : Point} (on : ReadsOn s span.end start r) where
    pub comes : Comes s start [] r
    comes = on.comes [] lawful.core.starts

    read-within : read_to r ≤ span.end
    read-within = by r.hand on.hand
      where
        by : (hand : Option ℕ) → IfSome hand (λ b. (r.cursor.at < span.end) × (b ≡ slice_index bytes r.cursor.at))
            → r.cursor.at + in_hand hand ≤ span.end
        by None h = let w = on.within ordered in omega arith
        by (Some b) h = let w = h.0 in omega arith

    pub onward : span.start ≤ r.cursor.at
    onward = on.scans.onward

    up : r.cursor.at ≤ span.end
    up = on.within ordered

    pub node-is : node s t r.cursor.at ≡ Some comes.node
    node-is = at-node one_or_two refl alive starts refl on.scans comes (let w = read-within in omega arith)

    pub lived : StopsAtDead a.built.kind searches (r.cursor.at + 1)
    lived j low before = living one_or_two refl alive starts refl on.scans comes (let w = read-within in omega arith) j low (omega arith)

    -- where it stops at a match it has passed over none, so what the node finds is picked
    module _ (stops : k.stops ≡ true) where
      quiet : (j : ℕ) → span.start < j → j < read_to r → matches_of a.built No (node s t j) ≡ []
      quiet j low high = none-to one_or_two refl alive starts refl on.scans comes (let w = read-within in omega arith) stops j low high

      pub picked-there : found_in r.cursor.at ≡ picked_to r.cursor.at
      picked-there = elim (cases_lt span.start r.cursor.at) [
        | inl before ↦ by before (found_in r.cursor.at) refl
        | inr beyond ↦
            (let o = onward in let e : r.cursor.at ≡ span.start = omega arith in
            ap found_in e ∙ sym (picked-start s k.stops bytes span (omega arith)) ∙ ap picked_to (sym e))
      ]
        where
          by : span.start < r.cursor.at → (o : Option Occurrence) → found_in r.cursor.at ≡ o → o ≡ picked_to r.cursor.at
          by before None is =
              picked-ahead s k.stops bytes span (omega arith) (let u = up in omega arith) None goes
              (sym first-none ∙ sym (picked-start s k.stops bytes span (omega arith))) (λ j low high. quiet j low (omega arith)) before is
          by before (Some m) is =
              picked-at s k.stops bytes span (omega arith) (let u = up in omega arith) None goes
              (sym first-none ∙ sym (picked-start s k.stops bytes span (omega arith))) (λ j low high. quiet j low (omega arith)) before m is

    -- else it stands at the node, as a walk does
    pub stands : StandsAfter a.built.kind (plain_of a.built) (up_to s k.stops bytes span r.cursor.at) [] comes.node r.cursor.at
    stands = record { gives = refl; within = onward; inside = omega arith; stands = node-is }

    pub is-search : IsSearchFor (plain_of a.built) (up_to s k.stops bytes span r.cursor.at)
    is-search = record { free = refl; ordered = onward; inside = (let u = up in omega arith); same = refl }

    pub as-kind : k.stops ≡ false → pick a.built.kind (up_to s k.stops bytes span r.cursor.at) ≡ picked_to r.cursor.at
    as-kind past = ap (λ (b : Bool). pick (order_of a.built.kind b) (up_to s k.stops bytes span r.cursor.at)) (sym past)

  -- it has read as far as it reads, and gives what is given there
  module _ {stop : Position} {read_bytes : List ℕ} {work : Work}
      (read : HasReadOn s span.end start (record { bytes = read_bytes; cursor = stop.cursor; hand = stop.byte; work = work }))
      {found : Option Occurrence} {new : Position} (here : GivesHere seen k stop found new) where
    abbrev at : ℕ
    at = stop.cursor.at

    -- where it stops at a match that is what the node finds
    found-here : k.stops ≡ true → found ≡ found_in at
    found-here stops =
        found-first a.built k.start (a.listed stop.cursor.state) stop new found here.given
        (gives-first a k.commits.now.chains k.start stop.cursor.state k.stops here.given stops here.is) here.gives
        ∙ ap (λ (ns : List ℕ). option_map (place_of a.built at) (slice_get ns 0)) (lists stop.cursor.state (Some (comes read.on).node) (comes read.on).there)
        ∙ ap (λ (u : Node). found_at a.built No u at) (sym (node-is read.on))

    picked-past : k.stops ≡ false → found ≡ picked_to at
    picked-past past = by here.given here.is here.gives ∙ as-kind read.on past
      where
        by : (given : Option Given) → GivesAt a k.commits.now.chains k.start k.stops stop.cursor.state given
            → Leaves a.built stop given found new → found ≡ pick a.built.kind (up_to s k.stops bytes span at)
        by None is gives =
            gives.0
            ∙ sym (ends-in a (lawful.core.on past) k.commits.now.chains (up_to s k.stops bytes span at) (is-search read.on) refl
            (comes read.on).node at (stands read.on) refl
            (gives-past a k.commits.now.chains k.start stop.cursor.state k.stops None past is (comes read.on).node (comes read.on).there))
        by (Some given) is gives =
            gives.0
            ∙ sym (picks-first a (lawful.core.on past) k.commits.now.chains (up_to s k.stops bytes span at) (is-search read.on) refl
            (comes read.on).node at (stands read.on) given
            (gives-past a k.commits.now.chains k.start stop.cursor.state k.stops (Some given) past is (comes read.on).node
            (comes read.on).there) (inl refl))

    picked : found ≡ picked_to at
    picked = elim (cases_Bool k.stops) [
      | inl stops ↦ found-here stops ∙ picked-there read.on stops
      | inr past ↦ picked-past past
    ]

    -- if it picks as Standard does, what is picked ends there
    ends : picks ≡ Standard → IfSome found (λ m. m.end ≡ at)
    ends standard = elim (cases_Bool k.stops) [
      | inl stops ↦ ends-there a.built No (node s t at) at found (found-here stops)
      | inr past ↦ absurd (by a.built.kind (leftmost past) (sym (ap (order_of a.built.kind) past) ∙ standard))
    ]
      where
        by : (kind : MatchKind) → is_leftmost kind ≡ true → kind ≡ Standard → ⊥
        by kind first e = false≢true (sym (ap is_leftmost e) ∙ first)

    -- with nothing in hand it has its answer
    answered : stop.byte ≡ None → (span.end ≤ at) ⊎ ((node s t at ≡ None) ⊎ ((k.stops ≡ true) × (found ≢ None)))
    answered none = elim (read.enough none) [
      | inl over ↦ inl over
      | inr stops ↦ inr (inr (
        stops.0,
        λ nothing. stops.1 (by (a.listed stop.cursor.state)
            (lists stop.cursor.state (Some (comes read.on).node) (comes read.on).there)
            (sym (found-here stops.0 ∙ ap (λ (u : Node). found_at a.built No u at) (node-is read.on)) ∙ nothing)),
      ))
    ]
      where
        by : (listed : List ℕ) → listed ≡ matches_of a.built No (Some (comes read.on).node)
            → found_at a.built No (Some (comes read.on).node) at ≡ None → listed ≡ []
        by [] is nothing = refl
        by (i ∷ others) is nothing =
            absurd (let no = ap (λ (ns : List ℕ). option_map (place_of a.built at) (slice_get ns 0)) is ∙ nothing in cc)

    within : read_to (record { bytes = read_bytes; cursor = stop.cursor; hand = stop.byte; work = work }) ≤ span.end
    within = read-within read.on

    searched-there : stop.byte ≡ None → HasSearched (picking_by s k.stops) searches found begun work
    searched-there none =
        let scans = scans-there one_or_two refl alive starts refl read.on.scans (comes read.on) (let w = within in omega arith) none in
        let o = onward read.on in let u = up read.on in
        searched s k.stops bytes span (let u = up read.on in omega arith) (λ j low before. lived read.on j low (omega arith)) scans found
        (answer-there s k.stops bytes span at o u inside found picked leftmost (answered none)) u picked ends
        (λ same. decided-there s k.stops bytes span at o u inside found picked leftmost (answered none) (scans.whole same) scans.unread)

    -- and with a byte that leads to the dead node
    module _ {byte : ℕ} (some-byte : stop.byte ≡ Some byte) where
      hand : (at < span.end) × (byte ≡ slice_index bytes at)
      hand = subst (λ (h : Option ℕ). IfSome h (λ b. (at < span.end) × (b ≡ slice_index bytes at))) some-byte read.on.hand

      dead : node s t (at + 1) ≡ None
      dead = at-dead one_or_two refl alive starts refl read.on.scans (comes read.on) (let w = within in omega arith) some-byte hand.1

      none-first : k.stops ≡ true → found ≡ None
      none-first stops = found-here stops ∙ found-nothing s k.stops bytes span at (elim (cases_lt span.start at) [
        | inl before ↦ quiet read.on stops at before (let h = ap in_hand some-byte in omega arith)
        | inr beyond ↦ none-there s refl some (let o = onward read.on in let e : at ≡ span.start = omega arith in ap (node s t) e ∙ starts)
      ])

      goes-found : SearchGoesOn a.built.kind picks found
      goes-found = goes_on-by a.built.kind k.stops found leftmost none-first

      picked-dead : found ≡ picked_to (at + 1)
      picked-dead =
          picked-still s k.stops bytes span at found (onward read.on) (let h = hand.0 in omega arith) picked goes-found
          (ap (λ (u : Node). found_at a.built No u (at + 1)) dead)

      searched-dead : HasSearched (picking_by s k.stops) searches found begun work
      searched-dead =
          let scans = scans-dead one_or_two refl alive starts refl read.on.scans (comes read.on) (let w = within in omega arith) some-byte hand.1 in
          let h = hand.0 in let o = onward read.on in
          searched s k.stops bytes span (omega arith) (lived read.on) scans found
          (answer-there s k.stops bytes span (at + 1) (omega arith) (omega arith) inside found picked-dead leftmost (inr (inl dead)))
          (omega arith) picked-dead
          (λ standard. goes_on-none a.built.kind picks found (λ m. m.end ≡ at + 1) goes-found standard)
          (λ same. decided-there s k.stops bytes span (at + 1) (omega arith) (omega arith) inside found picked-dead leftmost (inr (inl dead))
          (scans.whole same) scans.unread)

    pub searched-read : HasSearched (picking_by s k.stops) searches found begun work
    searched-read = by stop.byte refl
      where
        by : (hand : Option ℕ) → stop.byte ≡ hand → HasSearched (picking_by s k.stops) searches found begun work
        by None e = searched-there e
        by (Some byte) e = searched-dead e
