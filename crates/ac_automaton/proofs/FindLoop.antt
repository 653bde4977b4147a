-- A find that reads byte by byte: where the automaton stands, and what is picked so far.
use Rattle.ac_util.proofs.Prelude.{◌≡◌, ℕ, ◌+◌, ◌-◌, ◌<◌, ◌≤◌, Bool, true, false, List, [], ◌∷◌, length, inl, inr, refl, ap, sym, ◌∙◌, subst, arith, Option, Some, None, option_map, slice_get, IfSome, rules, common_steps}
use Rattle.ac_automaton.specs.Prelude.{Built, is_leftmost, MatchKind, Node, Occurrence, order_of, pick, Search, Span, Standard, Anchored, picking_of, found_at, HasSearched, in_memory, IsDecided, matches_of, node, Picking, place_of, ReadsTo, Scan, ScansTo, search_through, HasReadMatch, Work, StopsAtDead}
use Rattle.ac_util.proofs.Beginning.{pick-within}
use Rattle.ac_util.proofs.Walks.{pick-in_span}
use Rattle.ac_util.proofs.OneLonger.{pick-empty_none, pick-empty_some, none-past_end}
use Rattle.ac_util.proofs.SearchLoop.{SearchGoesOn, pick-goes_on, pick-found, pick-stays_dead}
use Rattle.ac_automaton.proofs.ReadOn.{read-nothing, read-scanned}

-- how a scan's finds are made that stop at the first match, or not
abbrev pub picking_by : Scan → Bool → Picking
picking_by s stops = picking_of s.most s.built.kind s.wants_prefilter stops

-- what is found ends where the text read ends
pub found-end : (built : Built) (a : Anchored) (u : Node) (end : ℕ) (m : Occurrence)
    → found_at built a u end ≡ Some m → m.end ≡ end
found-end built a u end m e = grind (arith, common_steps)

-- a find that stops at the first match can go on as long as it has none; any other prefers what starts first
pub goes_on-by : (kind : MatchKind) (stops : Bool) (r : Option Occurrence)
    → (stops ≡ false → is_leftmost kind ≡ true) → (stops ≡ true → r ≡ None)
    → SearchGoesOn kind (order_of kind stops) r
goes_on-by kind true r leftmost none = inr (refl, none refl)
goes_on-by kind false r leftmost none = inl (leftmost refl, refl)

-- so where one goes on that picks as Standard does it has found nothing
pub goes_on-none : (kind order : MatchKind) (r : Option Occurrence) (P : Occurrence → Type 0)
    → SearchGoesOn kind order r → order ≡ Standard → IfSome r P
goes_on-none kind order r P (inl leftmost) standard = cc
goes_on-none kind order r P (inr first) standard = cc

-- where a span starts past its end nothing is found, and nothing done
pub searched-nothing : (picking : Picking) (q : Search) (work : Work)
    → q.high < q.low → work.place ≤ q.low → HasSearched picking q None work work
searched-nothing picking q work past unread = search (rules, none-past_end, read-nothing)

module _ (s : Scan) (stops : Bool) (bytes : List ℕ) (span : Span) where
  -- what is searched
  abbrev pub q : Search
  q = search_through s (in_memory bytes span)

  -- the search as far as a place, and the node that the automaton has reached there
  abbrev pub up_to : ℕ → Search
  up_to at = record q { high = at }

  abbrev pub node_at : ℕ → Node
  node_at = node s (in_memory bytes span)

  -- the order by which matches are picked
  abbrev pub order : MatchKind
  order = order_of s.built.kind stops

  -- what is found there, by the matches of the node
  found-by : (at : ℕ) (ns : List ℕ) → matches_of s.built s.anchored (node_at at) ≡ ns
      → found_at s.built s.anchored (node_at at) at ≡ option_map (place_of s.built at) (slice_get ns 0)
  found-by at ns e = ap (λ (ms : List ℕ). option_map (place_of s.built at) (slice_get ms 0)) e

  -- at the start what the start state finds is picked
  pub picked-start : span.start ≤ length bytes
      → pick order (up_to span.start) ≡ found_at s.built s.anchored (node_at span.start) span.start
  picked-start inside = by (matches_of s.built s.anchored (node_at span.start)) refl
    where
      by : (ns : List ℕ) → matches_of s.built s.anchored (node_at span.start) ≡ ns
          → pick order (up_to span.start) ≡ found_at s.built s.anchored (node_at span.start) span.start
      by [] e =
          pick-empty_none s.built.kind (up_to span.start) refl inside order e ∙ sym (found-by span.start [] e)
      by (i ∷ rest) e =
          pick-empty_some s.built.kind (up_to span.start) refl inside stops i rest e
          ∙ sym (found-by span.start (i ∷ rest) e)

  -- under Standard what was picked stays
  pub picked-final : (at : ℕ) (m : Occurrence) → at ≤ span.end → order ≡ Standard
      → Some m ≡ pick order (up_to at)
      → Some m ≡ pick order q
  picked-final at m up standard e = grind (arith, common_steps, pick-within q at up)

  -- what a find has done that answers r once it has come to a place, where it has read enough
  module _ {at : ℕ} {work new_work : Work} (inside : at ≤ length bytes) (alive : StopsAtDead s.built.kind q at)
      (scans : ScansTo s (in_memory bytes span) span.start work at new_work) where
    -- each byte of what was picked was read
    picked-read : (r : Option Occurrence) → r ≡ pick order (up_to at) → IfSome r (HasReadMatch span.start work new_work)
    picked-read None e = tt
    picked-read (Some m) e = search (rules, pick-in_span)

    -- and none past the place
    ends-here : (r : Option Occurrence) → IfSome r (λ m. m.end ≡ at) → IfSome r (ReadsTo span.start work new_work)
    ends-here None h = tt
    ends-here (Some m) h = grind (arith, common_steps)

    pub searched : (r : Option Occurrence) → r ≡ pick order q → at ≤ span.end → r ≡ pick order (up_to at)
        → (order ≡ Standard → IfSome r (λ m. m.end ≡ at))
        → (new_work.counts.calls ≡ work.counts.calls → IsDecided s.built.kind order q r new_work.place)
        → HasSearched (picking_by s stops) q r work new_work
    searched r answer up picked ends decided = search (rules, ends-here, picked-read, read-scanned)

  -- one more byte is read, after r was picked
  module _ (at : ℕ) (r : Option Occurrence) (ordered : span.start ≤ at) (room : at < length bytes)
      (picked : r ≡ pick order (up_to at)) (goes : SearchGoesOn s.built.kind order r) where
    -- what is found where the byte ends
    abbrev pub here : Option Occurrence
    here = found_at s.built s.anchored (node_at (at + 1)) (at + 1)

    goes_on : SearchGoesOn s.built.kind order (pick order (up_to at))
    goes_on = subst (SearchGoesOn s.built.kind order) picked goes

    -- nothing: r stays picked
    pub picked-still : here ≡ None → r ≡ pick order (up_to (at + 1))
    picked-still nothing = by (matches_of s.built s.anchored (node_at (at + 1))) refl
      where
        by : (ns : List ℕ) → matches_of s.built s.anchored (node_at (at + 1)) ≡ ns
            → r ≡ pick order (up_to (at + 1))
        by [] e = picked ∙ sym (pick-goes_on s.built.kind order (up_to at) ordered room goes_on e)
        by (i ∷ rest) e = search (rules, found-by)

    -- or a match, which is picked
    pub picked-newly : (m : Occurrence) → here ≡ Some m → Some m ≡ pick order (up_to (at + 1))
    picked-newly m is = by (matches_of s.built s.anchored (node_at (at + 1))) refl
      where
        by : (ns : List ℕ) → matches_of s.built s.anchored (node_at (at + 1)) ≡ ns
            → Some m ≡ pick order (up_to (at + 1))
        by [] e = let no : None ≡ Some m = sym (found-by (at + 1) [] e) ∙ is in absurd (cc)
        by (i ∷ rest) e =
            sym is ∙ found-by (at + 1) (i ∷ rest) e
            ∙ sym (pick-found s.built.kind order (up_to at) ordered room goes_on i rest e)

  -- where it is dead what was picked stays picked to the end
  pub dead-stays : (at : ℕ) (r : Option Occurrence) → span.start ≤ at → r ≡ pick order (up_to at)
      → SearchGoesOn s.built.kind order r → at ≤ span.end → span.end ≤ length bytes → node_at at ≡ None
      → r ≡ pick order q
  dead-stays at r ordered picked goes up inside dead =
      grind (
        arith,
        common_steps,
        pick-stays_dead s.built.kind order (up_to at) (span.end - at) (omega arith) (omega arith) dead (subst (SearchGoesOn s.built.kind order) picked goes),
      )
