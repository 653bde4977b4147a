-- Overlapping search by a state, and by an iterator: how it begins, and what a call leaves.
use Rattle.ac_util.proofs.Prelude.{◌≡◌, ℕ, zero, suc, drop, ◌<◌, ◌≤◌, List, [], ◌∷◌, length, inl, inr, refl, sym, subst, arith, Option, Some, None, ◌⊎◌, IfSome, MatchOption, max, slice_get, rules, drop-nil, common_steps}
use Rattle.ac_automaton.specs.Prelude.{all, InputView, Built, item_at, MatchKind, No, Node, Occurrence, overlapping_iter_refusal, overlapping_refusal, place_after, Search, Span, Standard, start_refusal, given_by, given_in, HasMoved, in_memory, IsListed, IsListing, IsPlaced, Lists, ListsNext, node, nothing_done, overlapping_by, OverlappingState, Reached, Scan, ScansTo, ScanText, search_through, Work, GivesNext}
use Rattle.ac_util.proofs.ListingBeginning.{all-past_end, item-none, item-some}
use Rattle.ac_util.proofs.Lists.{drop-slice_get}
use Rattle.ac_util.proofs.Reached.{reached-alive}
use Rattle.ac_automaton.proofs.ListLoop.{arrived, arrives, given-arrived, listing-start, past-all}
use Rattle.ac_automaton.proofs.ReadOn.{at-start, read-nothing, read-scanned, scans-nothing, scans-on}

-- a search by a state is refused for its start or its match kind
pub by_state-served : (built : Built) (input : InputView) → start_refusal built.start_kind input.anchored ≡ None
    → built.kind ≡ Standard → overlapping_refusal built input ≡ None
by_state-served built input starts standard = cc

-- an iterator is refused for these, and for being anchored
pub iterator-served : (built : Built) (input : InputView) → start_refusal built.start_kind input.anchored ≡ None
    → built.kind ≡ Standard → input.anchored ≡ No → overlapping_iter_refusal built input ≡ None
iterator-served built input starts standard unanchored = cc

-- of a span that starts past its end no state has a listing
pub past_end-gives : {stands : ℕ → Node → Type 0} {listed : ℕ → List ℕ} {kind : MatchKind} (q : Search)
    (state : OverlappingState) → q.high < q.low → IsPlaced stands listed kind q state
    → GivesNext stands listed kind q state (record { found = None; reached = state.reached })
past_end-gives {stands} {listed} {kind} q state past placed = search (rules, all-past_end)

-- a listing goes on from here: there it has come, and so many items were given
pub record GoesOnFrom (s : Scan) (t : ScanText) (given : ℕ) (reached : Reached) : Type 0 where
  pub on : IsListed s t reached
  pub as_many : given_in s.listed (search_through s t) reached ≡ given

-- a listing over a span that doesn't start past its end, whose automaton has this start state
module _ (s : Scan) (bytes : List ℕ) (span : Span) (start : ℕ) (starts : s.stands start (Some []))
    (lists : (u : Node) → s.stands start u → Lists s.built s.anchored u (s.listed start))
    (standard : s.built.kind ≡ Standard) (order : span.start ≤ span.end) (legal : span.end ≤ length bytes) where
  -- one that begins goes on from the start of the span, and has given nothing
  pub goes_on-start : GoesOnFrom s (in_memory bytes span) 0 (arrived s bytes span start span.start)
  goes_on-start =
      let inside : span.start ≤ length bytes = omega arith in
      let is_at = at-start s (in_memory bytes span) {state = start} span.start starts refl inside in
      let there = lists (node s (in_memory bytes span) span.start) is_at.there in
      let listing = listing-start s bytes span standard inside in
      record {
        on = arrives s bytes span is_at there [] listing order;
        as_many = given-arrived s bytes span is_at there [] listing;
      }

  -- and one that goes on from where it came to
  pub goes_on-there : (reached : Option Reached) (here : Reached)
      → IfSome reached (IsListed s (in_memory bytes span))
      → MatchOption reached (here ≡ arrived s bytes span start span.start) (λ there. here ≡ there)
      → GoesOnFrom s (in_memory bytes span) (given_by s.listed (search_through s (in_memory bytes span)) reached) here
  goes_on-there None here placed is = subst (GoesOnFrom s (in_memory bytes span) 0) (sym is) goes_on-start
  goes_on-there (Some there) here placed is = grind (arith, common_steps)

  -- an iterator over it has read nothing
  pub listing-starts : s.anchored ≡ No
      → IsListing s (in_memory bytes span) (Some (arrived s bytes span start span.start)) nothing_done
  listing-starts unanchored = search (rules, goes_on-start, scans-nothing)

-- what a call has given that went on from there
pub gives-moved : (s : Scan) (t : ScanText) (state : OverlappingState) (here : Reached) (found : Option Occurrence)
    (new_reached : Reached)
    → given_in s.listed (search_through s t) here ≡ given_by s.listed (search_through s t) state.reached
    → HasMoved s t here found new_reached
    → GivesNext s.stands s.listed s.built.kind (search_through s t) state
    (record { found = found; reached = Some new_reached })
gives-moved s t state here found new_reached as_many moved = grind (arith, common_steps)

-- what is left of a list past its end
drop-none : {X : Type 0} (xs : List X) (k : ℕ) → slice_get xs k ≡ None → drop k xs ≡ []
drop-none [] k e = drop-nil k
drop-none (y ∷ xs) zero e = absurd (cc)
drop-none (y ∷ xs) (suc k) e = drop-none xs k e

-- the items that are left, once the next one is given
left-after : (q : Search) (given : ℕ) (found : Option Occurrence) → found ≡ item_at q given
    → MatchOption found ((drop given (all q) ≡ []) × (drop (place_after q given) (all q) ≡ []))
    (λ m. drop given (all q) ≡ m ∷ drop (place_after q given) (all q))
left-after q given None is = search (rules, drop-none, item-none)
left-after q given (Some m) is = search (rules, drop-slice_get, item-some)

module _ (s : Scan) (bytes : List ℕ) (span : Span) where
  -- what is read and listed
  abbrev t : ScanText
  t = in_memory bytes span

  abbrev q : Search
  q = search_through s t

  -- in a span that starts past its end there is nothing to give
  pub lists-past_end : (work : Work) → IsListing s t None work
      → ListsNext (overlapping_by s t None work) None (overlapping_by s t None work)
  lists-past_end work way = search (rules, all-past_end, past-all, read-nothing)

  module _ (here new_reached : Reached) (work new_work : Work) (found : Option Occurrence)
      (way : IsListing s t (Some here) work) (moved : HasMoved s t here found new_reached)
      (scans : ScansTo s t here.at work new_reached.at new_work) where
    -- the scan from the start of the span on
    so_far : ScansTo s t span.start nothing_done new_reached.at new_work
    so_far = scans-on way.begun.1 scans

    -- else the next item is given
    stops : (r : Option Occurrence) → IfSome r (λ m. m.end ≡ new_reached.at)
        → IfSome r (λ m. new_work.place ≤ max work.place m.end)
    stops None ends = tt
    stops (Some m) ends = let u = scans.unread in omega arith

    told : new_work.counts.calls ≡ 0 → (r : Option Occurrence) → IfSome r (λ m. m.end ≡ new_reached.at)
        → IfSome r (λ m. m.end ≤ max span.start new_work.place)
    told none None ends = tt
    told none (Some m) ends = let w = so_far.whole none in omega arith

    whole : new_work.counts.calls ≡ 0 → (new_reached.at ≡ span.end) ⊎ (node s t new_reached.at ≡ None)
        → span.end ≤ max span.start new_work.place
    whole none (inl there) = let w = so_far.whole none in omega arith
    whole none (inr dead) = search (rules, reached-alive)

    pub lists-next : ListsNext (overlapping_by s t (Some here) work) found (overlapping_by s t (Some new_reached) new_work)
    lists-next = search (rules, left-after, read-scanned, so_far, told, whole)

    -- and the listing goes on
    pub listing-goes_on : IsListing s t (Some new_reached) new_work
    listing-goes_on = search (rules, so_far)
