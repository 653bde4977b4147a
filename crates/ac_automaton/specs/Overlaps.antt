-- Where an overlapping search stands: where its automaton stands, and how many items of the listing were given.
use Rattle.std.specs.Prelude.{◌≡◌, ◌≢◌, ◌⊎◌, ℕ, ◌-◌, ◌<◌, ◌≤◌, ◌==◌, Bool, true, List, ◌∷◌, ◌++◌, [], length, map, drop, All, Option, None, Some, IfSome, MatchOption, MatchResult, max, Result}
use Rattle.std.specs.Iterator.{YieldsFirst}
use Rattle.std.specs.List.{take_while}
use Rattle.ac_util.specs.declared.search.Anchored.{Anchored}
use Rattle.ac_automaton.specs.Util.{all, InputView, Built, Counts, ending, item_at, MatchError, MatchKind, may_skip, No, no_counts, Node, Occurrence, pattern_of, place_after, Search, search_in, Standard, start_refusal, Taped, Yes}
use Rattle.ac_automaton.specs.declared.automaton.listing.MatchRest.{MatchRest}
use Rattle.ac_automaton.specs.declared.automaton.overlap.OverlappingState.{OverlappingState}
use Rattle.ac_automaton.specs.declared.automaton.listing.Reached.{Reached}
use Rattle.ac_automaton.specs.Automata.{AutomatonView, IsState}
use Rattle.ac_automaton.specs.Scans.{Grows, HasRead, Reaches, Work, most_looks, nothing_done, work_of, Scan, ScannerView, ScanText, ScansTo, in_memory, node, search_through}

-- the matches in a rest of a match list
abbrev pub rest_in : (ℕ → List ℕ) → MatchRest → List ℕ
rest_in listed rest = drop rest.index (listed rest.state)

-- r is the first match in a rest and the rest after it, or None where there is none
abbrev pub Takes : (ℕ → List ℕ) → MatchRest → Option (ℕ × MatchRest) → Type 0
Takes listed rest r =
    MatchOption r (rest_in listed rest ≡ []) (λ first. rest_in listed rest ≡ first.0 ∷ rest_in listed first.1)

-- whether a match of this length counts where so many bytes of the span were read: in an anchored search it has
-- to be as long
abbrev pub is_due : Anchored → ℕ → ℕ → Bool
is_due No len read = true
is_due Yes len read = len == read

-- the matches that are still to be given where the automaton stands: those in front that count
abbrev pub due_in : (ℕ → List ℕ) → Search → Reached → List ℕ
due_in listed q reached =
    take_while (λ n. is_due q.anchored (length (pattern_of q.patterns n)) (reached.at - q.low))
    (rest_in listed reached.rest)

-- how many items of the listing were given: all that end up to there but those still to be given
abbrev pub given_in : (ℕ → List ℕ) → Search → Reached → ℕ
given_in listed q reached =
    length (all (record q { high = reached.at })) - length (due_in listed q reached)

-- a listing has come to an offset of the span: its automaton stands there at the node reached, and what is still to
-- be given there are the last of the items that end up to there
pub record HasListed (stands : ℕ → Node → Type 0) (listed : ℕ → List ℕ) (kind : MatchKind) (q : Search)
    (reached : Reached) : Type 0 where
  pub reaches : Reaches stands kind q reached.state reached.at
  pub within : reached.at ≤ q.high
  pub state : IsState stands reached.rest.state
  pub numbered : All (λ n. n < length q.patterns) (rest_in listed reached.rest)
  pub given : List Occurrence
  pub listing : all (record q { high = reached.at })
      ≡ given ++ map (ending (record q { high = reached.at })) (due_in listed q reached)

-- a listing of a text by a scan has come to an offset
abbrev pub IsListed : Scan → ScanText → Reached → Type 0
IsListed s t reached = HasListed s.stands s.listed s.built.kind (search_through s t) reached

-- a listing may go on within its span from where it has come to
pub record MayList (v : ScannerView) (tape : Taped) (reached : Reached) : Type 0 where
  pub standard : v.scan.built.kind ≡ Standard
  pub listed : IsListed v.scan (in_memory tape.bytes v.span) reached
  pub inside : v.span.end ≤ length tape.bytes
  pub unread : tape.place ≤ reached.at

-- the match that is due first where the automaton stands was given and passed over, or there is none; the automaton
-- stands where it did
pub record HasGivenItem (s : Scan) (t : ScanText) (reached : Reached) (found : Option Occurrence) (new_reached : Reached)
    : Type 0 where
  pub state : new_reached.state ≡ reached.state
  pub at : new_reached.at ≡ reached.at
  pub due : MatchOption found ((due_in s.listed (search_through s t) reached ≡ []) × (new_reached ≡ reached))
      (λ m. due_in s.listed (search_through s t) reached ≡ m.pattern ∷ due_in s.listed (search_through s t) new_reached)
  pub ending : IfSome found (λ m. m ≡ ending (record (search_through s t) { high = reached.at }) m.pattern)
  pub leaves : IsListed s t new_reached

-- the next item of the listing was given, or none past its end, by reading on; and past its end the automaton is at
-- the end of the span, or dead
pub record HasMoved (s : Scan) (t : ScanText) (reached : Reached) (found : Option Occurrence) (new_reached : Reached)
    : Type 0 where
  pub item : found ≡ item_at (search_through s t) (given_in s.listed (search_through s t) reached)
  pub place : given_in s.listed (search_through s t) new_reached
      ≡ place_after (search_through s t) (given_in s.listed (search_through s t) reached)
  pub leaves : IsListed s t new_reached
  pub ends : IfSome found (λ m. m.end ≡ new_reached.at)
  pub whole : found ≡ None → (new_reached.at ≡ t.end) ⊎ (node s t new_reached.at ≡ None)

-- the next match of the current state was given, or there is none, whichever bytes were listed
abbrev pub TakesDue : ScannerView → Reached → Option Occurrence → Reached → Type 0
TakesDue v reached found new_reached =
    (bytes : List ℕ) → IsListed v.scan (in_memory bytes v.span) reached
    → HasGivenItem v.scan (in_memory bytes v.span) reached found new_reached

-- a listing has given its next item by reading on, or none past its end
pub record ListsOn (v : ScannerView) (reached : Reached) (tape : Taped) (counts : Counts) (found : Option Occurrence)
    (new_reached : Reached) (new_tape : Taped) (new_counts : Counts) : Type 0 where
  pub bytes : new_tape.bytes ≡ tape.bytes
  pub moved : HasMoved v.scan (in_memory tape.bytes v.span) reached found new_reached
  pub scans : ScansTo v.scan (in_memory tape.bytes v.span) reached.at (work_of tape counts) new_reached.at
      (work_of new_tape new_counts)

-- a state of an overlapping search that has given nothing yet
abbrev pub fresh : OverlappingState
fresh = record { found = None; reached = None }

-- how many items were given of a listing that may not have begun: none then
abbrev pub given_by : (ℕ → List ℕ) → Search → Option Reached → ℕ
given_by listed q None = 0
given_by listed q (Some reached) = given_in listed q reached

-- a state may be handed to an overlapping search: it is fresh, or a call over the same search has left it
abbrev pub IsPlaced : (ℕ → Node → Type 0) → (ℕ → List ℕ) → MatchKind → Search → OverlappingState → Type 0
IsPlaced stands listed kind q state = IfSome state.reached (HasListed stands listed kind q)

-- a call has given the next item of the listing, or none past its end, and has left the state at the rank after
-- it
pub record GivesNext (stands : ℕ → Node → Type 0) (listed : ℕ → List ℕ) (kind : MatchKind) (q : Search)
    (state new_state : OverlappingState) : Type 0 where
  pub item : new_state.found ≡ item_at q (given_by listed q state.reached)
  pub place : given_by listed q new_state.reached ≡ place_after q (given_by listed q state.reached)
  pub placed : IsPlaced stands listed kind q new_state

-- what is seen of an iterator over the listing: the items still to come; the search, and how many of its items
-- were given; up to which offset the tape was read; what was counted; and how many looks are allowed for each
-- byte, and whether the automaton was built to have a prefilter
pub record Overlapping : Type 0 where
  pub rest : List Occurrence
  pub search : Search
  pub given : ℕ
  pub place : ℕ
  pub counts : Counts
  pub most : ℕ
  pub wants_prefilter : Bool

-- a listing of which so many items were given
abbrev pub overlapping_of : ℕ → Bool → Search → ℕ → ℕ → Counts → Overlapping
overlapping_of most wants_prefilter q given place counts =
    record { rest = drop given (all q); search = q; given = given; place = place; counts = counts; most = most; wants_prefilter = wants_prefilter }

-- a listing that begins: all its items are still to come
abbrev pub initial_listing : ℕ → Built → Bool → InputView → Overlapping
initial_listing most built wants_prefilter input = overlapping_of most wants_prefilter (search_in built input) 0 0 no_counts

-- an iterator over the listing has given its next item, or had none. It has read on by the same tape, and nothing
-- past the end of the item; unless it called the prefilter it has read as far as that, and past the last item
-- the whole span; and in all it has done what one search of the span may do
pub record ListsNext (listing : Overlapping) (found : Option Occurrence) (new_listing : Overlapping) : Type 0 where
  pub gives : YieldsFirst (λ (l : Overlapping). l.rest) listing found new_listing
  pub item : found ≡ item_at listing.search listing.given
  pub same : new_listing ≡ record listing {
    rest = new_listing.rest;
    given = place_after listing.search listing.given;
    place = new_listing.place;
    counts = new_listing.counts;
  }
  pub onward : listing.place ≤ new_listing.place
  pub grows : Grows listing.counts new_listing.counts
  pub stops : IfSome found (λ m. new_listing.place ≤ max listing.place m.end)
  pub told : new_listing.counts.calls ≡ 0
      → IfSome found (λ m. m.end ≤ max listing.search.low new_listing.place)
  pub whole : new_listing.counts.calls ≡ 0 → found ≡ None
      → listing.search.high ≤ max listing.search.low new_listing.place
  pub read : HasRead (most_looks listing.search.anchored listing.most)
      (may_skip listing.wants_prefilter listing.search) listing.search.low listing.search.high nothing_done
      (record { place = new_listing.place; counts = new_listing.counts })

-- what is seen of a listing that a scan makes
abbrev pub overlapping_by : Scan → ScanText → Option Reached → Work → Overlapping
overlapping_by s t reached work =
    overlapping_of s.most s.wants_prefilter (search_through s t) (given_by s.listed (search_through s t) reached) work.place
    work.counts

-- what an iterator over the listing keeps: it searches unanchored and by Standard; where the span doesn't start past its
-- end its automaton has read it as far as it has come, and else it has read nothing
pub record IsListing (s : Scan) (t : ScanText) (reached : Option Reached) (work : Work) : Type 0 where
  pub standard : s.built.kind ≡ Standard
  pub unanchored : s.anchored ≡ No
  pub legal : t.end ≤ length t.bytes
  pub begun : MatchOption reached ((t.end < t.start) × (work ≡ nothing_done))
      (λ here. IsListed s t here × ScansTo s t t.start nothing_done here.at work)

-- the state at which a listing begins, or why it is refused: for its start, or for its match kind
abbrev pub StartsListing : AutomatonView → Anchored → Result ℕ MatchError → Type 0
StartsListing a anchored result =
    MatchResult result
    (λ state. (start_refusal a.built.start_kind anchored ≡ None) × (a.built.kind ≡ Standard) × a.stands anchored state (Some []))
    (λ e. (start_refusal a.built.start_kind anchored ≡ Some e)
    ⊎ ((start_refusal a.built.start_kind anchored ≡ None) × (a.built.kind ≢ Standard)
    × (e ≡ MatchError.UnsupportedOverlapping a.built.kind)))
