-- What the listing does of a text that comes in pieces, each of which is handed to it.
use Rattle.std.specs.Prelude.{◌≡◌, ◌⊎◌, ℕ, ◌+◌, ◌<◌, ◌≤◌, Bool, true, List, [], ◌∷◌, ◌++◌, Option, None, Some, MatchOption, MatchResult, Result, ⊤, length, take}
use Rattle.ac_automaton.specs.Util.{Built, IsStreamRefused, MatchError, No, Occurrence, OverlappingByState, Search, Standard, Stream, StreamError, all, empty_refusal, first_refusal, has_empty, item_at, kind_refusal, search_in, start_refusal, usize_max, whole_input}
use Rattle.ac_automaton.specs.Automata.{AutomatonView}
use Rattle.ac_automaton.specs.Overlaps.{HasListed, given_in}
use Rattle.ac_automaton.specs.declared.automaton.listing.Reached.{Reached}

-- what its automaton was built from; all bytes that were taken; how many items of their listing were given
pub record PieceListing : Type 0 where
  pub built : Built
  pub bytes : List ℕ
  pub given : ℕ

-- one with these parts, in this order
abbrev pub piece_listing : Built → List ℕ → ℕ → PieceListing
piece_listing built bytes given = record { built = built; bytes = bytes; given = given }

-- one of which nothing came
abbrev pub nothing_listed : Built → PieceListing
nothing_listed built = piece_listing built [] 0

-- the search of all bytes that were taken, as one haystack, and the listing of that
abbrev pub search_taken : PieceListing → Search
search_taken v = search_in v.built (whole_input v.bytes)

abbrev pub listed_taken : PieceListing → List Occurrence
listed_taken v = all (search_taken v)

-- why it is refused, if it is: as an overlapping search, and for an empty pattern as a stream
abbrev pub piece_listing_refusal : Built → Option MatchError
piece_listing_refusal built =
    first_refusal (
    start_refusal built.start_kind No
    ∷ kind_refusal built.kind (OverlappingByState No)
    ∷ empty_refusal Stream (has_empty built)
    ∷ [])

-- it begins, or is refused
abbrev pub BeginsPieceListing : {X : Type 0} → Built → (X → Type 0) → Result X StreamError → Type 0
BeginsPieceListing built Begun result =
    MatchResult result (λ x. (piece_listing_refusal built ≡ None) × Begun x) (IsStreamRefused (piece_listing_refusal built) ⊤)

-- the items that were given are the first ones too of the listing of these bytes
abbrev pub KeepsListed : PieceListing → List ℕ → Type 0
KeepsListed v bytes = take v.given (listed_taken (record v { bytes = bytes })) ≡ take v.given (listed_taken v)

-- the next item was given of the listing of all that was taken, and it ends where that ends
pub record GivesTaken (old : PieceListing) (m : Occurrence) (new : PieceListing) : Type 0 where
  pub next : item_at (search_taken old) old.given ≡ Some m
  pub same : new ≡ record old { given = old.given + 1 }
  pub numbered : m.pattern < length old.built.patterns
  pub ordered : m.start ≤ m.end
  pub ends : m.end ≡ length old.bytes

-- all items were given
pub record HasGivenTaken (old new : PieceListing) : Type 0 where
  pub same : new ≡ old
  pub all : old.given ≡ length (listed_taken old)

-- the next item was given, or there is none
abbrev pub GivesNextTaken : PieceListing → Option Occurrence → PieceListing → Type 0
GivesNextTaken old result new = MatchOption result (HasGivenTaken old new) (λ m. GivesTaken old m new)

-- some bytes of a piece were taken, as far as usize counts them, and these are left. The next item was given of the listing of all
-- that was taken, or there is none, and then the piece was taken whole. The items given before stay, and so do those given now,
-- whatever follows
pub record ListsTaken (old : PieceListing) (piece : List ℕ) (result : Option Occurrence) (new : PieceListing) (left : List ℕ)
    : Type 0 where
  pub taken : List ℕ
  pub parted : piece ≡ taken ++ left
  pub kept : KeepsListed old (old.bytes ++ taken)
  pub gives : GivesNextTaken (record old { bytes = old.bytes ++ taken }) result new
  pub whole : result ≡ None → (left ≡ []) ⊎ (length new.bytes ≡ usize_max)
  pub small : length new.bytes ≤ usize_max
  pub stays : (more : List ℕ) → KeepsListed new (new.bytes ++ more)

-- bytes of a piece were taken up to where an item ends, or all of them, as far as usize counts, and these are left
pub record TakesToItem (old : PieceListing) (piece : List ℕ) (new : PieceListing) (left : List ℕ) : Type 0 where
  pub taken : List ℕ
  pub parted : piece ≡ taken ++ left
  pub same : new ≡ record old { bytes = old.bytes ++ taken }
  pub enough : (left ≡ []) ⊎ (length new.bytes ≡ usize_max) ⊎ (new.given < length (listed_taken new))

-- how it stands between two calls: its automaton has followed all that was taken, and the matches that are left there are the
-- items that are still to be given
pub record IsPieceListing (a : AutomatonView) (stopping : Bool) (reached : Reached) (v : PieceListing) : Type 0 where
  pub standard : a.built.kind ≡ Standard
  pub stops : stopping ≡ true
  pub at : reached.at ≡ length v.bytes
  pub small : length v.bytes ≤ usize_max
  pub listed : HasListed (a.stands No) a.listed a.built.kind (search_taken v) reached
  pub given : v.given ≡ given_in a.listed (search_taken v) reached
