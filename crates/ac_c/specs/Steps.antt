-- Words of private functions: where an iterator stands, by a cursor.
use Rattle.std.specs.Prelude.{◌≡◌, ◌⊎◌, ℕ, ◌≤◌, ◌++◌, All, List, [], ◌∷◌, filter, length, IfSome, MatchOption, MatchResult, Option, None, Some, Result}
use Rattle.ac_search.specs.Built.{find_refusal, overlapping_iter_refusal, search_in}
use Rattle.ac_search.specs.Input.{InputView}
use Rattle.ac_search.specs.Iterators.{Walking}
use Rattle.ac_search.specs.Listing.{all}
use Rattle.ac_search.specs.Occurrence.{Occurrence, Search, from}
use Rattle.ac_search.specs.Overlaps.{Overlapping}
use Rattle.ac_search.specs.Pick.{order_of}
use Rattle.ac_search.specs.Searchers.{Searcher}
use Rattle.ac_search.specs.Walk.{next_match}
use Rattle.ac_search.specs.declared.MatchError.{MatchError}
use Rattle.ac_c.specs.declared.search.Cursor.{Cursor}
use Rattle.ac_c.specs.declared.search.FoundMatch.{FoundMatch}
use Rattle.ac_c.specs.Batches.{Gives, ends_from, last_of, listing_from, walk_from}

-- the iterator of a walk stands where the cursor does: it may not know of the match before
pub record WalkStandsAt (walking : Walking) (cursor : Cursor) : Type 0 where
  pub at : walking.left.low ≡ cursor.at
  pub last : (walking.last ≡ None) ⊎ (walking.last ≡ last_of cursor)

-- another offset of the same walk
pub record IsOfWalk (walking new_walking : Walking) : Type 0 where
  pub order : new_walking.picking.order ≡ walking.picking.order
  pub left : from new_walking.left 0 ≡ from walking.left 0

-- the next match after the cursor was taken, or there is none, and the iterator has gone past it
pub record HasTaken (walking : Walking) (cursor : Cursor) (found : Option Occurrence) (new_walking : Walking)
    : Type 0 where
  pub next : found ≡ next_match walking.picking.order (from walking.left cursor.at) (last_of cursor)
  pub same : IsOfWalk walking new_walking
  pub beyond : IfSome found (λ m. (new_walking.left.low ≡ m.end) × (new_walking.last ≡ Some m.end))

-- what is left of a listing stands at a cursor: nothing that was passed over ends after it, and `given` of that end at it
pub record StandsInListing (q : Search) (rest : List Occurrence) (at given : ℕ) : Type 0 where
  pub passed : List Occurrence
  pub listing : all q ≡ passed ++ rest
  pub ends : All (λ m. m.end ≤ at) passed
  pub counted : length (filter (ends_from at) passed) ≡ given

-- so does what the iterator of a listing has left
abbrev pub ListingStandsAt : Overlapping → Cursor → Type 0
ListingStandsAt listing cursor = StandsInListing listing.search listing.rest cursor.at cursor.given

-- the first that was due at a cursor is given, and the others are due at the new one; or nothing was due, and the cursor stays
abbrev pub GivesFirst : (Cursor → List Occurrence) → Cursor → Option Occurrence → Cursor → Type 0
GivesFirst due cursor found new_cursor =
    MatchOption found ((due cursor ≡ []) × (new_cursor ≡ cursor)) (λ m. due cursor ≡ m ∷ due new_cursor)

-- a batch gives what was due where nothing refuses the search, and else it changes nothing in `out`
abbrev pub GivesUnless : Option MatchError → (Cursor → List Occurrence) → Cursor → Cursor → List FoundMatch
    → List FoundMatch → Result ℕ MatchError → Type 0
GivesUnless refusal due cursor new_cursor out new_out result =
    MatchResult result (λ filled. (refusal ≡ None) × Gives due cursor new_cursor out new_out filled)
    (λ e. (refusal ≡ Some e) × (new_out ≡ out))

-- a batch of an input's walk does so, and one of its listing
abbrev pub WalksUnless : Searcher → InputView → Cursor → Cursor → List FoundMatch → List FoundMatch
    → Result ℕ MatchError → Type 0
WalksUnless searcher input = GivesUnless (find_refusal searcher.built input)
    (walk_from (order_of searcher.built.kind input.earliest) (search_in searcher.built input))

abbrev pub ListsUnless : Searcher → InputView → Cursor → Cursor → List FoundMatch → List FoundMatch
    → Result ℕ MatchError → Type 0
ListsUnless searcher input =
    GivesUnless (overlapping_iter_refusal searcher.built input) (listing_from (search_in searcher.built input))
