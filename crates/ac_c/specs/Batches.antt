-- What is due at a cursor, and what a batch gives of it.
use Rattle.std.specs.Prelude.{◌≡◌, ◌==◌, ℕ, ◌<◌, ◌≤◌, ◌++◌, Bool, List, [], drop, filter, length, map, nat_le, take, Option, None, Some, if◌then◌else◌}
use Rattle.ac_search.specs.Built.{search_in}
use Rattle.ac_search.specs.Listing.{all}
use Rattle.ac_search.specs.Occurrence.{Occurrence, Search, from}
use Rattle.ac_search.specs.Pick.{order_of}
use Rattle.ac_search.specs.Searchers.{Searcher}
use Rattle.ac_search.specs.Walk.{walk_after}
use Rattle.ac_search.specs.declared.MatchKind.{MatchKind}
use Rattle.ac_c.specs.declared.search.Cursor.{Cursor}
use Rattle.ac_c.specs.declared.search.FoundMatch.{FoundMatch}
use Rattle.ac_c.specs.declared.search.Span.{Span}
use Rattle.ac_c.specs.Searches.{in_span, input_by, match_of}

-- where the match before a cursor of a walk ended, or None where there was none
abbrev pub last_of : Cursor → Option ℕ
last_of cursor = if cursor.given == 0 then None else Some cursor.at

-- the matches of a walk from a cursor on
abbrev pub walk_from : MatchKind → Search → Cursor → List Occurrence
walk_from order q cursor = walk_after order (from q cursor.at) (last_of cursor)

-- an occurrence ends at this offset or later
abbrev pub ends_from : ℕ → Occurrence → Bool
ends_from place m = nat_le place m.end

-- the occurrences of the listing from a cursor on: those that end there or later, without the first `given` of them
abbrev pub listing_from : Search → Cursor → List Occurrence
listing_from q cursor = drop cursor.given (filter (ends_from cursor.at) (all q))

-- the matches that are due at a cursor in a walk over a span
abbrev pub walk_due : Searcher → List ℕ → Span → Cursor → List Occurrence
walk_due searcher haystack span cursor =
    walk_from (order_of searcher.built.kind (span.earliest == 1))
    (search_in searcher.built (input_by haystack span)) (in_span span.start cursor)

-- the occurrences that are due there in its listing
abbrev pub listing_due : Searcher → List ℕ → Span → Cursor → List Occurrence
listing_due searcher haystack span cursor =
    listing_from (search_in searcher.built (input_by haystack span)) (in_span span.start cursor)

-- at the start of a span or before it, where nothing was given, all are due
abbrev pub BeginsWithAll : (Searcher → List ℕ → Span → Cursor → List Occurrence)
    → (Searcher → List ℕ → Span → List Occurrence) → Type 0
BeginsWithAll due all_in =
    (searcher : Searcher) (haystack : List ℕ) (span : Span) (at : ℕ) → at ≤ span.start
    → due searcher haystack span (record { at = at; given = 0 }) ≡ all_in searcher haystack span

-- a batch gives the first that were due: they are the first `filled` of `out`, and those that are due then follow them. The
-- rest of `out` is as it was, and fewer than `out` has room for are given only where nothing more is due
pub record Gives (due : Cursor → List Occurrence) (cursor new_cursor : Cursor)
    (out new_out : List FoundMatch) (filled : ℕ) : Type 0 where
  pub given : map match_of (take filled new_out) ++ due new_cursor ≡ due cursor
  pub kept : drop filled new_out ≡ drop filled out
  pub fits : filled ≤ length out
  pub ends : filled < length out → due new_cursor ≡ []

-- nothing is given, and the cursor and `out` are as they were
pub record GivesNothing (cursor new_cursor : Cursor) (out new_out : List FoundMatch) (filled : ℕ) : Type 0 where
  pub stays : new_cursor ≡ cursor
  pub kept : new_out ≡ out
  pub none : filled ≡ 0
