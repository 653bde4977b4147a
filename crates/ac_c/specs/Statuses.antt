-- Which status comes when, of the calls that take no memory.
use Rattle.std.specs.Prelude.{Bool, true, false, ℕ, ℤ, List, Option, None, Some}
use Rattle.ac_search.specs.Built.{find_refusal}
use Rattle.ac_search.specs.Occurrence.{Occurrence}
use Rattle.ac_search.specs.Searchers.{Searcher}
use Rattle.ac_search.specs.declared.MatchError.{MatchError}
use Rattle.ac_search.specs.declared.MatchError.TheVariants.{InvalidInputAnchored, InvalidInputUnanchored, UnsupportedEmpty, UnsupportedOverlapping, UnsupportedStream}
use Rattle.ac_c.specs.declared.search.Span.{Span}
use Rattle.ac_c.specs.declared.status.TheConstants.{ANCHORED, ARGUMENTS, EMPTY_PATTERN, FOUND, OK, OVERLAPPING, UNANCHORED}
use Rattle.ac_c.specs.Searches.{found_in, input_by, is_input}

-- the status of a refused search
abbrev pub refusal_status : MatchError → ℤ
refusal_status InvalidInputAnchored = ANCHORED
refusal_status InvalidInputUnanchored = UNANCHORED
refusal_status (UnsupportedOverlapping kind) = OVERLAPPING
refusal_status (UnsupportedStream kind) = OVERLAPPING
refusal_status UnsupportedEmpty = EMPTY_PATTERN

-- ARGUMENTS where an argument names nothing, then the status of what refuses the search, and else this one
abbrev pub status_unless : Bool → Option MatchError → ℤ → ℤ
status_unless false refusal status = ARGUMENTS
status_unless true None status = status
status_unless true (Some e) status = refusal_status e

-- whether something was found
abbrev pub found_status : Option Occurrence → ℤ
found_status None = OK
found_status (Some m) = FOUND

-- the status of a find in a span, of a walk over it, and of its listing
abbrev pub find_status : Searcher → List ℕ → Span → ℤ
find_status searcher haystack span =
    status_unless (is_input haystack span) (find_refusal searcher.built (input_by haystack span))
    (found_status (found_in searcher haystack span))

abbrev pub walk_status : Searcher → List ℕ → Span → ℤ
walk_status searcher haystack span =
    status_unless (is_input haystack span) (find_refusal searcher.built (input_by haystack span)) OK
