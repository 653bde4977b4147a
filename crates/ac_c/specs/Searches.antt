-- Spans, matches and cursors of C, and what is found in a span.
use Rattle.std.specs.Prelude.{◌≡◌, ℕ, ◌+◌, ◌==◌, Bool, true, false, ◌&&◌, nat_le, nat_lt, List, length, MatchOption, Option, if◌then◌else◌}
use Rattle.ac_search.specs.Built.{find_result, search_in, walk_result}
use Rattle.ac_search.specs.Input.{InputView}
use Rattle.ac_search.specs.Listing.{all}
use Rattle.ac_search.specs.Occurrence.{Occurrence, occurrence}
use Rattle.ac_search.specs.Searchers.{Searcher}
use Rattle.ac_search.specs.declared.Anchored.TheVariants.{No, Yes}
use Rattle.ac_c.specs.declared.search.Cursor.{Cursor}
use Rattle.ac_c.specs.declared.search.FoundMatch.{FoundMatch}
use Rattle.ac_c.specs.declared.search.Span.{Span}

-- the span lies in the haystack, and its two flags are 0 or 1
abbrev pub is_input : List ℕ → Span → Bool
is_input haystack span =
    nat_le span.start span.end && nat_le span.end (length haystack)
    && nat_le span.anchored 1 && nat_le span.earliest 1

-- the input that it asks for
abbrev pub input_by : List ℕ → Span → InputView
input_by haystack span = record {
  haystack = haystack;
  start = span.start;
  end = span.end;
  anchored = if span.anchored == 1 then Yes else No;
  earliest = span.earliest == 1;
}

-- the occurrence that a match of C is
abbrev pub match_of : FoundMatch → Occurrence
match_of found = occurrence found.pattern found.start found.end

-- what a find in a span returns
abbrev pub found_in : Searcher → List ℕ → Span → Option Occurrence
found_in searcher haystack span = find_result searcher.built (input_by haystack span)

-- the matches of a walk over a span
abbrev pub walked_in : Searcher → List ℕ → Span → List Occurrence
walked_in searcher haystack span = walk_result searcher.built (input_by haystack span)

-- the occurrences of its listing
abbrev pub overlapping_in : Searcher → List ℕ → Span → List Occurrence
overlapping_in searcher haystack span = all (search_in searcher.built (input_by haystack span))

-- the cursor; or where it stands before the start of a span, the one at that start with nothing given
abbrev pub in_span : ℕ → Cursor → Cursor
in_span start cursor = if nat_lt cursor.at start then record { at = start; given = 0 } else cursor

-- a cursor past each span of the haystack
abbrev pub past : List ℕ → Cursor
past haystack = record { at = length haystack + 1; given = 0 }

-- a test is true, and what is seen of the answer is this value; or it is false, and there is none
abbrev pub AnswersIf : {X Y : Type 0} → Bool → (X → Y) → Y → Option X → Type 0
AnswersIf test seen value result = MatchOption result (test ≡ false) (λ x. (test ≡ true) × (seen x ≡ value))

-- the cursor once one more occurrence was given, which ends at this offset
abbrev pub stepped : Cursor → ℕ → Cursor
stepped cursor end =
    if cursor.at == end then record { at = cursor.at; given = cursor.given + 1 }
    else record { at = end; given = 1 }
