-- How a search may skip ahead to where a match can start, and what is known of what it skips.
use Rattle.std.specs.Prelude.{◌≡◌, ◌⊎◌, ℕ, ◌<◌, ◌≤◌, Bool, false, ◌&&◌, nat_le, not, ◌==◌, true, List, [], ◌∷◌, length, filter, slice_index_or, Option, None, Some, IfSome, MatchOption, option_map, if◌then◌else◌}
use Rattle.std.specs.List.{list_any, range_with_len}
use Rattle.std.specs.Option.{is_some}
use Rattle.ac_util.specs.declared.prefilter.Candidate.{Candidate}
use Rattle.ac_util.specs.declared.prefilter.Candidate.TheVariants.{None as Nothing, Match as Found, PossibleStart}
use Rattle.ac_util.specs.declared.prefilter.FirstBytes.{FirstBytes}
use Rattle.ac_util.specs.declared.prefilter.FirstBytes.TheVariants.{One, Two, Three}
use Rattle.ac_util.specs.declared.prefilter.Prefilter.{Prefilter}
use Rattle.ac_util.specs.declared.prefilter.Prefilter.TheVariants.{Bytes as ByBytes, Needle as ByNeedle}
use Rattle.ac_util.specs.declared.search.Anchored.{Anchored}
use Rattle.ac_util.specs.declared.search.Anchored.TheVariants.{No, Yes}
use Rattle.ac_util.specs.declared.search.MatchKind.{MatchKind}
use Rattle.ac_util.specs.declared.search.MatchKind.TheVariants.{Standard}
use Rattle.memchr.specs.Find.{IsFirst, Passes}
use Rattle.ac_util.specs.Node.{is_empty}
use Rattle.ac_util.specs.Occurrence.{Occurrence, plain_byte, same_byte, Search, Occurs}
use Rattle.ac_util.specs.Pick.{pick}

-- a search skips to the first of some bytes, or to the first offset of a needle
pub data Skip : Type 0 where
  FirstOf : List ℕ → Skip
  Needle : List ℕ → Skip

-- whether a pattern begins with this byte, or where case is ignored with the same letter
abbrev pub begins_with : Bool → ℕ → List ℕ → Bool
begins_with ignores_case b [] = false
begins_with ignores_case b (c ∷ p) = same_byte ignores_case b c

-- the bytes with which patterns begin, in ascending order
unfoldable pub first_bytes : Bool → List (List ℕ) → List ℕ
first_bytes ignores_case patterns = filter (λ b. list_any (begins_with ignores_case b) patterns) (range_with_len 0 256)

-- whether the byte is one of these
abbrev pub is_one_of : List ℕ → ℕ → Bool
is_one_of bytes b = list_any (λ a. b == a) bytes

-- how many patterns a search may have at most to skip by their first bytes
abbrev pub MOST_PATTERNS : ℕ
MOST_PATTERNS = 100

-- how many first bytes they may have at most
abbrev pub MOST_BYTES : ℕ
MOST_BYTES = 3

-- how a search for some patterns skips by their first bytes, if they and these are few
abbrev pub skip_by_bytes : Bool → List (List ℕ) → Option Skip
skip_by_bytes ignores_case patterns =
    if nat_le (length patterns) MOST_PATTERNS && nat_le (length (first_bytes ignores_case patterns)) MOST_BYTES
    then Some (FirstOf (first_bytes ignores_case patterns)) else None

-- how a search for patterns that aren't empty skips: for a single one by itself where case counts, else by
-- their first bytes
abbrev pub skip_among : Bool → List (List ℕ) → Option Skip
skip_among ignores_case [] = None
skip_among false (p ∷ []) = Some (Needle p)
skip_among ignores_case (p ∷ ps) = skip_by_bytes ignores_case (p ∷ ps)

-- how a search skips where the setting is on: not at all where some pattern is empty, since a match may then
-- start anywhere
abbrev pub skip_for : Bool → Bool → List (List ℕ) → Option Skip
skip_for on ignores_case patterns = if on && not (list_any is_empty patterns) then skip_among ignores_case patterns else None

-- whether a search may call a prefilter, where the setting is on or off: there is one for its patterns, and a
-- match may start anywhere
abbrev pub may_skip : Bool → Search → Bool
may_skip on q = skips_in q.anchored (is_some (skip_for on q.ignores_case q.patterns))
  where
    skips_in : Anchored → Bool → Bool
    skips_in No some = some
    skips_in Yes some = false

-- the bytes by which a prefilter skips
abbrev pub first_bytes_of : FirstBytes → List ℕ
first_bytes_of (One a) = a ∷ []
first_bytes_of (Two a b) = a ∷ b ∷ []
first_bytes_of (Three a b c) = a ∷ b ∷ c ∷ []

-- how a prefilter skips
abbrev pub skip_of : {Z : Type 0} → Prefilter Z → Skip
skip_of (ByBytes first) = FirstOf (first_bytes_of first)
skip_of (ByNeedle needle) = Needle needle

-- how many first bytes a search skips by; a needle is none
abbrev pub byte_count : Skip → ℕ
byte_count (FirstOf bytes) = length bytes
byte_count (Needle needle) = 0

-- whether the plain byte of a byte is marked
abbrev pub is_marked : Bool → List Bool → ℕ → Bool
is_marked ignores_case marks b = slice_index_or marks (plain_byte ignores_case b) false

-- the marks say of each byte what the test says
abbrev pub AreMarksOf : Bool → List Bool → (ℕ → Bool) → Type 0
AreMarksOf ignores_case marks test = (b : ℕ) → is_marked ignores_case marks b ≡ test b

-- the bytes whose plain byte is marked, in ascending order
abbrev pub marked : Bool → List Bool → List ℕ
marked ignores_case marks = filter (is_marked ignores_case marks) (range_with_len 0 256)

-- a prefilter skips by these bytes; or there is none, since they are none or more than three
abbrev pub SkipsByFew : List ℕ → Option FirstBytes → Type 0
SkipsByFew bytes result =
    MatchOption result ((bytes ≡ []) ⊎ (3 < length bytes)) (λ first. first_bytes_of first ≡ bytes)

-- no pattern is empty, and each begins with one of the bytes
pub record BeginWith (bytes : List ℕ) (ignores_case : Bool) (patterns : List (List ℕ)) : Type 0 where
  pub some : list_any is_empty patterns ≡ false
  pub begins : (b : ℕ) → list_any (begins_with ignores_case b) patterns ≡ true → is_one_of bytes b ≡ true

-- a search for the patterns may skip so: they begin with these bytes, or the needle is the only one and case counts
abbrev pub IsSkipFor : Skip → Bool → List (List ℕ) → Type 0
IsSkipFor (FirstOf bytes) ignores_case patterns = BeginWith bytes ignores_case patterns
IsSkipFor (Needle needle) ignores_case patterns = (ignores_case ≡ false) × (patterns ≡ needle ∷ [])

-- this is the prefilter for the patterns, and it may skip so; or there is none for them
abbrev pub IsPrefilterFor : {Z : Type 0} → Bool → List (List ℕ) → Option (Prefilter Z) → Type 0
IsPrefilterFor ignores_case patterns found =
    (option_map skip_of found ≡ skip_for true ignores_case patterns)
    × IfSome found (λ p. IsSkipFor (skip_of p) ignores_case patterns)

-- the unanchored search for patterns in a span of the haystack
abbrev pub search_over : Bool → List (List ℕ) → List ℕ → ℕ → ℕ → Search
search_over ignores_case patterns haystack low high =
    record { patterns = patterns; ignores_case = ignores_case; haystack = haystack; anchored = No; low = low; high = high }

-- what is known of a span in which a match may start here at first, or nowhere
abbrev pub start_candidate : Option ℕ → Candidate
start_candidate None = Nothing
start_candidate (Some place) = PossibleStart place

-- what is known of a span in which this match is picked, or none
abbrev pub match_candidate : Option Occurrence → Candidate
match_candidate None = Nothing
match_candidate (Some m) = Found m

-- the first offset of a span that holds one of the bytes
abbrev pub IsFirstAmong : List ℕ → List ℕ → ℕ → ℕ → Option ℕ → Type 0
IsFirstAmong bytes haystack low high place = IsFirst (Passes (is_one_of bytes) haystack) low high place

-- the match in a span that a search for the needle alone picks, by any match kind
abbrev pub IsNeedleMatch : List ℕ → List ℕ → ℕ → ℕ → Option Occurrence → Type 0
IsNeedleMatch needle haystack low high found =
    (kind : MatchKind) → pick kind (search_over false (needle ∷ []) haystack low high) ≡ found

-- what a skip says of a span: the first offset of it that holds one of the bytes; or the match that a search for
-- the needle alone picks
abbrev pub IsCandidateFor : Skip → List ℕ → ℕ → ℕ → Candidate → Type 0
IsCandidateFor (FirstOf bytes) haystack low high candidate =
    (place : Option ℕ) × IsFirstAmong bytes haystack low high place × (candidate ≡ start_candidate place)
IsCandidateFor (Needle needle) haystack low high candidate =
    candidate ≡ match_candidate (pick Standard (search_over false (needle ∷ []) haystack low high))

-- what a candidate says of a span: nothing occurs in it; the match is what is picked, by any kind; or nothing
-- that occurs starts before the offset
abbrev pub Promises : Search → Candidate → Type 0
Promises q Nothing = (m : Occurrence) → ¬ Occurs q m
Promises q (Found m) = (kind : MatchKind) → pick kind q ≡ Some m
Promises q (PossibleStart place) =
    (q.low ≤ place) × (place ≤ q.high) × ((m : Occurrence) → Occurs q m → place ≤ m.start)

-- a candidate says so of each search that may skip so
abbrev pub PromisesFor : Skip → List ℕ → ℕ → ℕ → Candidate → Type 0
PromisesFor skip haystack low high candidate =
    (ignores_case : Bool) (patterns : List (List ℕ)) → IsSkipFor skip ignores_case patterns
    → Promises (search_over ignores_case patterns haystack low high) candidate
