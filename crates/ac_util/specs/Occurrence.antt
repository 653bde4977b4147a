-- Occurrences of patterns, and what a search is asked.
use Rattle.std.specs.Prelude.{ℕ, ◌≡◌, ◌+◌, ◌≤◌, Bool, ◌==◌, List, map, bytes_eq, if◌then◌else◌, ◌<◌, true, ◌&&◌, nat_lt, nat_le, [], length, slice_range, slice_index_or}
use Rattle.std.specs.Char.{to_ascii_lowercase}
use Rattle.ac_util.specs.declared.search.Anchored.{Anchored}
use Rattle.ac_util.specs.declared.search.Anchored.TheVariants.{No, Yes}

-- a pattern's number, the offset of its first byte, and one past the offset of its last
pub record Occurrence : Type 0 where
  pub pattern : ℕ
  pub start : ℕ
  pub end : ℕ

-- the occurrence of a pattern from a start to an end
abbrev pub occurrence : ℕ → ℕ → ℕ → Occurrence
occurrence pattern start end = record { pattern = pattern; start = start; end = end }

-- the byte, or the small letter where case is ignored and the byte is a capital one
abbrev pub plain_byte : Bool → ℕ → ℕ
plain_byte ignores_case b = if ignores_case then to_ascii_lowercase b else b

-- each byte of a string as a plain byte
abbrev pub plain : Bool → List ℕ → List ℕ
plain ignores_case bytes = map (plain_byte ignores_case) bytes

-- two bytes are the same: they are equal, or one letter in its two cases where case is ignored
abbrev pub same_byte : Bool → ℕ → ℕ → Bool
same_byte ignores_case a b = plain_byte ignores_case a == plain_byte ignores_case b

-- a is an ASCII capital letter, and b is its small one
pub record IsCapitalOf (a b : ℕ) : Type 0 where
  pub from_A : 65 ≤ a
  pub to_Z : a ≤ 90
  pub small : b ≡ a + 32

-- two strings are the same: they have one length, and are the same byte by byte
abbrev pub IsSame : Bool → List ℕ → List ℕ → Type 0
IsSame ignores_case s t = plain ignores_case s ≡ plain ignores_case t

-- `IsSame` as a test
abbrev pub same_string : Bool → List ℕ → List ℕ → Bool
same_string ignores_case s t = bytes_eq (plain ignores_case s) (plain ignores_case t)

-- these patterns, in the bytes of the haystack from low up to high, and if anchored only at low; where
-- `ignores_case` is true the case of ASCII letters is ignored. Whoever asks for a search sees to it that high lies in the haystack
pub record Search : Type 0 where
  pub patterns : List (List ℕ)
  pub ignores_case : Bool
  pub haystack : List ℕ
  pub anchored : Anchored
  pub low : ℕ
  pub high : ℕ

-- the same search in a span that begins at this offset
abbrev pub from : Search → ℕ → Search
from q place = record q { low = place }

-- the pattern of this number
abbrev pub pattern_of : List (List ℕ) → ℕ → List ℕ
pattern_of patterns number = slice_index_or patterns number []

-- the pattern stands in the haystack from the start to the end of m, within the span, and if anchored at its
-- low end
pub record Occurs (q : Search) (m : Occurrence) : Type 0 where
  pub numbered : m.pattern < length q.patterns
  pub from_low : q.low ≤ m.start
  pub as_long : m.start + length (pattern_of q.patterns m.pattern) ≡ m.end
  pub to_high : m.end ≤ q.high
  pub reads : IsSame q.ignores_case (pattern_of q.patterns m.pattern) (slice_range q.haystack m.start m.end)
  pub at_low : q.anchored ≡ Yes → m.start ≡ q.low

-- whether a match may start at this offset of a span with this low end
abbrev pub may_start : Anchored → ℕ → ℕ → Bool
may_start No low start = true
may_start Yes low start = start == low

-- occurs as a test
abbrev pub occurs : Search → Occurrence → Bool
occurs q m =
    nat_lt m.pattern (length q.patterns)
    && nat_le q.low m.start
    && (m.start + length (pattern_of q.patterns m.pattern) == m.end)
    && nat_le m.end q.high
    && same_string q.ignores_case (pattern_of q.patterns m.pattern) (slice_range q.haystack m.start m.end)
    && may_start q.anchored q.low m.start
