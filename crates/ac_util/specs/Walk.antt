-- The matches of a search that goes on after each match: none overlaps the one before it.
use Rattle.std.specs.Prelude.{ℕ, zero, suc, ◌+◌, ◌-◌, ◌<◌, ◌≤◌, Bool, true, false, ◌&&◌, ◌==◌, List, [], ◌∷◌, Option, None, Some}
use Rattle.ac_util.specs.declared.search.MatchKind.{MatchKind}
use Rattle.ac_util.specs.Occurrence.{Occurrence, Search, from}
use Rattle.ac_util.specs.Pick.{pick}

-- whether a match is empty and ends where the match before it did
abbrev pub repeats : Option Occurrence → Option ℕ → Bool
repeats None last = false
repeats (Some m) None = false
repeats (Some m) (Some last) = m.start == m.end && m.end == last

-- the pick of the span, or where that repeats the pick one byte further on
abbrev pub unless_repeated : MatchKind → Search → Option Occurrence → Bool → Option Occurrence
unless_repeated kind q m false = m
unless_repeated kind q m true = pick kind (from q (q.low + 1))

-- the next match, after one that ended at `last`
abbrev pub next_match : MatchKind → Search → Option ℕ → Option Occurrence
next_match kind q last = let m = pick kind q in unless_repeated kind q m (repeats m last)

-- the walk that begins with this match, as far as n matches
abbrev pub continued : MatchKind → Search → ℕ → Option Occurrence → List Occurrence
continued kind q zero m = []
continued kind q (suc n) None = []
continued kind q (suc n) (Some m) = m ∷ continued kind q n (next_match kind (from q m.end) (Some m.end))

-- the matches of the span after one that ended at `last`, which is its low end, or None where there was none.
-- Their ends rise, so the span has no room for more than these
unfoldable pub walk_after : MatchKind → Search → Option ℕ → List Occurrence
walk_after kind q last = continued kind q (q.high + 1 - q.low) (next_match kind q last)

-- the matches of the span, one after another
abbrev pub walk : MatchKind → Search → List Occurrence
walk kind q = walk_after kind q None

-- b starts no earlier than a ends, and ends later: the two don't overlap, and b isn't empty at the end of a
pub record IsAfter (a b : Occurrence) : Type 0 where
  pub apart : a.end ≤ b.start
  pub rises : a.end < b.end
