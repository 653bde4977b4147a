-- The plain walk: what is left of it after each match.
use Rattle.ac_util.proofs.Prelude.{◌≡◌, ℕ, ◌+◌, ◌-◌, ◌<◌, ◌≤◌, List, [], ◌∷◌, ◌++◌, arith, Option, Some, None, MatchOption, rules, append_assoc, common_steps}
use Rattle.ac_util.specs.Prelude.{from, MatchKind, next_match, Occurrence, pick, Search, walk, walk_after}
use Rattle.ac_util.proofs.Walks.{pick-Occurs, next-in_span, next-beyond, walk_after-None, walk_after-Some}

-- a span in which something is picked starts no later than it ends
pub pick-low : (kind : MatchKind) (q : Search) (m : Occurrence) → pick kind q ≡ Some m → q.low ≤ q.high
pick-low kind q m e = grind (arith, common_steps, pick-Occurs kind q m e)

-- the walk from its next match on
abbrev pub walk_from : MatchKind → Search → Option Occurrence → List Occurrence
walk_from kind q None = []
walk_from kind q (Some m) = m ∷ walk_after kind (from q m.end) (Some m.end)

-- the walk after `last` is the one from its next match on
pub walk_after-walk_from : (kind : MatchKind) (q : Search) (last : Option ℕ) (next : Option Occurrence)
    → next_match kind q last ≡ next → walk_after kind q last ≡ walk_from kind q next
walk_after-walk_from kind q last None e = walk_after-None kind q last e
walk_after-walk_from kind q last (Some m) e = walk_after-Some kind q last m e

-- how far the next match ends before the end of the span, and 0 where there is none
abbrev pub room_after : Search → Option Occurrence → ℕ
room_after q None = 0
room_after q (Some m) = q.high + 1 - m.end

-- the next match, if there is one, ends within the span
abbrev pub EndsWithin : Search → Option Occurrence → Type 0
EndsWithin q next = MatchOption next (Unit {0}) (λ m. m.end ≤ q.high)

-- as each next match does
pub next-EndsWithin : (kind : MatchKind) (q : Search) (last : Option ℕ) (next : Option Occurrence)
    → next_match kind q last ≡ next → EndsWithin q next
next-EndsWithin kind q last None e = tt
next-EndsWithin kind q last (Some m) e = let o = next-in_span kind q last m e in o.to_high

-- each next match leaves less room
pub room-falls : (kind : MatchKind) (q : Search) (m : Occurrence) (next : Option Occurrence) → m.end ≤ q.high
    → next_match kind (from q m.end) (Some m.end) ≡ next → room_after q next < room_after q (Some m)
room-falls kind q m None l e = omega arith
room-falls kind q m (Some n) l e = search (rules, next-beyond kind (from q m.end) n e)

-- the walk begins with its first match
pub begun : (kind : MatchKind) (q : Search) (matches : List Occurrence) (next : Option Occurrence)
    → matches ≡ [] → next_match kind q None ≡ next → matches ++ walk_from kind q next ≡ walk kind q
begun kind q matches next none e = search (rules, walk_after-walk_from)

-- a match is taken, and what follows it is left
pub taken : (kind : MatchKind) (q : Search) (matches more : List Occurrence) (m : Occurrence)
    (next : Option Occurrence) → more ≡ matches ++ m ∷ [] → next_match kind (from q m.end) (Some m.end) ≡ next
    → more ++ walk_from kind q next ≡ matches ++ walk_from kind q (Some m)
taken kind q matches more m next is e = search (rules, append_assoc, walk_after-walk_from)
