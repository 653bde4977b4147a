-- All occurrences of a search in one order, as an overlapping search gives them.
use Rattle.std.specs.Prelude.{◌≡◌, ℕ, ◌+◌, ◌-◌, ◌<◌, ◌≤◌, nat_lt, Option, List, length, map, flat_map, filter, slice_get, if◌then◌else◌}
use Rattle.std.specs.List.{range_with_len}
use Rattle.ac_util.specs.Occurrence.{Occurrence, occurrence, Search, occurs}

-- the numbers from a up to and with b
abbrev pub up_to : ℕ → ℕ → List ℕ
up_to a b = range_with_len a (b + 1 - a)

-- each pattern at one start and end
abbrev pub places_at : Search → ℕ → ℕ → List Occurrence
places_at q end start = map (λ number. occurrence number start end) (range_with_len 0 (length q.patterns))

-- each start, and there each pattern, at one end
abbrev pub places_ending_at : Search → ℕ → List Occurrence
places_ending_at q end = flat_map (places_at q end) (up_to q.low end)

-- each pattern at each offset that the span has room for: by end, then start, then pattern number
abbrev pub places : Search → List Occurrence
places q = flat_map (places_ending_at q) (up_to q.low q.high)

-- all occurrences, each once: by end, then start, then pattern number
unfoldable pub all : Search → List Occurrence
all q = filter (occurs q) (places q)

-- a stands before b in this order
pub record IsBefore (a b : Occurrence) : Type 0 where
  pub ends : a.end ≤ b.end
  pub starts : a.end ≡ b.end → a.start ≤ b.start
  pub patterns : a.end ≡ b.end → a.start ≡ b.start → a.pattern < b.pattern

-- an overlapping search has a rank: how many items it has given. This is the item that it gives next, if there
-- is one
abbrev pub item_at : Search → ℕ → Option Occurrence
item_at q place = slice_get (all q) place

-- the rank after it: one further on, or the same past the end
abbrev pub place_after : Search → ℕ → ℕ
place_after q place = if nat_lt place (length (all q)) then place + 1 else place
