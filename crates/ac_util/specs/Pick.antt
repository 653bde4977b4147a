-- Which of all occurrences a search answers, by its match kind.
use Rattle.std.specs.Prelude.{◌≡◌, ℕ, ◌≤◌, Bool, false, ◌==◌, nat_lt, List, [], ◌∷◌, Option, None, Some, MatchOption, if◌then◌else◌}
use Rattle.ac_util.specs.declared.search.MatchKind.{MatchKind}
use Rattle.ac_util.specs.declared.search.MatchKind.TheVariants.{Standard, LeftmostFirst, LeftmostLongest}
use Rattle.ac_util.specs.Occurrence.{Occurrence, Search, Occurs}
use Rattle.ac_util.specs.Listing.{all}

-- a ends no later than b; where both end together it starts no later; where both also start together its number
-- is no greater
pub record IsFirstByEnd (a b : Occurrence) : Type 0 where
  pub ends : a.end ≤ b.end
  pub starts : a.end ≡ b.end → a.start ≤ b.start
  pub patterns : a.end ≡ b.end → a.start ≡ b.start → a.pattern ≤ b.pattern

-- a starts no later than b, and its number is no greater where both start together
pub record IsFirstByStart (a b : Occurrence) : Type 0 where
  pub starts : a.start ≤ b.start
  pub patterns : a.start ≡ b.start → a.pattern ≤ b.pattern

-- a starts no later than b; where both start together it is no shorter; where both also end together its number
-- is no greater
pub record IsFirstByLength (a b : Occurrence) : Type 0 where
  pub starts : a.start ≤ b.start
  pub ends : a.start ≡ b.start → b.end ≤ a.end
  pub patterns : a.start ≡ b.start → a.end ≡ b.end → a.pattern ≤ b.pattern

-- no occurrence at b is preferred to one at a
abbrev pub IsFirst : MatchKind → Occurrence → Occurrence → Type 0
IsFirst Standard a b = IsFirstByEnd a b
IsFirst LeftmostFirst a b = IsFirstByStart a b
IsFirst LeftmostLongest a b = IsFirstByLength a b

-- the order by which a search picks: with `earliest` that of Standard
abbrev pub order_of : MatchKind → Bool → MatchKind
order_of kind earliest = if earliest then Standard else kind

-- r occurs, and nothing that occurs is preferred to it; or r is None and nothing occurs
abbrev pub IsPick : MatchKind → Search → Option Occurrence → Type 0
IsPick kind q r =
    MatchOption r ((o : Occurrence) → ¬ Occurs q o)
    (λ m. Occurs q m × ((o : Occurrence) → Occurs q o → IsFirst kind m o))

-- at the first pair of two different numbers the left one is less
abbrev pub first_less : List (ℕ × ℕ) → Bool
first_less [] = false
first_less (p ∷ ps) = if p.0 == p.1 then first_less ps else nat_lt p.0 p.1

-- whether the kind prefers a to b
abbrev pub beats : MatchKind → Occurrence → Occurrence → Bool
beats Standard a b = first_less ((a.end, b.end) ∷ (a.start, b.start) ∷ (a.pattern, b.pattern) ∷ [])
beats LeftmostFirst a b = first_less ((a.start, b.start) ∷ (a.pattern, b.pattern) ∷ [])
beats LeftmostLongest a b = first_less ((a.start, b.start) ∷ (b.end, a.end) ∷ (a.pattern, b.pattern) ∷ [])

-- a, or the occurrence that is preferred to it
abbrev pub better : MatchKind → Occurrence → Option Occurrence → Occurrence
better kind a None = a
better kind a (Some b) = if beats kind b a then b else a

-- the one of the list that none beats
abbrev pub best : MatchKind → List Occurrence → Option Occurrence
best kind [] = None
best kind (m ∷ ms) = Some (better kind m (best kind ms))

-- the occurrence that a search of this kind answers
unfoldable pub pick : MatchKind → Search → Option Occurrence
pick kind q = best kind (all q)
