-- The list of all occurrences: it has each occurrence, nothing else, in strict order.
use Rattle.ac_util.proofs.Prelude.{◌≡◌, ℕ, ◌+◌, ◌-◌, ◌<◌, ◌≤◌, true, List, length, arith, Contains, AllPairs, rules, range_with_len, and_parts}
use Rattle.ac_util.specs.Prelude.{all, IsBefore, Occurrence, occurrence, Occurs, occurs, places, places_at, places_ending_at, Search, up_to}
use Rattle.std.proofs.lemmas.Slice.Eq.{bytes_eq-Decides}
use Rattle.ac_util.proofs.Lists.{IsIn, IsOrdered, IsIn-map, IsIn-from_map, IsIn-flat_map, IsIn-from_flat_map, IsIn-filter, IsIn-from_filter, IsIn-range, IsOrdered-map, IsOrdered-flat_map, IsOrdered-filter, IsOrdered-range, IsOrdered-unique, Contains-from_IsIn, IsIn-from_Contains, AllPairs-from_IsOrdered}

-- a place is in the list of places exactly if the span has room for it
pub place_in_span : (q : Search) (m : Occurrence) → m.pattern < length q.patterns → q.low ≤ m.start
    → m.start ≤ m.end → m.end ≤ q.high → IsIn m (places q)
place_in_span q m numbered low order high =
    IsIn-flat_map (places_ending_at q) m m.end (up_to q.low q.high)
    (IsIn-range m.end q.low (q.high + 1 - q.low) (omega arith) (omega arith))
    (IsIn-flat_map (places_at q m.end) m m.start (up_to q.low m.end)
    (IsIn-range m.start q.low (m.end + 1 - q.low) (omega arith) (omega arith))
    (IsIn-map (λ number. occurrence number m.start m.end) m.pattern (range_with_len 0 (length q.patterns))
    (IsIn-range m.pattern 0 (length q.patterns) (omega arith) (omega arith))))

-- what is tried at a start and an end starts and ends there
pub ends_at : (q : Search) (m : Occurrence) (end start : ℕ) → IsIn m (places_at q end start)
    → (m.end ≡ end) × (m.start ≡ start)
ends_at q m end start h = search (rules, IsIn-from_map)

-- what is tried at an end ends there
pub ends_at_end : (q : Search) (m : Occurrence) (end : ℕ) → IsIn m (places_ending_at q end) → m.end ≡ end
ends_at_end q m end h =
    let r = IsIn-from_flat_map (places_at q end) m (up_to q.low end) h in (ends_at q m end r.0 r.2).0

-- what is tried comes in order
pub places-ordered : (q : Search) → IsOrdered IsBefore (places q)
places-ordered q =
    IsOrdered-flat_map (λ x y. x < y) IsBefore (places_ending_at q) (up_to q.low q.high)
    (λ end. IsOrdered-flat_map (λ x y. x < y) IsBefore (places_at q end) (up_to q.low end)
    (λ start. IsOrdered-map (λ x y. x < y) IsBefore (λ number. occurrence number start end)
    (range_with_len 0 (length q.patterns))
    (λ x y l. record { ends = omega arith; starts = λ e. omega arith; patterns = λ e f. omega arith })
    (IsOrdered-range 0 (length q.patterns)))
    (λ s t u v l h k. let a = ends_at q u end s h in let b = ends_at q v end t k in
    record { ends = omega arith; starts = λ e. omega arith; patterns = λ e f. omega arith })
    (IsOrdered-range q.low (end + 1 - q.low)))
    (λ s t u v l h k. let a = ends_at_end q u s h in let b = ends_at_end q v t k in
    record { ends = omega arith; starts = λ e. omega arith; patterns = λ e f. omega arith })
    (IsOrdered-range q.low (q.high + 1 - q.low))

-- the test and the fact agree
pub occurs-true : (q : Search) (m : Occurrence) → Occurs q m → occurs q m ≡ true
occurs-true q m o = search rules

-- and back
pub Occurs-from_test : (q : Search) (m : Occurrence) → occurs q m ≡ true → Occurs q m
Occurs-from_test q m t = search (rules, and_parts, bytes_eq-Decides)

-- the list has exactly the occurrences
pub all-has : (q : Search) (m : Occurrence) → Occurs q m → IsIn m (all q)
unfolding all
all-has q m o =
    IsIn-filter (occurs q) m (places q)
    (place_in_span q m o.numbered o.from_low (let e = o.as_long in omega arith) o.to_high)
    (occurs-true q m o)

-- what is listed occurs
pub all-only : (q : Search) (m : Occurrence) → IsIn m (all q) → Occurs q m
unfolding all
all-only q m h = Occurs-from_test q m (IsIn-from_filter (occurs q) m (places q) h).1

-- what is listed comes in order
pub all-ordered : (q : Search) → IsOrdered IsBefore (all q)
unfolding all
all-ordered q = IsOrdered-filter IsBefore (occurs q) (places q) (places-ordered q)

-- no other list does
pub all-unique : (q : Search) (ms : List Occurrence) → ((m : Occurrence) → Occurs q m → IsIn m ms)
    → ((m : Occurrence) → IsIn m ms → Occurs q m) → IsOrdered IsBefore ms → ms ≡ all q
all-unique q ms has only o = search (rules, IsOrdered-unique, all-has, all-only, all-ordered)

-- the same in the words of std
pub Contains-all : (q : Search) (m : Occurrence) → Occurs q m → Contains (all q) m
Contains-all q m o = Contains-from_IsIn m (all q) (all-has q m o)

-- and back
pub Occurs-from_all : (q : Search) (m : Occurrence) → Contains (all q) m → Occurs q m
Occurs-from_all q m c = all-only q m (IsIn-from_Contains m (all q) c)

-- the order in the words of std
pub all-sorted : (q : Search) → AllPairs IsBefore (all q)
all-sorted q = AllPairs-from_IsOrdered IsBefore (all q) (all-ordered q)
