-- Which occurrences end at a place or later, and from where the listing has to be made again for these.
use Rattle.ac_util.proofs.Prelude.{◌≡◌, ℕ, ◌<◌, ◌≤◌, true, false, filter, sym, arith, rules, tests}
use Rattle.ac_util.specs.declared.search.Anchored.TheVariants.{No}
use Rattle.ac_util.specs.Prelude.{all, from, IsBefore, Occurrence, Occurs, Search}
use Rattle.ac_util.proofs.Lists.{IsIn-filter, IsIn-from_filter, IsOrdered-filter, IsOrdered-unique}
use Rattle.ac_util.proofs.Listing.{all-has, all-only, all-ordered}
use Rattle.ac_c.specs.Batches.{ends_from}

-- what ends at a place or later passes, and nothing else
pub ends_from-true : (at : ℕ) (m : Occurrence) → at ≤ m.end → ends_from at m ≡ true
ends_from-true at m later = search (rules, tests)

pub ends_from-only : (at : ℕ) (m : Occurrence) → ends_from at m ≡ true → at ≤ m.end
ends_from-only at m passes = search (rules, tests)

pub ends_from-false : (at : ℕ) (m : Occurrence) → m.end < at → ends_from at m ≡ false
ends_from-false at m earlier = search (rules, tests)

-- two occurrences don't stand before one another
before-apart : (x y : Occurrence) → IsBefore x y → IsBefore y x → ⊥
before-apart x y a b =
    let ends : x.end ≡ y.end = omega (arith, a.ends, b.ends) in
    let starts : x.start ≡ y.start = omega (arith, a.starts ends, b.starts (sym ends)) in
    omega (arith, a.patterns ends starts, b.patterns (sym ends) (sym starts))

-- what occurs in a span occurs in one that begins later, where it starts in that
occurs-later : (q : Search) (start : ℕ) (m : Occurrence) → q.anchored ≡ No → Occurs q m → start ≤ m.start
    → Occurs (from q start) m
occurs-later q start m free o later = record {
  numbered = o.numbered;
  from_low = later;
  as_long = o.as_long;
  to_high = o.to_high;
  reads = o.reads;
  at_low = λ yes. absurd (cc);
}

-- and back
occurs-earlier : (q : Search) (start : ℕ) (m : Occurrence) → q.anchored ≡ No → q.low ≤ start
    → Occurs (from q start) m → Occurs q m
occurs-earlier q start m free low o = record {
  numbered = o.numbered;
  from_low = omega (arith, o.from_low);
  as_long = o.as_long;
  to_high = o.to_high;
  reads = o.reads;
  at_low = λ yes. absurd (cc);
}

-- where all that ends at a place or later starts in a span that begins later, the listing of that is the same from the place
-- on
pub listing-later : (q : Search) (at start : ℕ) → q.anchored ≡ No → q.low ≤ start
    → ((m : Occurrence) → Occurs q m → at ≤ m.end → start ≤ m.start)
    → filter (ends_from at) (all (from q start)) ≡ filter (ends_from at) (all q)
listing-later q at start free low late =
    let p = from q start in let ends = ends_from at in
    IsOrdered-unique IsBefore before-apart (filter ends (all p)) (filter ends (all q))
    (λ m h. let i = IsIn-from_filter ends m (all p) h in
    IsIn-filter ends m (all q) (all-has q m (occurs-earlier q start m free low (all-only p m i.0))) i.1)
    (λ m h. let i = IsIn-from_filter ends m (all q) h in let o = all-only q m i.0 in
    let starts = late m o (ends_from-only at m i.1) in
    IsIn-filter ends m (all p) (all-has p m (occurs-later q start m free o starts)) i.1)
    (IsOrdered-filter IsBefore ends (all p) (all-ordered p)) (IsOrdered-filter IsBefore ends (all q) (all-ordered q))
