-- At the start of a span all is due.
use Rattle.ac_util.proofs.Prelude.{◌≡◌, ℕ, ◌≤◌, refl, ap, ◌∙◌, arith, inl, inr, cases_lt, lt-ltb, le-ltb}
use Rattle.ac_search.specs.Built.{search_in}
use Rattle.ac_search.specs.Listing.{all}
use Rattle.ac_search.specs.Occurrence.{Search}
use Rattle.ac_search.specs.Pick.{order_of}
use Rattle.ac_util.proofs.Listing.{all-only}
use Rattle.ac_c.specs.Batches.{BeginsWithAll, ends_from, listing_due, listing_from, walk_due, walk_from}
use Rattle.ac_c.specs.Searches.{in_span, input_by, overlapping_in, walked_in}
use Rattle.ac_c.proofs.LateListings.{ends_from-true}
use Rattle.ac_c.proofs.ListLemmas.{filter-all}
use Rattle.std.specs.Prelude.{◌==◌}

-- a cursor at the start of a span or before it, where nothing was given, is one at its start
at-start : (start at : ℕ) → at ≤ start → in_span start (record { at = at; given = 0 }) ≡ record { at = start; given = 0 }
at-start start at low = elim (cases_lt at start) [
  | inl before ↦ rw (lt-ltb at start before) refl
  | inr here ↦ rw (le-ltb at start here) (ap (λ (n : ℕ). record { at = n; given = 0 }) (omega arith))
]

pub walk-begins : BeginsWithAll walk_due walked_in
walk-begins searcher haystack span at low =
    let q = search_in searcher.built (input_by haystack span) in
    ap (walk_from (order_of searcher.built.kind (span.earliest == 1)) q) (at-start span.start at low)

-- all occurrences end at the start of the span or later
from-start : (q : Search) → listing_from q (record { at = q.low; given = 0 }) ≡ all q
from-start q = filter-all (ends_from q.low) (all q) (λ m i.
    let o = all-only q m i in ends_from-true q.low m (omega (arith, o.from_low, o.as_long)))

pub listing-begins : BeginsWithAll listing_due overlapping_in
listing-begins searcher haystack span at low =
    let q = search_in searcher.built (input_by haystack span) in
    ap (listing_from q) (at-start span.start at low) ∙ from-start q
