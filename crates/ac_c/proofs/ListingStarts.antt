-- From where the listing is made again, and where it ends.
use Rattle.ac_util.proofs.Prelude.{◌≡◌, ℕ, ◌-◌, ◌<◌, ◌≤◌, Bool, List, [], ◌∷◌, drop, filter, max, refl, ap, ◌∙◌, arith, Option, None, Some, drop_all}
use Rattle.ac_util.specs.declared.search.Anchored.{Anchored}
use Rattle.ac_util.specs.declared.search.Anchored.TheVariants.{No, Yes}
use Rattle.ac_util.specs.declared.search.MatchKind.{MatchKind}
use Rattle.ac_util.specs.declared.search.StartKind.{StartKind}
use Rattle.ac_util.specs.declared.error.MatchError.{MatchError}
use Rattle.ac_util.specs.declared.error.MatchError.TheVariants.{InvalidInputAnchored}
use Rattle.ac_util.specs.Built.{OverlappingIterator, empty_refusal, first_refusal, kind_refusal, refusal, start_refusal}
use Rattle.ac_util.specs.Patterns.{longest_len}
use Rattle.ac_util.specs.Prelude.{all, Occurrence, Occurs, Search}
use Rattle.ac_util.proofs.Lists.{filter-none}
use Rattle.ac_util.proofs.Listing.{all-only}
use Rattle.ac_util.proofs.Shortest.{longest-most}
use Rattle.ac_c.specs.Batches.{ends_from}
use Rattle.ac_c.proofs.LateListings.{ends_from-false}

-- a list of refusals of which the third is one refuses
third-refuses : (one two : Option MatchError) (e : MatchError) (more : List (Option MatchError))
    → first_refusal (one ∷ two ∷ Some e ∷ more) ≡ None → ⊥
third-refuses None None e more h = absurd (cc)
third-refuses None (Some f) e more h = absurd (cc)
third-refuses (Some f) two e more h = absurd (cc)

-- an iterator over the listing that isn't refused is of an input that isn't anchored
pub not-anchored : (start : StartKind) (kind : MatchKind) (anchored : Anchored) (has_empty : Bool)
    → refusal start kind (OverlappingIterator anchored) has_empty ≡ None → anchored ≡ No
not-anchored start kind No has_empty h = refl
not-anchored start kind Yes has_empty h =
    let refused = third-refuses (start_refusal start Yes) (kind_refusal kind (OverlappingIterator Yes)) in
    absurd (refused InvalidInputAnchored (empty_refusal (OverlappingIterator Yes) has_empty ∷ []) h)

-- what ends at a place or later starts no earlier than the longest pattern's length before it
pub starts-late : (q : Search) (at start : ℕ) → start ≤ max (at - longest_len q.patterns) q.low
    → (m : Occurrence) → Occurs q m → at ≤ m.end → start ≤ m.start
starts-late q at start near m o late =
    let long = longest-most q.patterns m.pattern o.numbered in omega (arith, long, o.as_long, o.from_low)

-- nothing is listed past the span
pub listed-past : (q : Search) (at given : ℕ) → q.high < at → drop given (filter (ends_from at) (all q)) ≡ []
listed-past q at given past =
    let none = filter-none (ends_from at) (all q) (λ m i.
    let o = all-only q m i in ends_from-false at m (omega (arith, o.to_high))) in
    ap (drop given) none ∙ drop_all given [] (omega arith)
