-- The listing of a span begins with that of each beginning of it, and ends where the dead node is reached.
use Rattle.ac_util.proofs.Prelude.{◌≡◌, ℕ, zero, suc, ◌+◌, ◌<◌, ◌≤◌, List, [], ◌∷◌, ◌++◌, length, ap, arith, Some, None, slice_get, rules, le-ltb, lt-ltb, slice_get_within, common_steps}
use Rattle.ac_util.specs.Prelude.{all, item_at, Occurrence, place_after, plain_patterns, reached, Search, Standard, text}
use Rattle.ac_util.proofs.Lists.{nil-from_none}
use Rattle.ac_util.proofs.Listing.{all-only}
use Rattle.ac_util.proofs.ListingLonger.{all-longer}
use Rattle.ac_util.proofs.OneLonger.{nothing_found}
use Rattle.ac_util.proofs.Spans.{nothing-past_end, longer_by}

-- a span that begins past its end has nothing to list
pub all-past_end : (q : Search) → q.high < q.low → all q ≡ []
all-past_end q past = nil-from_none (all q) (λ m h. nothing-past_end q m past (all-only q m h))

-- what a longer span lists besides
pub record ListsMore (q longer : Search) : Type 0 where
  pub later : List Occurrence
  pub goes_on : all longer ≡ all q ++ later

-- the listing of a span that ends n places later goes on with that of the span
pub all-longer_by : (q : Search) (n : ℕ) → q.low ≤ q.high → q.high + n ≤ length q.haystack
    → ListsMore q (longer_by q n)
all-longer_by q zero order room = grind (arith, common_steps)
all-longer_by q (suc n) order room =
    grind (arith, common_steps, all-longer_by q n order (omega arith), all-longer (longer_by q n) (omega arith) (omega arith))

-- once dead, nothing more is listed however much longer the span is
pub all-dead : (q : Search) → q.low ≤ q.high
    → reached Standard (plain_patterns q) q.anchored (text q) ≡ None
    → (n : ℕ) → q.high + n ≤ length q.haystack → all (longer_by q n) ≡ all q
all-dead q order dead zero room = ap (λ (h : ℕ). all (record q { high = h })) (omega arith)
all-dead q order dead (suc n) room =
    search (rules, all-longer (longer_by q n) (omega arith) (omega arith), all-dead q order dead n (omega arith), nothing_found)

-- a list has no element at its end or past it
past-from_none : {X : Type 0} (xs : List X) (k : ℕ) → slice_get xs k ≡ None → length xs ≤ k
past-from_none [] k e = omega arith
past-from_none (x ∷ xs) zero e = absurd (cc)
past-from_none (x ∷ xs) (suc k) e = let l = past-from_none xs k e in omega arith

-- where the listing has no item its place stays
pub item-none : (q : Search) (place : ℕ) → item_at q place ≡ None
    → (length (all q) ≤ place) × (place_after q place ≡ place)
item-none q place none = search (rules, le-ltb, past-from_none)

-- and else it goes on
pub item-some : (q : Search) (place : ℕ) (m : Occurrence) → item_at q place ≡ Some m
    → (place < length (all q)) × (place_after q place ≡ place + 1)
item-some q place m some = search (rules, lt-ltb, slice_get_within)
