-- What a prefilter says of a span, and what that promises of a search of the span.
use Rattle.ac_util.proofs.Prelude.{◌≡◌, ℕ, ◌+◌, ◌-◌, ◌<◌, ◌≤◌, Bool, true, false, List, [], ◌∷◌, length, get_or, Option, Some, None, option_map, inl, inr, refl, ap, sym, ◌∙◌, subst, arith, length-take, length-drop, get_or-take, get_or-drop, slice_range, rules, eq-eqb, cases_lt, false≢true, common_steps}
use Rattle.ac_util.specs.Prelude.{begins_with, BeginWith, Candidate, FirstOf, is_empty, is_one_of, IsNeedleMatch, IsPick, IsSkipFor, LeftmostFirst, LeftmostLongest, match_candidate, MatchKind, Occurrence, occurrence, Occurs, pick, plain_byte, Promises, Search, search_over, Skip, Standard, start_candidate, IsCandidateFor, None as Nothing, Needle}
use Rattle.memchr.specs.Find.{IsFirst, IsFirstByte, FindsNeedle, OccursAt, Passes}
use Rattle.ac_util.specs.Pick as Order
use Rattle.ac_util.proofs.OneLonger.{none-past_end}
use Rattle.ac_util.proofs.Picks.{pick-IsPick, pick-from_IsPick}
use Rattle.ac_util.proofs.SamenessLemmas.{IsSame-at, IsSame-from_places}

-- a range within the list has its length
length-range : (xs : List ℕ) (low high : ℕ) → low ≤ high → high ≤ length xs
    → length (slice_range xs low high) ≡ high - low
length-range xs low high ordered within = simp (length-take, length-drop) (omega arith)

-- a byte of a range is one of the list
range-at : (xs : List ℕ) (low high k : ℕ) → k < high - low
    → get_or (slice_range xs low high) k 0 ≡ get_or xs (low + k) 0
range-at xs low high k h = rw (get_or-take, get_or-drop)

-- the first place by P is, that much further, the first by Q, where Q says there what P says here
first_moved : (P Q : ℕ → Type 0) (low n high : ℕ) (r : Option ℕ) → low + n ≡ high
    → ((k : ℕ) → k < n → P k → Q (low + k)) → ((k : ℕ) → k < n → Q (low + k) → P k)
    → IsFirst P 0 n r → IsFirst Q low high (option_map (λ k. low + k) r)
first_moved P Q low n high None e to fro none =
    λ k l h q. none (k - low) (omega arith) (omega arith)
    (fro (k - low) (omega arith) (subst Q (let s : k ≡ low + (k - low) = omega arith in s) q))
first_moved P Q low n high (Some k) e to fro (b, p) = (
  record {
    low = omega arith;
    high = let h = b.high in omega arith;
    before = λ j l h q. b.before (j - low) (omega arith) (omega arith)
        (fro (j - low) (let h' = b.high in omega arith) (subst Q (let s : j ≡ low + (j - low) = omega arith in s) q));
  },
  to k b.high p,
)

-- the first byte of a range that passes is the first of the list that passes in the range
pub first_in_range : (test : ℕ → Bool) (hay : List ℕ) (low high : ℕ) (r : Option ℕ) → low ≤ high
    → high ≤ length hay → IsFirstByte test (slice_range hay low high) r
    → IsFirst (Passes test hay) low high (option_map (λ k. low + k) r)
first_in_range test hay low high r ordered within h = search (rules, first_moved, length-range, range-at)

-- a pattern that isn't empty begins with each byte that is the same as its first one
begins : (ignores_case : Bool) (b : ℕ) (p : List ℕ) → is_empty p ≡ false
    → plain_byte ignores_case (get_or p 0 0) ≡ plain_byte ignores_case b → begins_with ignores_case b p ≡ true
begins ignores_case b [] e h = absurd (false≢true (sym e))
begins ignores_case b (c ∷ p) e h = eq-eqb (plain_byte ignores_case b) (plain_byte ignores_case c) (sym h)

-- a search for patterns that begin with some bytes
module _ (bytes : List ℕ) (ignores_case : Bool) (patterns : List (List ℕ)) (hay : List ℕ) (low high : ℕ)
    (begin : BeginWith bytes ignores_case patterns) where
  -- what occurs isn't empty, and starts with one of the bytes
  starts_so : (m : Occurrence) → Occurs (search_over ignores_case patterns hay low high) m
      → (m.start < m.end) × Passes (is_one_of bytes) hay m.start
  starts_so m o = grind (arith, common_steps)

  -- so nothing starts before the first place that holds one of the bytes
  bytes_promise : (place : Option ℕ) → IsFirst (Passes (is_one_of bytes) hay) low high place
      → Promises (search_over ignores_case patterns hay low high) (start_candidate place)
  bytes_promise None none = λ m o. let s = starts_so m o in none m.start o.from_low (omega (arith, s.0, o.to_high)) s.1
  bytes_promise (Some k) (b, p) = (
    b.low,
    (let h = b.high in omega arith),
    λ m o. elim (cases_lt m.start k) [
      | inl l ↦ absurd (b.before m.start o.from_low l (starts_so m o).1)
      | inr l ↦ l
    ],
  )

-- a search for a needle alone where case counts
module _ (needle : List ℕ) (hay : List ℕ) (low high : ℕ) where
  abbrev alone : Search
  alone = search_over false (needle ∷ []) hay low high

  -- the needle from this place on
  abbrev standing : ℕ → Occurrence
  standing start = occurrence 0 start (start + length needle)

  -- each occurrence is as long as the needle
  ends : (m : Occurrence) → Occurs alone m → m.start + length needle ≡ m.end
  ends m o = grind (arith, common_steps)

  -- the first by its end is the first in each order
  first_by_all : (kind : MatchKind) (m o : Occurrence) → Occurs alone m → Occurs alone o
      → Order.IsFirstByEnd m o → Order.IsFirst kind m o
  first_by_all Standard m o x y h = h
  first_by_all LeftmostFirst m o x y h = grind (arith, common_steps)
  first_by_all LeftmostLongest m o x y h = grind (arith, common_steps)

  -- what Standard picks is picked by each kind
  picked_by_all : (kind : MatchKind) (r : Option Occurrence) → IsPick Standard alone r → IsPick kind alone r
  picked_by_all kind None h = h
  picked_by_all kind (Some m) h = (h.0, λ o occurs. first_by_all kind m o h.0 occurs (h.1 o occurs))

  -- so it is the match of the needle
  pub needle_match : (r : Option Occurrence) → pick Standard alone ≡ r → IsNeedleMatch needle hay low high r
  needle_match r e =
      λ kind. sym (pick-from_IsPick kind alone (pick Standard alone)
      (picked_by_all kind (pick Standard alone) (pick-IsPick Standard alone))) ∙ e

  -- and is promised
  needle_promise : (r : Option Occurrence) → pick Standard alone ≡ r → Promises alone (match_candidate r)
  needle_promise None e = subst (λ (w : Option Occurrence). IsPick Standard alone w) e (pick-IsPick Standard alone)
  needle_promise (Some m) e = needle_match (Some m) e

  -- each occurrence is the needle at its start
  stands : (m : Occurrence) → Occurs alone m → m ≡ standing m.start
  stands m o = grind (arith, common_steps)

  -- the first place at which the needle occurs is what Standard picks
  first_stands : (r : Option ℕ) → IsFirst (λ k. Occurs alone (standing k)) low (high + 1) r
      → IsPick Standard alone (option_map standing r)
  first_stands None none = grind (arith, common_steps)
  first_stands (Some k) (b, p) = grind (arith, common_steps)

  -- where the needle stands in the range it occurs
  occurs_from_range : (k : ℕ) → low ≤ high → high ≤ length hay → OccursAt (slice_range hay low high) needle k
      → Occurs alone (standing (low + k))
  occurs_from_range k ordered within at = search (rules, IsSame-from_places, length-range, range-at)

  -- and back
  range_from_occurs : (k : ℕ) → low ≤ high → high ≤ length hay → Occurs alone (standing (low + k))
      → OccursAt (slice_range hay low high) needle k
  range_from_occurs k ordered within o =
      let long = length-range hay low high ordered within in
      let to_high = o.to_high in
      record {
        fits = omega arith;
        reads = λ j h.
            range-at hay low high (k + j) (omega arith)
            ∙ ap (λ (i : ℕ). get_or hay i 0) (let e : low + (k + j) ≡ low + k + j = omega arith in e)
            ∙ sym (range-at hay (low + k) (low + k + length needle) j (omega arith))
            ∙ sym (IsSame-at false needle (slice_range hay (low + k) (low + k + length needle)) o.reads j h);
      }

  -- the first place of the needle in the range is what Standard picks
  pub needle_found : (r : Option ℕ) → low ≤ high → high ≤ length hay
      → FindsNeedle (slice_range hay low high) needle 0 r
      → option_map standing (option_map (λ k. low + k) r) ≡ pick Standard alone
  needle_found r ordered within h =
      let long = length-range hay low high ordered within in
      pick-from_IsPick Standard alone (option_map standing (option_map (λ k. low + k) r))
      (first_stands (option_map (λ k. low + k) r)
      (first_moved (OccursAt (slice_range hay low high) needle) (λ k. Occurs alone (standing k)) low
      (length (slice_range hay low high) + 1) (high + 1) r (omega arith)
      (λ k l. occurs_from_range k ordered within) (λ k l. range_from_occurs k ordered within) h))

-- what a skip says is promised of each search that may skip so
pub promised : (skip : Skip) (ignores_case : Bool) (patterns : List (List ℕ)) (hay : List ℕ) (low high : ℕ)
    (candidate : Candidate) → IsCandidateFor skip hay low high candidate → IsSkipFor skip ignores_case patterns
    → Promises (search_over ignores_case patterns hay low high) candidate
promised (FirstOf bytes) ignores_case patterns hay low high candidate (place, first, is) begin =
    grind (arith, common_steps, bytes_promise bytes ignores_case patterns hay low high begin place first)
promised (Needle needle) ignores_case patterns hay low high candidate is (counts, single) = search (rules, needle_promise)

-- where a span starts past its end a skip says nothing
pub says-nothing : (skip : Skip) (hay : List ℕ) (low high : ℕ) → high < low → IsCandidateFor skip hay low high Nothing
says-nothing (FirstOf bytes) hay low high past = (None, (λ k from below. absurd (omega arith)), refl)
says-nothing (Needle needle) hay low high past = search (rules, none-past_end)
