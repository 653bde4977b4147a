-- One more number, start or end tried adds what occurs there.
use Rattle.ac_util.proofs.Prelude.{◌≡◌, ℕ, zero, suc, ◌+◌, ◌-◌, Bool, true, false, cond, List, [], ◌∷◌, ◌++◌, map, refl, ap, ◌∙◌, arith, filter, flat_map, IsTrue, ◌↔◌, rules, range_with_len, append_assoc, filter_of_map_range_with_len_more, common_steps}
use Rattle.ac_util.specs.Prelude.{all, Occurrence, occurrence, Occurs, occurs, places_ending_at, Search}
use Rattle.ac_util.proofs.Listing.{occurs-true}

-- what a list of places adds
abbrev pub occurring : Search → List Occurrence → List Occurrence
occurring q ms = filter (occurs q) ms

-- the places of the first n numbers
abbrev pub first_numbers : ℕ → ℕ → ℕ → List Occurrence
first_numbers start end n = map (λ number. occurrence number start end) (range_with_len 0 n)

-- the test gives what was found out otherwise
pub occurs-is : (q : Search) (m : Occurrence) (b : Bool) → (IsTrue b ↔ Occurs q m) → occurs q m ≡ b
occurs-is q m true h = occurs-true q m (h.0 refl)
occurs-is q m false h = search rules

-- one more number
pub occurring-number : (q : Search) (start end n : ℕ) (b : Bool)
    → (IsTrue b ↔ Occurs q (occurrence n start end))
    → occurring q (first_numbers start end (n + 1))
    ≡ occurring q (first_numbers start end n) ++ cond b (occurrence n start end ∷ []) []
occurring-number q start end n b h =
    filter_of_map_range_with_len_more (occurs q) (λ number. occurrence number start end) 0 n n (omega arith)
    ∙ ap (λ t. occurring q (first_numbers start end n) ++ cond t (occurrence n start end ∷ []) [])
    (occurs-is q (occurrence n start end) b h)

-- a range and the number after it
pub range-more : (a n j : ℕ) → a + n ≡ j → range_with_len a (suc n) ≡ range_with_len a n ++ j ∷ []
range-more a zero j e = ap (λ k. k ∷ []) (omega arith)
range-more a (suc n) j e = ap (λ ks. a ∷ ks) (range-more (a + 1) n j (omega arith))

-- one more start, or one more end
pub occurring-more : (q : Search) (places : ℕ → List Occurrence) (a n k j : ℕ) → suc n ≡ k → a + n ≡ j
    → occurring q (flat_map places (range_with_len a k))
    ≡ occurring q (flat_map places (range_with_len a n)) ++ occurring q (places j)
occurring-more q places a n k j e f = grind (arith, common_steps, range-more a n j f)

-- what a round of a loop adds to what the rounds before it added
pub added_more : (q : Search) (places : ℕ → List Occurrence) (a n k j : ℕ) (before items new : List Occurrence)
    → suc n ≡ k → a + n ≡ j
    → items ≡ before ++ occurring q (flat_map places (range_with_len a n))
    → new ≡ items ++ occurring q (places j) → new ≡ before ++ occurring q (flat_map places (range_with_len a k))
added_more q places a n k j before items new e f is more = search (rules, append_assoc, occurring-more)

-- what a number adds, by whether it occurs
pub number_added : (q : Search) (start end n : ℕ) (b : Bool) (before items new : List Occurrence)
    → (IsTrue b ↔ Occurs q (occurrence n start end))
    → items ≡ before ++ occurring q (first_numbers start end n)
    → new ≡ items ++ cond b (occurrence n start end ∷ []) []
    → new ≡ before ++ occurring q (first_numbers start end (n + 1))
number_added q start end n b before items new h is more = search (rules, append_assoc, occurring-number)

-- what occurs at all ends is all that occurs
pub all-from_ends : (q : Search) (n : ℕ) → n ≡ q.high + 1 - q.low
    → occurring q (flat_map (places_ending_at q) (range_with_len q.low n)) ≡ all q
unfolding all
all-from_ends q n e = ap (λ k. occurring q (flat_map (places_ending_at q) (range_with_len q.low k))) e
