-- Searches with their answers, as the definitions compute them: tables of what is asked and what the answer is.
use Rattle.ac_util.proofs.Prelude.{◌≡◌, ℕ, true, false, List, [], ◌∷◌, ◌++◌, Option, Some, length, map, codes, refl}
use Rattle.ac_util.specs.Prelude.{all, LeftmostFirst, LeftmostLongest, MatchKind, No, Occurrence, occurrence, order_of, pick, Search, Standard, walk, walk_after, Yes}

-- a search of a whole text, unanchored, where case counts
abbrev pub in_text : List (List ℕ) → List ℕ → Search
in_text patterns haystack = record {
  patterns = patterns;
  ignores_case = false;
  haystack = haystack;
  anchored = No;
  low = 0;
  high = length haystack;
}

-- the same search anchored
abbrev pub at_start : Search → Search
at_start q = record q { anchored = Yes }

-- the same search where case is ignored
abbrev pub caseless : Search → Search
caseless q = record q { ignores_case = true }

-- the same search in a span
abbrev pub within : ℕ → ℕ → Search → Search
within low high q = record q { low = low; high = high }

-- the lists of patterns and the texts that several rows share
abbrev pub apple_words : List (List ℕ)
apple_words = codes "apple" ∷ codes "maple" ∷ codes "Snapple" ∷ []

abbrev pub apple_text : List ℕ
apple_text = codes "Nobody likes maple in their apple flavored Snapple."

abbrev pub append_words : List (List ℕ)
append_words = codes "append" ∷ codes "appendage" ∷ codes "app" ∷ []

abbrev pub append_text : List ℕ
append_text = codes "append the app to the appendage"

abbrev pub nested_words : List (List ℕ)
nested_words = codes "b" ∷ codes "abc" ∷ codes "abcd" ∷ []

abbrev pub pronouns : List (List ℕ)
pronouns = codes "he" ∷ codes "she" ∷ codes "his" ∷ codes "hers" ∷ []

abbrev pub alphabet_words_after : List ℕ → List (List ℕ)
alphabet_words_after p = p ∷ codes "abcdefghi" ∷ codes "hz" ∷ codes "abcdefgh" ∷ []

-- a find by an order, and its answer
abbrev pub AreFinds : List (MatchKind × Search × Option Occurrence) → Type 0
AreFinds rows = map (λ row. pick row.0 row.1) rows ≡ map (λ row. row.2) rows

-- a walk by an order, and its matches
abbrev pub AreWalks : List (MatchKind × Search × List Occurrence) → Type 0
AreWalks rows = map (λ row. walk row.0 row.1) rows ≡ map (λ row. row.2) rows

-- a search, and all that occurs
abbrev pub AreListings : List (Search × List Occurrence) → Type 0
AreListings rows = map (λ row. all row.0) rows ≡ map (λ row. row.1) rows

-- a row of a table
abbrev pub row : {X : Type 0} → MatchKind → Search → X → MatchKind × Search × X
row order q answer = (order, q, answer)

-- the same of a listing
abbrev pub listed : Search → List Occurrence → Search × List Occurrence
listed q answer = (q, answer)

-- three rows in which every kind answers alike
abbrev pub each : {X : Type 0} → Search → X → List (MatchKind × Search × X)
each q answer = row Standard q answer ∷ row LeftmostFirst q answer ∷ row LeftmostLongest q answer ∷ []

-- the same where the earliest end is wanted
abbrev pub each_earliest : {X : Type 0} → Search → X → List (MatchKind × Search × X)
each_earliest q answer =
    row (order_of Standard true) q answer ∷ row (order_of LeftmostFirst true) q answer
    ∷ row (order_of LeftmostLongest true) q answer ∷ []

-- one pattern at a time in a sentence: every kind answers alike
apple-walks : AreWalks (
    each (in_text apple_words apple_text) (occurrence 1 13 18 ∷ occurrence 0 28 33 ∷ occurrence 2 43 50 ∷ []))
unfolding walk_after pick all
apple-walks = refl

-- patterns inside each other: what ends first, what comes first in the list, what is longest
nested-finds : AreFinds (
    row Standard (in_text nested_words (codes "abcd")) (Some (occurrence 0 1 2))
    ∷ row LeftmostFirst (in_text nested_words (codes "abcd")) (Some (occurrence 1 0 3))
    ∷ row LeftmostLongest (in_text nested_words (codes "abcd")) (Some (occurrence 2 0 4))
    ∷ [])
unfolding pick all
nested-finds = refl

-- a search that wants the earliest end picks as Standard does, whatever its kind
nested-earliest-finds : AreFinds (
    each_earliest (in_text nested_words (codes "abcd")) (Some (occurrence 0 1 2))
    ++ each_earliest (in_text nested_words (codes "foo abcd")) (Some (occurrence 0 5 6)))
unfolding pick all
nested-earliest-finds = refl

-- the shorter pattern ends first, the longer one stands first in the list
samwise-finds : AreFinds (
    row Standard (in_text (codes "Samwise" ∷ codes "Sam" ∷ []) (codes "Samwise")) (Some (occurrence 1 0 3))
    ∷ row LeftmostFirst (in_text (codes "Samwise" ∷ codes "Sam" ∷ []) (codes "Samwise"))
    (Some (occurrence 0 0 7))
    ∷ [])
unfolding pick all
samwise-finds = refl

-- three patterns with a common prefix
append-walks : AreWalks (
    row Standard (in_text append_words append_text)
    (occurrence 2 0 3 ∷ occurrence 2 11 14 ∷ occurrence 2 22 25 ∷ [])
    ∷ row LeftmostFirst (in_text append_words append_text)
    (occurrence 0 0 6 ∷ occurrence 2 11 14 ∷ occurrence 0 22 28 ∷ [])
    ∷ row LeftmostLongest (in_text append_words append_text)
    (occurrence 0 0 6 ∷ occurrence 2 11 14 ∷ occurrence 1 22 31 ∷ [])
    ∷ [])
unfolding walk_after pick all
append-walks = refl

-- all their occurrences, and those at the start alone
append-listings : AreListings (
    listed (in_text append_words append_text)
    (occurrence 2 0 3 ∷ occurrence 0 0 6 ∷ occurrence 2 11 14 ∷ occurrence 2 22 25 ∷ occurrence 0 22 28
    ∷ occurrence 1 22 31 ∷ [])
    ∷ listed (at_start (in_text append_words append_text)) (occurrence 2 0 3 ∷ occurrence 0 0 6 ∷ [])
    ∷ [])
unfolding all
append-listings = refl

-- the empty pattern beside a letter: no match is empty where the match before it ended
empty-or-a-walk : walk Standard (in_text (codes "" ∷ codes "a" ∷ []) (codes "a"))
    ≡ occurrence 0 0 0 ∷ occurrence 0 1 1 ∷ []
unfolding walk_after pick all
empty-or-a-walk = refl

empty-or-a-listing : all (in_text (codes "" ∷ codes "a" ∷ []) (codes "a"))
    ≡ occurrence 0 0 0 ∷ occurrence 1 0 1 ∷ occurrence 0 1 1 ∷ []
unfolding all
empty-or-a-listing = refl

-- after an empty pick even an anchored walk may pass one byte
empty-or-a-longest-walks : AreWalks (
    row LeftmostLongest (in_text (codes "" ∷ codes "a" ∷ []) (codes "ba"))
    (occurrence 0 0 0 ∷ occurrence 1 1 2 ∷ [])
    ∷ row LeftmostLongest (at_start (in_text (codes "" ∷ codes "a" ∷ []) (codes "ba")))
    (occurrence 0 0 0 ∷ occurrence 1 1 2 ∷ [])
    ∷ [])
unfolding walk_after pick all
empty-or-a-longest-walks = refl

-- what starts first goes before what ends first, and a longer pattern that fails in the end gives no match
alphabet-walks : AreWalks (
    row LeftmostFirst (in_text (alphabet_words_after (codes "a")) (codes "abcdefghz"))
    (occurrence 0 0 1 ∷ occurrence 2 7 9 ∷ [])
    ∷ row LeftmostLongest (in_text (alphabet_words_after (codes "a")) (codes "abcdefghz"))
    (occurrence 3 0 8 ∷ [])
    ∷ row LeftmostFirst (in_text (alphabet_words_after (codes "b")) (codes "abcdefghz")) (occurrence 3 0 8 ∷ [])
    ∷ row LeftmostLongest (in_text (alphabet_words_after (codes "b")) (codes "abcdefghz"))
    (occurrence 3 0 8 ∷ [])
    ∷ [])
unfolding walk_after pick all
alphabet-walks = refl

-- the empty pattern last in the list is picked where no earlier one starts
trailing-empty-find-first :
    pick LeftmostFirst (in_text (codes "abc" ∷ codes "bd" ∷ codes "" ∷ []) (codes "abd"))
    ≡ Some (occurrence 2 0 0)
unfolding pick all
trailing-empty-find-first = refl

trailing-empty-walk-first :
    walk LeftmostFirst (in_text (codes "abc" ∷ codes "bd" ∷ codes "" ∷ []) (codes "abd"))
    ≡ occurrence 2 0 0 ∷ occurrence 1 1 3 ∷ []
unfolding walk_after pick all
trailing-empty-walk-first = refl

-- one pattern twice: the lesser number is picked, both are listed
twice-finds : AreFinds (each (in_text (codes "ab" ∷ codes "ab" ∷ []) (codes "abab")) (Some (occurrence 0 0 2)))
unfolding pick all
twice-finds = refl

twice-listing : all (in_text (codes "ab" ∷ codes "ab" ∷ []) (codes "abab"))
    ≡ occurrence 0 0 2 ∷ occurrence 1 0 2 ∷ occurrence 0 2 4 ∷ occurrence 1 2 4 ∷ []
unfolding all
twice-listing = refl
