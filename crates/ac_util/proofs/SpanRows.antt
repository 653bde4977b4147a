-- Searches with their answers, as the definitions compute them: anchored ones, those in spans and without case, and more of
-- patterns inside each other.
use Rattle.ac_util.proofs.Prelude.{◌≡◌, [], ◌∷◌, ◌++◌, None, Some, codes, true, refl}
use Rattle.ac_util.specs.Prelude.{all, LeftmostFirst, LeftmostLongest, occurrence, order_of, pick, Standard, walk, walk_after}
use Rattle.ac_util.proofs.SearchRows.{apple_text, AreFinds, AreListings, AreWalks, at_start, caseless, each, each_earliest, in_text, listed, nested_words, pronouns, row, within}

-- an anchored search looks at the start of its span alone
later-nested-finds : AreFinds (
    row LeftmostFirst (in_text nested_words (codes "foo abcd")) (Some (occurrence 1 4 7))
    ∷ row LeftmostFirst (at_start (in_text nested_words (codes "foo abcd"))) None
    ∷ row LeftmostFirst (at_start (within 4 8 (in_text nested_words (codes "foo abcd"))))
    (Some (occurrence 1 4 7))
    ∷ [])
unfolding pick all
later-nested-finds = refl

-- an anchored walk goes on as long as one match stands right after another
foo-bar-quux-anchored-walk :
    walk LeftmostFirst
    (at_start (in_text (codes "foo" ∷ codes "bar" ∷ codes "quux" ∷ []) (codes "fooquuxbar foo")))
    ≡ occurrence 0 0 3 ∷ occurrence 2 3 7 ∷ occurrence 1 7 10 ∷ []
unfolding walk_after pick all
foo-bar-quux-anchored-walk = refl

-- without patterns nothing is found
no-patterns-finds : AreFinds (each (in_text [] (codes "abc")) None)
unfolding pick all
no-patterns-finds = refl

no-patterns-walks : AreWalks (each (in_text [] (codes "abc")) [])
unfolding walk_after pick all
no-patterns-walks = refl

no-patterns-listing : all (in_text [] (codes "abc")) ≡ []
unfolding all
no-patterns-listing = refl

-- the empty pattern in an empty text, and in a span that ends before it starts
empty-in-nothing-walks : AreWalks (each (in_text (codes "" ∷ []) (codes "")) (occurrence 0 0 0 ∷ []))
unfolding walk_after pick all
empty-in-nothing-walks = refl

empty-past-the-end-finds : AreFinds (each (within 4 3 (in_text (codes "" ∷ []) (codes "abc"))) None)
unfolding pick all
empty-past-the-end-finds = refl

-- an occurrence counts where the whole of it lies in the span
abc-in-spans-finds : AreFinds (
    each (within 1 4 (in_text (codes "abc" ∷ []) (codes "xabcx"))) (Some (occurrence 0 1 4))
    ++ each (within 1 3 (in_text (codes "abc" ∷ []) (codes "xabcx"))) None
    ++ each (within 2 5 (in_text (codes "abc" ∷ []) (codes "xabcx"))) None
    ++ each (within 5 5 (in_text (codes "abc" ∷ []) (codes "xabcx"))) None)
unfolding pick all
abc-in-spans-finds = refl

-- where case is ignored capital and small letters are the same, else they are not
caseless-walks : AreWalks (
    each (caseless (in_text (codes "FOO" ∷ codes "bAr" ∷ codes "BaZ" ∷ []) (codes "foo bar baz")))
    (occurrence 0 0 3 ∷ occurrence 1 4 7 ∷ occurrence 2 8 11 ∷ [])
    ++ each (in_text (codes "FOO" ∷ codes "bAr" ∷ codes "BaZ" ∷ []) (codes "foo bar baz")) []
    ++ each (caseless (in_text (codes "apple" ∷ codes "maple" ∷ codes "snapple" ∷ []) apple_text))
    (occurrence 1 13 18 ∷ occurrence 0 28 33 ∷ occurrence 2 43 50 ∷ []))
unfolding walk_after pick all
caseless-walks = refl

-- pronouns inside each other
ushers-find : pick Standard (in_text pronouns (codes "ushers")) ≡ Some (occurrence 1 1 4)
unfolding pick all
ushers-find = refl

ushers-walk : walk Standard (in_text pronouns (codes "ushers")) ≡ occurrence 1 1 4 ∷ []
unfolding walk_after pick all
ushers-walk = refl

-- Standard takes what ends first, and goes on from there
a-or-aa-walks : AreWalks (
    row Standard (in_text (codes "a" ∷ codes "aa" ∷ []) (codes "aaa"))
    (occurrence 0 0 1 ∷ occurrence 0 1 2 ∷ occurrence 0 2 3 ∷ [])
    ∷ row Standard (in_text (codes "" ∷ []) (codes "ab"))
    (occurrence 0 0 0 ∷ occurrence 0 1 1 ∷ occurrence 0 2 2 ∷ [])
    ∷ [])
unfolding walk_after pick all
a-or-aa-walks = refl

bc-before-abcd : pick Standard (in_text (codes "bc" ∷ codes "abcd" ∷ []) (codes "abcd"))
    ≡ Some (occurrence 0 1 3)
unfolding pick all
bc-before-abcd = refl

-- LeftmostFirst falls back on a later start only where the earlier one fails
abcd-or-bc-finds : AreFinds (
    row LeftmostFirst (in_text (codes "abcd" ∷ codes "bc" ∷ []) (codes "abce")) (Some (occurrence 1 1 3))
    ∷ row LeftmostFirst (in_text (codes "abcd" ∷ codes "bc" ∷ []) (codes "abcd")) (Some (occurrence 0 0 4))
    ∷ [])
unfolding pick all
abcd-or-bc-finds = refl

-- a walk that wants the earliest end
nested-twice-earliest-walks : AreWalks (
    each_earliest (in_text nested_words (codes "abcdabcd")) (occurrence 0 1 2 ∷ occurrence 0 5 6 ∷ []))
unfolding walk_after pick all
nested-twice-earliest-walks = refl

-- two patterns that are the same without case; brackets and braces are no letters
caseless-finds : AreFinds (
    each (caseless (in_text (codes "ab" ∷ codes "AB" ∷ []) (codes "aB"))) (Some (occurrence 0 0 2))
    ++ each (caseless (in_text (codes "[" ∷ []) (codes "{"))) None)
unfolding pick all
caseless-finds = refl

-- patterns inside each other, anchored
nested-anchored-finds : AreFinds (
    row Standard (at_start (in_text nested_words (codes "abcd"))) (Some (occurrence 1 0 3))
    ∷ row LeftmostLongest (at_start (in_text nested_words (codes "abcd"))) (Some (occurrence 2 0 4))
    ∷ row (order_of LeftmostLongest true) (at_start (in_text nested_words (codes "abcd")))
    (Some (occurrence 1 0 3))
    ∷ []
    ++ each (at_start (in_text nested_words (codes "abd"))) None)
unfolding pick all
nested-anchored-finds = refl

-- something occurs in "xb", but not at its start
xb-listings : AreListings (
    listed (in_text nested_words (codes "xb")) (occurrence 0 1 2 ∷ [])
    ∷ listed (at_start (in_text nested_words (codes "xb"))) []
    ∷ [])
unfolding all
xb-listings = refl

-- listings: by end, then by start
ushers-listings : AreListings (
    listed (in_text pronouns (codes "ushers")) (occurrence 1 1 4 ∷ occurrence 0 2 4 ∷ occurrence 3 2 6 ∷ [])
    ∷ listed (within 1 4 (in_text (codes "a" ∷ codes "aa" ∷ codes "aaa" ∷ []) (codes "aaaa")))
    (occurrence 0 1 2 ∷ occurrence 1 1 3 ∷ occurrence 0 2 3 ∷ occurrence 2 1 4 ∷ occurrence 1 2 4
    ∷ occurrence 0 3 4 ∷ [])
    ∷ listed (at_start (in_text (codes "b" ∷ codes "abc" ∷ []) (codes "abc"))) (occurrence 1 0 3 ∷ [])
    ∷ [])
unfolding all
ushers-listings = refl
