-- Values of the other definitions that users see, as they compute: replaced texts, streams, refusals, places,
-- sameness.
use Prim.Native.String.{String}
use Rattle.ac_util.proofs.Prelude.{◌≡◌, ℕ, Bool, true, false, List, [], ◌∷◌, ◌++◌, Option, None, Some, map, take, codes, refl}
use Rattle.ac_util.specs.Prelude.{all, Both, Built, Call, Find, kept_back_len, InvalidInputAnchored, InvalidInputUnanchored, item_at, LeftmostFirst, LeftmostLongest, longest_len, MatchError, MatchKind, No, Occurrence, occurrence, OverlappingByState, OverlappingIterator, pick, place_after, refusal, Replace, replaced, same_byte, same_string, Search, Standard, StartKind, Stream, stream_result, Unanchored, UnsupportedEmpty, UnsupportedOverlapping, walk, walk_after, whole_characters, without_last, Yes}
use Rattle.ac_util.specs.declared.search.StartKind.TheVariants.{Anchored as AnchoredAlone}
use Rattle.ac_util.proofs.SearchRows.{in_text, at_start, append_words, append_text}

-- a haystack of bytes in which the walk's matches are exchanged for texts
abbrev bytes_replaced : MatchKind → List (List ℕ) → List (List ℕ) → List ℕ → List ℕ
bytes_replaced kind patterns texts haystack = replaced haystack texts (walk kind (in_text patterns haystack))

-- the same for a text, where no character is cut
abbrev text_replaced : MatchKind → List (List ℕ) → List (List ℕ) → List ℕ → List ℕ
text_replaced kind patterns texts haystack =
    replaced haystack texts (whole_characters haystack (walk kind (in_text patterns haystack)))

-- the same where only the first n matches are exchanged and the rest is copied
abbrev text_replaced_until : ℕ → MatchKind → List (List ℕ) → List (List ℕ) → List ℕ → List ℕ
text_replaced_until n kind patterns texts haystack =
    replaced haystack texts (take n (whole_characters haystack (walk kind (in_text patterns haystack))))

-- what a stream has written once these bytes were read: the replaced text without the bytes that are held back
abbrev written : Built → List (List ℕ) → List ℕ → List ℕ
written built texts bytes = without_last (kept_back_len built bytes) (replaced bytes texts (stream_result built bytes))

-- the texts and the patterns that several rows share
abbrev numbers : List (List ℕ)
numbers = codes "0" ∷ codes "1" ∷ codes "2" ∷ []

abbrev e_acute : List ℕ
e_acute = 195 ∷ 169 ∷ []

abbrev fox_words : List (List ℕ)
fox_words = codes "fox" ∷ codes "brown" ∷ codes "quick" ∷ []

abbrev foxes : Built
foxes = record { patterns = fox_words; ignores_case = false; kind = Standard; start_kind = Unanchored }

abbrev fox_texts : List (List ℕ)
fox_texts = codes "sloth" ∷ codes "grey" ∷ codes "slow" ∷ []

-- three patterns exchanged for letters
append-replaced-text : text_replaced LeftmostFirst append_words
    (codes "x" ∷ codes "y" ∷ codes "z" ∷ []) append_text
    ≡ codes "x the z to the xage"
unfolding walk_after pick all
append-replaced-text = refl

append-replaced-bytes : bytes_replaced LeftmostFirst append_words
    (codes "x" ∷ codes "y" ∷ codes "z" ∷ []) append_text
    ≡ codes "x the z to the xage"
unfolding walk_after pick all
append-replaced-bytes = refl

-- exchanged for their numbers: after other bytes, and with the rest copied after the second match
append-numbered : codes "pre" ++ text_replaced LeftmostFirst append_words numbers append_text
    ≡ codes "pre0 the 2 to the 0age"
unfolding walk_after pick all
append-numbered = refl

append-numbered-twice : text_replaced_until 2 LeftmostFirst append_words numbers append_text
    ≡ codes "0 the 2 to the appendage"
unfolding walk_after pick all
append-numbered-twice = refl

-- one match dropped and the rest copied
append-dropped-once : text_replaced_until 1 LeftmostFirst append_words
    (codes "" ∷ codes "" ∷ codes "" ∷ []) append_text
    ≡ codes " the app to the appendage"
unfolding walk_after pick all
append-dropped-once = refl

-- a byte that is half a character is exchanged among bytes, but not in a text
half-character-in-text : text_replaced Standard ((195 ∷ []) ∷ []) (codes "x" ∷ []) e_acute ≡ e_acute
unfolding walk_after pick all
half-character-in-text = refl

half-character-in-bytes : bytes_replaced Standard ((195 ∷ []) ∷ []) (codes "x" ∷ []) e_acute ≡ 120 ∷ 169 ∷ []
unfolding walk_after pick all
half-character-in-bytes = refl

-- the empty pattern: at every place among bytes, between characters in a text
dashes-in-ab : bytes_replaced Standard (codes "" ∷ []) (codes "-" ∷ []) (codes "ab") ≡ codes "-a-b-"
unfolding walk_after pick all
dashes-in-ab = refl

dashes-in-bytes : bytes_replaced Standard (codes "" ∷ [])
    (codes "-" ∷ []) e_acute ≡ 45 ∷ 195 ∷ 45 ∷ 169 ∷ 45 ∷ []
unfolding walk_after pick all
dashes-in-bytes = refl

dashes-in-text : text_replaced Standard (codes "" ∷ []) (codes "-" ∷ []) e_acute ≡ 45 ∷ 195 ∷ 169 ∷ 45 ∷ []
unfolding walk_after pick all
dashes-in-text = refl

-- without patterns the haystack is copied, and the longest pattern counts as empty
no-patterns-copied : bytes_replaced Standard [] [] (codes "abc") ≡ codes "abc"
unfolding walk_after pick all
no-patterns-copied = refl

no-patterns-longest-len : longest_len [] ≡ 0
no-patterns-longest-len = refl

-- a sentence replaced by texts, by numbers and by nothing
fox-replaced : bytes_replaced Standard fox_words fox_texts
    (codes "The quick brown fox.") ≡ codes "The slow grey sloth."
unfolding walk_after pick all
fox-replaced = refl

fox-numbered : bytes_replaced Standard fox_words numbers (codes "The quick brown fox.") ≡ codes "The 2 1 0."
unfolding walk_after pick all
fox-numbered = refl

fox-emptied : bytes_replaced Standard fox_words (codes "" ∷ codes "" ∷ codes "" ∷ [])
    (codes "The quick brown fox.")
    ≡ codes "The   ."
unfolding walk_after pick all
fox-emptied = refl

-- a stream that ends too early: its matches
fox-found-after-12 : stream_result foxes (codes "The quick br") ≡ occurrence 2 4 9 ∷ []
unfolding walk_after pick all
fox-found-after-12 = refl

-- what a stream has given, how many bytes of it are held back, and what is written
abbrev AreStreamed : List (String × ℕ × String) → Type 0
AreStreamed rows =
    (map (λ row. kept_back_len foxes (codes row.0)) rows ≡ map (λ row. row.1) rows)
    × (map (λ row. written foxes fox_texts (codes row.0)) rows ≡ map (λ row. codes row.2) rows)

-- a sentence as it comes
fox-stream_result : AreStreamed (
    ("The ", 4, "")
    ∷ ("The q", 4, "T")
    ∷ ("The quick", 0, "The slow")
    ∷ ("The quick br", 3, "The slow")
    ∷ ("The quick brow", 4, "The slow ")
    ∷ ("The quick brown", 0, "The slow grey")
    ∷ ("The quick brown fox", 0, "The slow grey sloth")
    ∷ ("The quick brown fox.", 1, "The slow grey sloth")
    ∷ [])
unfolding walk_after pick all
fox-stream_result = (refl, refl)

-- a start kind, a match kind, a call, whether some pattern is empty, and why the call is refused
abbrev AreRefusals : List (StartKind × MatchKind × Call × Bool × Option MatchError) → Type 0
AreRefusals rows = map (λ row. refusal row.0 row.1 row.2 row.3) rows ≡ map (λ row. row.4) rows

-- an overlapping search wants the kind Standard
overlapping-wants-standard : AreRefusals (
    (Unanchored, LeftmostFirst, OverlappingByState No, false, Some (UnsupportedOverlapping LeftmostFirst))
    ∷ (Unanchored, LeftmostFirst, OverlappingIterator No, false, Some (UnsupportedOverlapping LeftmostFirst))
    ∷ [])
overlapping-wants-standard = refl

-- a stream wants no empty pattern, and takes every match kind
stream-wants-bytes : AreRefusals (
    (Unanchored, LeftmostFirst, Stream, false, None)
    ∷ (Both, LeftmostLongest, Stream, false, None)
    ∷ (Unanchored, LeftmostFirst, Stream, true, Some UnsupportedEmpty)
    ∷ (Unanchored, Standard, Stream, true, Some UnsupportedEmpty)
    ∷ [])
stream-wants-bytes = refl

-- the start is asked before the kind, and the iterator has no anchored form
start-wanted-first : AreRefusals (
    (Unanchored, LeftmostFirst, OverlappingByState Yes, false, Some InvalidInputAnchored)
    ∷ (Both, Standard, OverlappingIterator Yes, false, Some InvalidInputAnchored)
    ∷ (AnchoredAlone, LeftmostFirst, Stream, false, Some InvalidInputUnanchored)
    ∷ (AnchoredAlone, Standard, Replace, false, Some InvalidInputUnanchored)
    ∷ [])
start-wanted-first = refl

-- a find wants its start, whatever its span
find-wants-its-start : AreRefusals (
    (Unanchored, Standard, Find Yes, false, Some InvalidInputAnchored)
    ∷ (AnchoredAlone, Standard, Find No, false, Some InvalidInputUnanchored)
    ∷ [])
find-wants-its-start = refl

-- what is not refused
served : AreRefusals (
    (Both, Standard, Find Yes, false, None)
    ∷ (Both, LeftmostFirst, Find Yes, false, None)
    ∷ (Both, LeftmostLongest, Find Yes, false, None)
    ∷ (AnchoredAlone, Standard, OverlappingByState Yes, false, None)
    ∷ (Unanchored, Standard, Stream, false, None)
    ∷ [])
served = refl

-- a place of an overlapping search, its item, and the place after it
abbrev AreItems : Search → List (ℕ × Option Occurrence × ℕ) → Type 0
AreItems q rows =
    (map (λ row. item_at q row.0) rows ≡ map (λ row. row.1) rows)
    × (map (λ row. place_after q row.0) rows ≡ map (λ row. row.2) rows)

-- six items, then none, and the place stays
append-items : AreItems (in_text append_words append_text) (
    (0, Some (occurrence 2 0 3), 1)
    ∷ (1, Some (occurrence 0 0 6), 2)
    ∷ (2, Some (occurrence 2 11 14), 3)
    ∷ (3, Some (occurrence 2 22 25), 4)
    ∷ (4, Some (occurrence 0 22 28), 5)
    ∷ (5, Some (occurrence 1 22 31), 6)
    ∷ (6, None, 6)
    ∷ [])
unfolding all
append-items = (refl, refl)

-- the same anchored: two items
append-items-anchored : AreItems (at_start (in_text append_words append_text)) (
    (0, Some (occurrence 2 0 3), 1)
    ∷ (1, Some (occurrence 0 0 6), 2)
    ∷ (2, None, 2)
    ∷ [])
unfolding all
append-items-anchored = (refl, refl)

-- whether case is ignored, two bytes, and whether they are the same
abbrev AreBytesSame : List (Bool × ℕ × ℕ × Bool) → Type 0
AreBytesSame rows = map (λ row. same_byte row.0 row.1 row.2) rows ≡ map (λ row. row.3) rows

-- letters in their two cases, where case is ignored; a bracket and a brace, 32 apart too, are no letters, and
-- neither are an at sign and a backquote
bytes-same : AreBytesSame (
    (true, 97, 65, true) ∷ (true, 90, 122, true) ∷ (false, 97, 65, false) ∷ (true, 97, 66, false)
    ∷ (true, 91, 123, false) ∷ (true, 64, 96, false) ∷ (false, 91, 91, true)
    ∷ [])
bytes-same = refl

-- the same of strings
abbrev AreStringsSame : List (Bool × String × String × Bool) → Type 0
AreStringsSame rows =
    map (λ row. same_string row.0 (codes row.1) (codes row.2)) rows ≡ map (λ row. row.3) rows

-- each letter counts, and so does the length
strings-same : AreStringsSame (
    (true, "bAr", "BaR", true) ∷ (false, "bAr", "bar", false) ∷ (true, "ba", "bar", false)
    ∷ (true, "[a", "{A", false)
    ∷ [])
strings-same = refl
