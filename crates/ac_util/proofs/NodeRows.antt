-- Nodes of automata, as the definitions compute them: tables of what is asked and what the answer is.
use Prim.Native.String.{String}
use Rattle.ac_util.proofs.Prelude.{◌≡◌, ℕ, List, [], ◌∷◌, None, Some, codes, map, refl, slice_index}
use Rattle.ac_util.specs.Prelude.{failure, LeftmostFirst, LeftmostLongest, looks, matches, MatchKind, No, Node, Standard, state_count, step, Yes}
use Rattle.ac_util.specs.declared.search.Anchored.{Anchored}
use Rattle.ac_util.proofs.SearchRows.{nested_words, pronouns}

-- the node of a string, and the one byte of a string
abbrev at : String → Node
at u = Some (codes u)

abbrev byte : String → ℕ
byte b = slice_index (codes b) 0

-- "ab" twice; two words and the empty one; and one word that follows failure targets
abbrev twice : List (List ℕ)
twice = codes "ab" ∷ codes "ab" ∷ []

abbrev with_empty : List (List ℕ)
with_empty = codes "abc" ∷ codes "bd" ∷ codes "" ∷ []

abbrev aab : List (List ℕ)
aab = codes "aab" ∷ []

-- a node, a byte, and where it leads
abbrev AreSteps : MatchKind → List (List ℕ) → Anchored → List (String × String × Node) → Type 0
AreSteps kind patterns anchored rows =
    map (λ row. step kind patterns anchored (at row.0) (byte row.1)) rows ≡ map (λ row. row.2) rows

-- the steps on which the leftmost kinds agree
abbrev leftmost_rows : List (String × String × Node)
leftmost_rows =
    ("", "a", at "a") ∷ ("", "b", at "b") ∷ ("", "c", at "")
    ∷ ("a", "a", at "a") ∷ ("a", "b", at "ab") ∷ ("a", "x", at "")
    ∷ ("b", "a", None) ∷ ("b", "b", None)
    ∷ ("ab", "a", None) ∷ ("ab", "b", None) ∷ ("ab", "c", at "abc")
    ∷ ("abc", "b", None)
    ∷ []

-- a node and its failure target
abbrev AreFailures : MatchKind → List (List ℕ) → List (String × Node) → Type 0
AreFailures kind patterns rows = map (λ row. failure kind patterns (codes row.0)) rows ≡ map (λ row. row.1) rows

-- a node and its matches
abbrev AreMatches : MatchKind → List (List ℕ) → Anchored → List (String × List ℕ) → Type 0
AreMatches kind patterns anchored rows =
    map (λ row. matches kind patterns anchored (at row.0)) rows ≡ map (λ row. row.1) rows

-- a node, a byte, and the looks of the step
abbrev AreLooks : MatchKind → List (List ℕ) → Anchored → List (String × String × ℕ) → Type 0
AreLooks kind patterns anchored rows =
    map (λ row. looks kind patterns anchored (at row.0) (byte row.1)) rows ≡ map (λ row. row.2) rows

-- under Standard a step leads to the longest suffix that is a node
standard-steps : AreSteps Standard nested_words No (
    ("", "a", at "a") ∷ ("", "b", at "b") ∷ ("", "c", at "")
    ∷ ("a", "a", at "a") ∷ ("a", "b", at "ab") ∷ ("a", "x", at "")
    ∷ ("b", "a", at "a") ∷ ("b", "c", at "")
    ∷ ("ab", "a", at "a") ∷ ("ab", "c", at "abc") ∷ ("ab", "x", at "")
    ∷ ("abc", "b", at "b") ∷ ("abc", "d", at "abcd")
    ∷ ("abcd", "a", at "a")
    ∷ [])
standard-steps = refl

-- under a leftmost kind not to one that starts after the first occurrence
leftmost-steps : AreSteps LeftmostFirst nested_words No leftmost_rows × AreSteps LeftmostLongest nested_words No leftmost_rows
leftmost-steps = (refl, refl)

-- under LeftmostLongest there is the node "abcd" besides
longest-steps : AreSteps LeftmostFirst nested_words No (("abc", "d", None) ∷ [])
    × AreSteps LeftmostLongest nested_words No (("abc", "d", at "abcd") ∷ ("abcd", "a", None) ∷ [])
longest-steps = (refl, refl)

-- an anchored step leads to the whole string, or to the dead node
standard-steps-anchored : AreSteps Standard nested_words Yes (
    ("", "a", at "a") ∷ ("", "b", at "b") ∷ ("", "c", None)
    ∷ ("a", "a", None) ∷ ("a", "b", at "ab")
    ∷ ("b", "a", None)
    ∷ ("ab", "a", None) ∷ ("ab", "c", at "abc")
    ∷ ("abc", "b", None) ∷ ("abc", "d", at "abcd")
    ∷ ("abcd", "a", None)
    ∷ [])
standard-steps-anchored = refl

-- under LeftmostFirst "abcd" leads to no node
first-steps-anchored : AreSteps LeftmostFirst nested_words Yes (
    ("", "a", at "a") ∷ ("", "b", at "b") ∷ ("", "c", None)
    ∷ ("a", "b", at "ab") ∷ ("b", "a", None)
    ∷ ("ab", "c", at "abc") ∷ ("abc", "d", None)
    ∷ [])
first-steps-anchored = refl

longest-steps-anchored : AreSteps LeftmostLongest nested_words Yes (
    ("", "a", at "a") ∷ ("", "b", at "b") ∷ ("", "c", None)
    ∷ ("a", "b", at "ab") ∷ ("b", "a", None)
    ∷ ("ab", "c", at "abc") ∷ ("abc", "d", at "abcd") ∷ ("abcd", "a", None)
    ∷ [])
longest-steps-anchored = refl

-- from the dead node every byte leads to it
dead-steps : step Standard nested_words No None 97 ∷ step LeftmostFirst nested_words Yes None 97 ∷ []
    ≡ None ∷ None ∷ []
dead-steps = refl

-- with an empty pattern every step of a leftmost kind is an anchored one
with_empty-steps : AreSteps LeftmostFirst with_empty No (
    ("", "c", None) ∷ ("ab", "c", at "abc") ∷ ("ab", "d", None) ∷ [])
with_empty-steps = refl

-- failure targets
standard-failures : AreFailures Standard nested_words (
    ("a", at "") ∷ ("b", at "") ∷ ("ab", at "b") ∷ ("abc", at "") ∷ ("abcd", at "") ∷ [])
standard-failures = refl

first-failures : AreFailures LeftmostFirst nested_words (
    ("a", at "") ∷ ("b", None) ∷ ("ab", at "b") ∷ ("abc", None) ∷ [])
first-failures = refl

longest-failures : AreFailures LeftmostLongest nested_words (
    ("a", at "") ∷ ("b", None) ∷ ("ab", at "b") ∷ ("abc", None) ∷ ("abcd", None) ∷ [])
longest-failures = refl

with_empty-failures : AreFailures LeftmostFirst with_empty (("a", None) ∷ ("ab", None) ∷ [])
with_empty-failures = refl

-- matches of the nodes: the longest pattern comes first
standard-matches : AreMatches Standard nested_words No (
    ("", []) ∷ ("a", []) ∷ ("b", 0 ∷ []) ∷ ("ab", 0 ∷ []) ∷ ("abc", 1 ∷ []) ∷ ("abcd", 2 ∷ []) ∷ [])
standard-matches = refl

first-matches : AreMatches LeftmostFirst nested_words No (
    ("", []) ∷ ("a", []) ∷ ("b", 0 ∷ []) ∷ ("ab", 0 ∷ []) ∷ ("abc", 1 ∷ []) ∷ [])
first-matches = refl

longest-matches : AreMatches LeftmostLongest nested_words No (
    ("", []) ∷ ("a", []) ∷ ("b", 0 ∷ []) ∷ ("ab", 0 ∷ []) ∷ ("abc", 1 ∷ []) ∷ ("abcd", 2 ∷ []) ∷ [])
longest-matches = refl

pronouns-matches : AreMatches Standard pronouns No (("she", 1 ∷ 0 ∷ []) ∷ [])
pronouns-matches = refl

-- in an anchored search they are those that equal the node
standard-matches-anchored : AreMatches Standard nested_words Yes (
    ("", []) ∷ ("a", []) ∷ ("b", 0 ∷ []) ∷ ("ab", []) ∷ ("abc", 1 ∷ []) ∷ ("abcd", 2 ∷ []) ∷ [])
standard-matches-anchored = refl

first-matches-anchored : AreMatches LeftmostFirst nested_words Yes (
    ("", []) ∷ ("b", 0 ∷ []) ∷ ("ab", []) ∷ ("abc", 1 ∷ []) ∷ [])
first-matches-anchored = refl

longest-matches-anchored : AreMatches LeftmostLongest nested_words Yes (
    ("", []) ∷ ("b", 0 ∷ []) ∷ ("ab", []) ∷ ("abc", 1 ∷ []) ∷ ("abcd", 2 ∷ []) ∷ [])
longest-matches-anchored = refl

pronouns-matches-anchored : AreMatches Standard pronouns Yes (("she", 1 ∷ []) ∷ [])
pronouns-matches-anchored = refl

-- one that equals an earlier one is left out under LeftmostFirst alone
twice-standard : AreMatches Standard twice No (("ab", 0 ∷ 1 ∷ []) ∷ [])
twice-standard = refl

twice-first : AreMatches LeftmostFirst twice No (("ab", 0 ∷ []) ∷ [])
twice-first = refl

twice-longest : AreMatches LeftmostLongest twice No (("ab", 0 ∷ 1 ∷ []) ∷ [])
twice-longest = refl

-- the dead node has none
dead-matches : matches Standard nested_words No None ∷ matches LeftmostFirst nested_words Yes None ∷ []
    ≡ [] ∷ [] ∷ []
dead-matches = refl

-- pattern "aab" on "aaab" looks at 1, 1, 2 and 1 states; a step from "aa" by the letter c looks at 3
aab-looks : AreLooks Standard aab No (
    ("", "a", 1) ∷ ("a", "a", 1) ∷ ("aa", "a", 2) ∷ ("aa", "b", 1) ∷ ("aa", "c", 3) ∷ [])
aab-looks = refl

-- an anchored step looks once
aab-looks-anchored : AreLooks Standard aab Yes (("", "a", 1) ∷ ("aa", "a", 1) ∷ ("aa", "c", 1) ∷ [])
aab-looks-anchored = refl

-- how many states an automaton has
states : state_count Standard [] ∷ state_count Standard nested_words ∷ state_count LeftmostFirst nested_words
    ∷ state_count Standard (codes "abcd" ∷ []) ∷ []
    ≡ 4 ∷ 9 ∷ 8 ∷ 8 ∷ []
states = refl
