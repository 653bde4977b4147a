-- The patterns that take part in ascending order of their bytes, so that those with one prefix stand side by
-- side.
use Rattle.std.specs.Prelude.{◌≡◌, ◌↔◌, ◌⊎◌, ℕ, zero, suc, ◌+◌, ◌-◌, ◌*◌, ◌<◌, ◌≤◌, Bool, true, nat_eq, List, [], Option, map, length, slice_get, slice_index_or, All, AllPairs, Contains}
use Rattle.std.specs.Cmp.Lexicographic.{slice_cmp}
use Rattle.std.specs.List.{HoldsAt, range_with_len, starts_with}
use Rattle.std.specs.Ordering.{nat_cmp, ordering_then}
use Rattle.std.specs.declared.cmp.Ordering.{Ordering}
use Rattle.std.specs.declared.cmp.Ordering.TheVariants.{Less}
use Rattle.ac_automaton.specs.Util.{GREATEST, LeftmostFirst, MatchKind, participants, pattern_of, plain, Standard}
use Rattle.ac_automaton.specs.declared.nfa.noncontiguous.sorted.SortedPattern.{SortedPattern}

-- a pattern that takes part: its plain bytes, and its number
pub record Keyed : Type 0 where
  pub key : List ℕ
  pub number : ℕ

-- sorted patterns, and whether their case is ignored
pub record Sorted : Type 0 where
  pub ignores_case : Bool
  pub patterns : List Keyed

-- the numbers of sorted patterns
abbrev pub numbers : List Keyed → List ℕ
numbers sorted = map (λ m. m.number) sorted

-- a pattern with its plain bytes
abbrev pub keyed_one : Bool → SortedPattern → Keyed
keyed_one ignores_case m = record { key = plain ignores_case m.bytes.now; number = m.number }

-- each pattern of a list with its plain bytes
abbrev pub keyed : Bool → List SortedPattern → List Keyed
keyed ignores_case sorted = map (keyed_one ignores_case) sorted

-- the plain bytes of the pattern at an index
abbrev pub key_at : List Keyed → ℕ → List ℕ
key_at sorted place = (slice_index_or sorted place (record { key = []; number = 0 })).key

-- the plain byte at a depth of the pattern at an index
abbrev pub byte_at : List Keyed → ℕ → ℕ → Option ℕ
byte_at sorted depth place = slice_get (key_at sorted place) depth

-- the first n bytes of a string as one number, each 256 times as much as the one after it, with zeros past its end
unfoldable pub head_of : ℕ → List ℕ → ℕ
head_of zero u = 0
head_of (suc n) u = head_of n u * 256 + slice_index_or u n 0

-- how many bytes the head of a pattern has
abbrev pub head_len : ℕ
head_len = 8

-- a number is the head of a string, whose first bytes are bytes
pub record IsHead (head : ℕ) (u : List ℕ) : Type 0 where
  pub value : head ≡ head_of head_len u
  pub small : (k : ℕ) → k < head_len → slice_index_or u k 0 < 256

-- how two patterns compare by their plain bytes, and then by number
abbrev pub compared_by_bytes : Bool → SortedPattern → SortedPattern → Ordering
compared_by_bytes ignores_case a b =
    ordering_then (slice_cmp nat_cmp (plain ignores_case a.bytes.now) (plain ignores_case b.bytes.now))
    (nat_cmp a.number b.number)

-- how two patterns compare: by their heads, and then by bytes and number
abbrev pub compared : Bool → SortedPattern → SortedPattern → Ordering
compared ignores_case a b = ordering_then (nat_cmp a.head b.head) (compared_by_bytes ignores_case a b)

-- whether b's plain bytes are a prefix of a's
abbrev pub is_prefix : Bool → SortedPattern → SortedPattern → Bool
is_prefix ignores_case a b = starts_with nat_eq (plain ignores_case a.bytes.now) (plain ignores_case b.bytes.now)

-- all patterns are listed by number
pub record AreListed (patterns : List (List ℕ)) (listed : List SortedPattern) : Type 0 where
  pub bytes : map (λ m. m.bytes.now) listed ≡ patterns
  pub numbers : map (λ m. m.number) listed ≡ range_with_len 0 (length patterns)

-- a comes before b: by its bytes, or by number where these are the same
abbrev pub Precedes : Keyed → Keyed → Type 0
Precedes a b = (slice_cmp nat_cmp a.key b.key ≡ Less) ⊎ ((a.key ≡ b.key) × (a.number < b.number))

-- these are the patterns that take part, each once, in this order
pub record IsOrder (kind : MatchKind) (patterns : List (List ℕ)) (sorted : List Keyed) : Type 0 where
  pub ascending : AllPairs Precedes sorted
  pub named : All (λ m. m.key ≡ pattern_of patterns m.number) sorted
  pub lists : (n : ℕ) → Contains (numbers sorted) n ↔ Contains (participants kind patterns) n

-- these are the patterns of the list that take part, sorted with or without case
pub record AreSorted (kind : MatchKind) (ignores_case : Bool) (texts : List (List ℕ)) (sorted : Sorted) : Type 0 where
  pub fold_is : sorted.ignores_case ≡ ignores_case
  pub order : IsOrder kind (map (plain ignores_case) texts) sorted.patterns

-- the same of their list
abbrev pub ListsParticipants : Bool → List SortedPattern → List SortedPattern → Type 0
ListsParticipants ignores_case old new =
    (patterns : List (List ℕ)) → IsOrder Standard patterns (keyed ignores_case old)
    → IsOrder LeftmostFirst patterns (keyed ignores_case new)

-- no pattern has more than GREATEST bytes
abbrev pub AreShort : List SortedPattern → Type 0
AreShort sorted = All (λ p. length p.bytes.now ≤ GREATEST) sorted

-- no number of a pattern is greater than GREATEST
abbrev pub AreNumbered : List SortedPattern → Type 0
AreNumbered sorted = All (λ p. p.number ≤ GREATEST) sorted

-- the last of a stack is a prefix of this one, and comes earlier in the list
abbrev pub HasShadow : Bool → SortedPattern → List SortedPattern → Type 0
HasShadow ignores_case pattern prefixes =
    (0 < length prefixes)
    × HoldsAt (λ p. (is_prefix ignores_case pattern p ≡ true) × (p.number < pattern.number)) prefixes (length prefixes - 1)
