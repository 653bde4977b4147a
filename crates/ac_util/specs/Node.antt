-- Nodes: the strings for which states stand, how a byte leads on, and what is found there.
use Rattle.std.specs.Prelude.{ℕ, suc, Bool, true, false, not, ◌||◌, nat_eq, List, [], ◌∷◌, ◌++◌, Option, None, Some, length, take, drop, filter, find, option_map, if◌then◌else◌, flat_map, bytes_eq, zero, ◌==◌, ◌+◌, ◌-◌, map, slice_range}
use Rattle.std.specs.List.{range_with_len, list_any, starts_with}
use Rattle.ac_util.specs.declared.search.MatchKind.{MatchKind}
use Rattle.ac_util.specs.declared.search.MatchKind.TheVariants.{Standard, LeftmostFirst, LeftmostLongest}
use Rattle.ac_util.specs.declared.search.Anchored.{Anchored}
use Rattle.ac_util.specs.declared.search.Anchored.TheVariants.{No, Yes}
use Rattle.ac_util.specs.Occurrence.{pattern_of, Occurrence, occurrence, plain, Search}

-- a node is identified by the string that leads to it; None is the dead node, from which nothing is found any more
abbrev pub Node : Type 0
Node = Option (List ℕ)

-- the length of a node's string
abbrev pub depth : Node → ℕ
depth None = 0
depth (Some u) = length u

-- the kinds that prefer what starts first
abbrev pub is_leftmost : MatchKind → Bool
is_leftmost Standard = false
is_leftmost LeftmostFirst = true
is_leftmost LeftmostLongest = true

-- whether the string begins with one of the patterns
abbrev pub begins_with_pattern : List (List ℕ) → List ℕ → Bool
begins_with_pattern patterns w = list_any (λ p. starts_with nat_eq w p) patterns

-- whether a pattern takes part: under LeftmostFirst not if an earlier one is a prefix of it or equals it, since
-- it is then never picked
abbrev pub participates : MatchKind → List (List ℕ) → ℕ → Bool
participates Standard patterns number = true
participates LeftmostFirst patterns number =
    not (begins_with_pattern (take number patterns) (pattern_of patterns number))
participates LeftmostLongest patterns number = true

-- the numbers of those that take part
abbrev pub participants : MatchKind → List (List ℕ) → List ℕ
participants kind patterns = filter (participates kind patterns) (range_with_len 0 (length patterns))

-- whether a string has no bytes
abbrev pub is_empty : List ℕ → Bool
is_empty [] = true
is_empty (b ∷ u) = false

-- whether the string leads to a node: it is empty, or a prefix of a pattern that takes part
abbrev pub is_node : MatchKind → List (List ℕ) → List ℕ → Bool
is_node kind patterns u =
    is_empty u
    || list_any (λ number. starts_with nat_eq (pattern_of patterns number) u) (participants kind patterns)

-- the suffixes of a string: the string itself, and shorter and shorter ones down to the empty string
abbrev pub suffixes : List ℕ → List (List ℕ)
suffixes [] = [] ∷ []
suffixes (b ∷ u) = (b ∷ u) ∷ suffixes u

-- the first offset of the string at which a pattern begins that ends within it, if there is one
abbrev pub least_start : List (List ℕ) → List ℕ → Option ℕ
least_start patterns [] = if begins_with_pattern patterns [] then Some 0 else None
least_start patterns (b ∷ u) =
    if begins_with_pattern patterns (b ∷ u) then Some 0 else option_map suc (least_start patterns u)

-- the last offset at which a match may start once u was read: under a leftmost kind where the first occurrence
-- starts; None where a match may start anywhere
abbrev pub last_start : MatchKind → List (List ℕ) → List ℕ → Option ℕ
last_start kind patterns u = if is_leftmost kind then least_start patterns u else None

-- those of a string's suffixes, longest first, that start no later than an offset, or all of them without one
abbrev pub starting_by : Option ℕ → List (List ℕ) → List (List ℕ)
starting_by None ws = ws
starting_by (Some c) ws = take (suc c) ws

-- the suffixes of a string at which a match may start
abbrev pub open_suffixes : MatchKind → List (List ℕ) → List ℕ → List (List ℕ)
open_suffixes kind patterns u = starting_by (last_start kind patterns u) (suffixes u)

-- the first of the strings that leads to a node, or the dead node
abbrev pub first_node : MatchKind → List (List ℕ) → List (List ℕ) → Node
first_node kind patterns ws = find (is_node kind patterns) ws

-- where an automaton stands that has read w: at the longest suffix that is a node and doesn't start too late;
-- if anchored at w itself where that is a node; else at the dead node
abbrev pub reached : MatchKind → List (List ℕ) → Anchored → List ℕ → Node
reached kind patterns No w = first_node kind patterns (open_suffixes kind patterns w)
reached kind patterns Yes w = first_node kind patterns (w ∷ [])

-- where the byte b leads from a node
abbrev pub step : MatchKind → List (List ℕ) → Anchored → Node → ℕ → Node
step kind patterns anchored None b = None
step kind patterns No (Some u) b =
    first_node kind patterns (starting_by (last_start kind patterns u) (suffixes (u ++ b ∷ [])))
step kind patterns Yes (Some u) b = first_node kind patterns ((u ++ b ∷ []) ∷ [])

-- the failure target of a node that isn't empty: the longest shorter suffix that is a node and doesn't start
-- too late
abbrev pub failure : MatchKind → List (List ℕ) → List ℕ → Node
failure kind patterns u = first_node kind patterns (drop 1 (open_suffixes kind patterns u))

-- the patterns that take part and are this string, by number
abbrev pub equal_to : MatchKind → List (List ℕ) → List ℕ → List ℕ
equal_to kind patterns w =
    filter (λ number. bytes_eq (pattern_of patterns number) w) (participants kind patterns)

-- the patterns that end the node's string, longest first and then by number: under a leftmost kind those of its
-- first occurrence alone, and in an anchored search those that are the whole string
abbrev pub matches : MatchKind → List (List ℕ) → Anchored → Node → List ℕ
matches kind patterns anchored None = []
matches kind patterns No (Some u) = flat_map (equal_to kind patterns) (open_suffixes kind patterns u)
matches kind patterns Yes (Some u) = equal_to kind patterns u

-- the nodes from this one, of at most n bytes, along the failure targets up to the first with an own transition
-- by b, that one counted. The start and the dead node have one by every byte. A failure target is shorter than
-- its node, so n is never too small
abbrev pub looks_within : MatchKind → List (List ℕ) → ℕ → Node → ℕ → ℕ
looks_within kind patterns n None b = 1
looks_within kind patterns n (Some []) b = 1
looks_within kind patterns zero (Some (x ∷ u)) b = 1
looks_within kind patterns (suc n) (Some (x ∷ u)) b =
    elim (is_node kind patterns (x ∷ u ++ b ∷ [])) [
      | true ↦ 1
      | false ↦ suc (looks_within kind patterns n (failure kind patterns (x ∷ u)) b)
    ]

-- the looks of a step by b in an automaton with failure targets; an anchored step follows none
abbrev pub looks : MatchKind → List (List ℕ) → Anchored → Node → ℕ → ℕ
looks kind patterns No u b = looks_within kind patterns (depth u) u b
looks kind patterns Yes u b = 1

-- the looks of a step in an automaton that is allowed `most` of them for each byte: one that is allowed a
-- single one has no failure targets to follow
abbrev pub looks_by : ℕ → MatchKind → List (List ℕ) → Anchored → Node → ℕ → ℕ
looks_by most kind patterns anchored u b = if most == 1 then 1 else looks kind patterns anchored u b

-- what a node's length is worth to a search that is allowed `most` looks for each byte: a look at each of its
-- failure targets, which are shorter and shorter, unless it is allowed one look and follows none
abbrev pub credit : ℕ → Node → ℕ
credit most u = if most == 1 then 0 else depth u

-- the patterns as plain strings
abbrev pub plain_patterns : Search → List (List ℕ)
plain_patterns q = map (plain q.ignores_case) q.patterns

-- the bytes of the span as a plain string
abbrev pub text : Search → List ℕ
text q = plain q.ignores_case (slice_range q.haystack q.low q.high)

-- where a pattern stands that ends where the span does
abbrev pub ending : Search → ℕ → Occurrence
ending q number = occurrence number (q.high - length (pattern_of q.patterns number)) q.high

-- the same search in a haystack of the span's bytes alone
abbrev pub cut : Search → Search
cut q = record q { haystack = slice_range q.haystack q.low q.high; low = 0; high = q.high - q.low }

-- an occurrence whose offsets are counted from `low` on, with offsets that are counted from the haystack's start
abbrev pub outward : ℕ → Occurrence → Occurrence
outward low m = occurrence m.pattern (low + m.start) (low + m.end)
