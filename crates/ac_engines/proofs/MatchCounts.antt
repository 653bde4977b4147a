-- A node's matches are patterns of the list, each at most once, and no more than 256 bytes lead on from it.
use Rattle.ac_util.proofs.Prelude.{◌≡◌, ◌≢◌, ℕ, suc, zero, ◌<◌, ◌≤◌, not, List, [], ◌∷◌, length, take, inl, inr, Option, None, Some, refl, ap, arith, rules, All, range_with_len, length-map, length-range_with_len, common_steps}
use Rattle.ac_engines.specs.Prelude.{Built, equal_to, last_start, matches, MatchKind, No, Node, open_suffixes, plain, starting_by, suffixes, leads_on, matches_of, transition_bytes_of, plain_of}
use Rattle.std.proofs.lemmas.List.Filters.{length-filter_both}
use Rattle.ac_util.proofs.Lists.{All-from_IsIn, IsIn, IsIn-from_flat_map, IsIn-range, IsOrdered, IsOrdered-flat_map}
use Rattle.ac_util.proofs.Participants.{IsIn-from_equal_to, equal_to-ordered}
use Rattle.ac_automaton.proofs.Counting.{length-le-from_IsOrdered}

-- what is ordered by R is ordered by what R implies
IsOrdered-weaker : {X : Type 0} (R S : X → X → Type 0) → ((x y : X) → R x y → S x y) → (xs : List X)
    → IsOrdered R xs → IsOrdered S xs
IsOrdered-weaker R S weaker [] o = tt
IsOrdered-weaker R S weaker (x ∷ xs) o = grind (arith, common_steps, IsOrdered-weaker R S weaker xs o.1)

-- an element of the first ones is one of all
IsIn-from_take : {X : Type 0} (n : ℕ) (y : X) (xs : List X) → IsIn y (take n xs) → IsIn y xs
IsIn-from_take zero y xs h = absurd h
IsIn-from_take (suc n) y [] h = absurd h
IsIn-from_take (suc n) y (x ∷ xs) (inl e) = inl e
IsIn-from_take (suc n) y (x ∷ xs) (inr h) = inr (IsIn-from_take n y xs h)

-- the first elements of an ordered list are ordered
IsOrdered-take : {X : Type 0} (R : X → X → Type 0) (n : ℕ) (xs : List X) → IsOrdered R xs → IsOrdered R (take n xs)
IsOrdered-take R zero xs o = tt
IsOrdered-take R (suc n) [] o = tt
IsOrdered-take R (suc n) (x ∷ xs) o = ((λ y h. o.0 y (IsIn-from_take n y xs h)), IsOrdered-take R n xs o.1)

-- one string is longer than another
abbrev IsLonger : List ℕ → List ℕ → Type 0
IsLonger u v = length v < length u

-- no suffix is longer than the string
suffix-length : (v u : List ℕ) → IsIn v (suffixes u) → length v ≤ length u
suffix-length v [] (inl e) = omega (arith, ap (λ (w : List ℕ). length w) e)
suffix-length v [] (inr h) = absurd h
suffix-length v (b ∷ u) (inl e) = omega (arith, ap (λ (w : List ℕ). length w) e)
suffix-length v (b ∷ u) (inr h) = omega (arith, suffix-length v u h)

-- suffixes come in falling order of their lengths
suffixes-ordered : (u : List ℕ) → IsOrdered IsLonger (suffixes u)
suffixes-ordered [] = ((λ y h. absurd h), tt)
suffixes-ordered (b ∷ u) = ((λ y h. omega (arith, suffix-length y u h)), suffixes-ordered u)

-- and so do those that start early enough
starting_by-ordered : (last : Option ℕ) (ws : List (List ℕ)) → IsOrdered IsLonger ws
    → IsOrdered IsLonger (starting_by last ws)
starting_by-ordered None ws o = o
starting_by-ordered (Some c) ws o = IsOrdered-take IsLonger (suc c) ws o

-- no pattern equals two strings of different lengths
matches-distinct : (kind : MatchKind) (patterns : List (List ℕ)) (w : List ℕ)
    → IsOrdered (λ (m n : ℕ). m ≢ n) (matches kind patterns No (Some w))
matches-distinct kind patterns w =
    IsOrdered-flat_map IsLonger (λ (m n : ℕ). m ≢ n) (equal_to kind patterns) (open_suffixes kind patterns w)
    (λ v. IsOrdered-weaker (λ m n. m < n) (λ (m n : ℕ). m ≢ n) (λ m n below e. omega arith) (equal_to kind patterns v)
    (equal_to-ordered kind patterns v))
    (λ u v m n longer in_u in_v e.
    let first = (IsIn-from_equal_to kind patterns u m in_u).same in
    let second = (IsIn-from_equal_to kind patterns v n in_v).same in
    let same : u ≡ v = cc in
    omega (arith, ap (λ (s : List ℕ). length s) same))
    (starting_by-ordered (last_start kind patterns w) (suffixes w) (suffixes-ordered w))

-- each match is the number of a pattern
match-numbered : (built : Built) (u : Node) (n : ℕ) → IsIn n (matches_of built No u) → n < length built.patterns
match-numbered built None n h = absurd h
match-numbered built (Some w) n h =
    let (suffix, among, has) = IsIn-from_flat_map (equal_to built.kind (plain_of built)) n
    (open_suffixes built.kind (plain_of built) w) h in
    let numbered = (IsIn-from_equal_to built.kind (plain_of built) suffix n has).numbered in
    omega (arith, numbered, length-map built.patterns (plain built.ignores_case))

-- the same of all of them
pub matches-numbered : (built : Built) (u : Node) → All (λ n. n < length built.patterns) (matches_of built No u)
matches-numbered built u = search (rules, All-from_IsIn, match-numbered)

-- and so there are no more of them than patterns
pub matches-few : (built : Built) (u : Node) → length (matches_of built No u) ≤ length built.patterns
matches-few built None = omega arith
matches-few built (Some w) =
    let few = length-le-from_IsOrdered (matches_of built No (Some w)) (range_with_len 0 (length built.patterns))
    (matches-distinct built.kind (plain_of built) w)
    (λ n h. IsIn-range n 0 (length built.patterns) (omega arith) (omega (arith, match-numbered built (Some w) n h))) in
    omega (arith, few, length-range_with_len 0 (length built.patterns))

-- own bytes are bytes, each once
pub transition_bytes_of-few : (built : Built) (u : Node) → length (transition_bytes_of built u) ≤ 256
unfolding transition_bytes_of
transition_bytes_of-few built u =
    omega (
      arith,
      length-filter_both (leads_on built u) (λ b. not (leads_on built u b)) (λ b. refl) (range_with_len 0 256),
      length-range_with_len 0 256,
    )
