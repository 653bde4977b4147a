-- What the ascending order of the patterns says of their bytes at one depth.
use Rattle.ac_util.proofs.Prelude.{◌≡◌, ℕ, suc, ◌<◌, ◌≤◌, true, false, List, [], ◌∷◌, length, refl, sym, ◌∙◌, arith, Option, None, Some, nat_eq, slice_get, rules, starts_with, MatchOrdering, is_gt, nat_cmp, ordering_then, and_parts, eqb-true, false≢true, common_steps}
use Rattle.ac_automaton.specs.Prelude.{MatchKind, Keyed, IsOrder, key_at, byte_at}
use Rattle.std.proofs.lemmas.Cmp.{ranked}
use Rattle.std.specs.Cmp.Lexicographic.{slice_cmp}
use Rattle.std.specs.declared.cmp.Ordering.{Ordering}
use Rattle.std.specs.declared.cmp.Ordering.TheVariants.{Less, Equal, Greater}

-- a byte as a number, where none comes before each
abbrev pub rank : Option ℕ → ℕ
rank None = 0
rank (Some b) = suc b

-- where two numbers and then the rest compare as no greater, the first number isn't above the second
pub head-no_greater : (x y : ℕ) (o rest : Ordering) → MatchOrdering o (x < y) (x ≡ y) (y < x)
    → is_gt (ordering_then o rest) ≡ false → x ≤ y
head-no_greater x y Less rest m e = omega arith
head-no_greater x y Equal rest m e = omega arith
head-no_greater x y Greater rest m e = absurd (false≢true (sym e))

-- where they compare as less and the two are equal, the rest compares as less
rest-ascends : (x y : ℕ) (o rest : Ordering) → MatchOrdering o (x < y) (x ≡ y) (y < x) → x ≡ y
    → ordering_then o rest ≡ Less
    → rest ≡ Less
rest-ascends x y Less rest m same e = absurd (omega arith)
rest-ascends x y Equal rest m same e = e
rest-ascends x y Greater rest m same e = absurd (omega arith)

-- of two strings with one prefix, the lesser has no greater byte after it
rank-ascends : (u a b : List ℕ) → slice_cmp nat_cmp a b ≡ Less → starts_with nat_eq a u ≡ true
    → starts_with nat_eq b u ≡ true
    → rank (slice_get a (length u)) ≤ rank (slice_get b (length u))
rank-ascends [] [] b less p q = omega arith
rank-ascends [] (x ∷ a) [] less p q = absurd (cc)
rank-ascends [] (x ∷ a) (y ∷ b) less p q = grind (arith, common_steps)
rank-ascends (z ∷ u) [] b less p q = absurd (false≢true p)
rank-ascends (z ∷ u) (x ∷ a) [] less p q = absurd (false≢true q)
rank-ascends (z ∷ u) (x ∷ a) (y ∷ b) less p q =
    let left = and_parts (nat_eq z x) (starts_with nat_eq a u) p in
    let right = and_parts (nat_eq z y) (starts_with nat_eq b u) q in
    let same : x ≡ y = sym (eqb-true z x left.0) ∙ eqb-true z y right.0 in
    let later =
    rest-ascends x y (nat_cmp x y) (slice_cmp nat_cmp a b) (ranked x y (nat_cmp x y) refl) same less in
    rank-ascends u a b later left.1 right.1

-- the patterns that begin with u have ascending bytes after it, those that are u first
pub byte_at-ascends : (kind : MatchKind) (patterns : List (List ℕ)) (sorted : List Keyed)
    → IsOrder kind patterns sorted
    → (u : List ℕ) (j k : ℕ) → j ≤ k → k < length sorted
    → starts_with nat_eq (key_at sorted j) u ≡ true → starts_with nat_eq (key_at sorted k) u ≡ true
    → rank (byte_at sorted (length u) j) ≤ rank (byte_at sorted (length u) k)
byte_at-ascends kind patterns sorted order u j k le within p q = search (rules, rank-ascends)
