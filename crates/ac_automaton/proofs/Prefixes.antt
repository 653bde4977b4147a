-- Prefixes of strings: what a test of one looks at, and strings between others in order.
use Rattle.ac_util.proofs.Prelude.{◌≡◌, ◌≢◌, ℕ, zero, suc, ◌+◌, ◌<◌, ◌≤◌, true, false, ◌&&◌, List, [], ◌∷◌, ◌++◌, map, length, drop, get_or, inl, inr, refl, ap, sym, arith, Some, None, nat_eq, slice_get, rules, starts_with, MatchOrdering, is_gt, is_lt, nat_cmp, ordering_then, and_from, and_parts, cases_lt, eq-eqb, eqb-true, false≢true, common_steps, slice_get-get_or, slice_get_past}
use Rattle.std.specs.Cmp.Lexicographic.{slice_cmp}
use Rattle.std.specs.declared.cmp.Ordering.{Ordering}
use Rattle.std.specs.declared.cmp.Ordering.TheVariants.{Less, Equal, Greater}
use Rattle.std.proofs.lemmas.Cmp.{ranked}
use Rattle.ac_util.proofs.Prefixes.{starts_with-length, starts_with-equal}
use Rattle.ac_automaton.proofs.Orders.{head-no_greater}

-- a test of a prefix compares the bytes at one place, and then those after it
starts_with-step : (f : ℕ → ℕ) (w p : List ℕ) (k : ℕ) → k < length w → k < length p
    → starts_with nat_eq (drop k (map f w)) (drop k (map f p))
    ≡ (nat_eq (f (get_or p k 0)) (f (get_or w k 0)) && starts_with nat_eq (drop (suc k) (map f w))
    (drop (suc k) (map f p)))
starts_with-step f [] p k l m = absurd (omega arith)
starts_with-step f (x ∷ w) [] k l m = absurd (omega arith)
starts_with-step f (x ∷ w) (y ∷ p) zero l m = refl
starts_with-step f (x ∷ w) (y ∷ p) (suc k) l m = starts_with-step f w p k (omega arith) (omega arith)

-- where two bytes differ it fails
pub starts_with-differs : (f : ℕ → ℕ) (w p : List ℕ) (k : ℕ) → length p ≤ length w → k < length p
    → starts_with nat_eq (map f w) (map f p) ≡ starts_with nat_eq (drop k (map f w)) (drop k (map f p))
    → f (get_or p k 0) ≢ f (get_or w k 0) → false ≡ starts_with nat_eq (map f w) (map f p)
starts_with-differs f w p k long within so_far other = search (rules, eqb-true, starts_with-step)

-- where they are equal the rest decides
pub starts_with-agrees : (f : ℕ → ℕ) (w p : List ℕ) (k : ℕ) → length p ≤ length w → k < length p
    → starts_with nat_eq (map f w) (map f p) ≡ starts_with nat_eq (drop k (map f w)) (drop k (map f p))
    → f (get_or p k 0) ≡ f (get_or w k 0)
    → starts_with nat_eq (map f w) (map f p)
    ≡ starts_with nat_eq (drop (k + 1) (map f w)) (drop (k + 1) (map f p))
starts_with-agrees f w p k long within so_far same = search (rules, eq-eqb, starts_with-step)

-- a prefix of a string, with the byte that follows it there, is a prefix
pub starts_with-push : (w u : List ℕ) (b : ℕ) → starts_with nat_eq w u ≡ true → slice_get w (length u) ≡ Some b
    → starts_with nat_eq w (u ++ b ∷ []) ≡ true
starts_with-push [] u b h e = absurd (cc)
starts_with-push (x ∷ w) [] b h e = and_from _ _ (eq-eqb b x (let same : Some x ≡ Some b = e in cc)) refl
starts_with-push (x ∷ w) (y ∷ u) b h e =
    let parts = and_parts (nat_eq y x) (starts_with nat_eq w u) h in
    and_from _ _ parts.0 (starts_with-push w u b parts.1 e)

-- the last byte of a prefix stands after the rest of it
pub starts_with-last : (w u : List ℕ) (b : ℕ) → starts_with nat_eq w (u ++ b ∷ []) ≡ true
    → slice_get w (length u) ≡ Some b
starts_with-last [] [] b h = absurd (false≢true h)
starts_with-last [] (y ∷ u) b h = absurd (false≢true h)
starts_with-last (x ∷ w) [] b h = ap (λ (z : ℕ). Some z) (sym (eqb-true b x (and_parts (nat_eq b x) true h).0))
starts_with-last (x ∷ w) (y ∷ u) b h =
    starts_with-last w u b (and_parts (nat_eq y x) (starts_with nat_eq w (u ++ b ∷ [])) h).1

-- a string without a byte after a prefix is that prefix
pub starts_with-ended : (w u : List ℕ) → starts_with nat_eq w u ≡ true → slice_get w (length u) ≡ None → w ≡ u
starts_with-ended w u h e = elim (cases_lt (length u) (length w)) [
  | inl more ↦ absurd (let byte = slice_get-get_or w (length u) 0 more in cc)
  | inr le ↦ let l = starts_with-length w u h in sym (starts_with-equal w u h (omega arith))
]

-- nothing stands after a whole string
pub ended : (u : List ℕ) → slice_get u (length u) ≡ None
ended u = slice_get_past u (length u) (omega arith)

-- two strings with one more byte that are the same have the same byte and the same rest
pub push-injective : (u w : List ℕ) (a b : ℕ) → u ++ a ∷ [] ≡ w ++ b ∷ [] → (u ≡ w) × (a ≡ b)
push-injective [] [] a b e = (refl, (cc))
push-injective [] (y ∷ []) a b e = absurd (cc)
push-injective [] (y ∷ z ∷ w) a b e = absurd (cc)
push-injective (x ∷ []) [] a b e = absurd (cc)
push-injective (x ∷ y ∷ u) [] a b e = absurd (cc)
push-injective (x ∷ u) (y ∷ w) a b e = grind (arith, common_steps)

-- where two numbers and then the rest compare as no greater and the two are equal, the rest compares so
rest-no_greater : (x y : ℕ) (o rest : Ordering) → MatchOrdering o (x < y) (x ≡ y) (y < x) → x ≡ y
    → is_gt (ordering_then o rest) ≡ false → is_gt rest ≡ false
rest-no_greater x y Less rest m same e = absurd (omega arith)
rest-no_greater x y Equal rest m same e = e
rest-no_greater x y Greater rest m same e = absurd (omega arith)

-- of three strings in order the first is a prefix of the second if it is one of the third
pub front-between : (a b c : List ℕ) → is_gt (slice_cmp nat_cmp a b) ≡ false → is_gt (slice_cmp nat_cmp b c)
    ≡ false
    → starts_with nat_eq c a ≡ true → starts_with nat_eq b a ≡ true
front-between [] b c h k front = refl
front-between (x ∷ a) [] c h k front = absurd (false≢true (sym h))
front-between (x ∷ a) (y ∷ b) [] h k front = absurd (false≢true front)
front-between (x ∷ a) (y ∷ b) (z ∷ c) h k front =
    let parts = and_parts (nat_eq x z) (starts_with nat_eq c a) front in
    let whole : x ≡ z = eqb-true x z parts.0 in
    let low = head-no_greater x y (nat_cmp x y) (slice_cmp nat_cmp a b) (ranked x y (nat_cmp x y) refl) h in
    let high = head-no_greater y z (nat_cmp y z) (slice_cmp nat_cmp b c) (ranked y z (nat_cmp y z) refl) k in
    let first : x ≡ y = omega arith in
    let second : y ≡ z = omega arith in
    and_from (nat_eq x y) (starts_with nat_eq b a) (eq-eqb x y first)
    (front-between a b c
    (rest-no_greater x y (nat_cmp x y) (slice_cmp nat_cmp a b) (ranked x y (nat_cmp x y) refl) first h)
    (rest-no_greater y z (nat_cmp y z) (slice_cmp nat_cmp b c) (ranked y z (nat_cmp y z) refl) second k)
    parts.1)

-- a string is never less than a prefix of it
pub front-no_less : (a b : List ℕ) → starts_with nat_eq b a ≡ true → is_lt (slice_cmp nat_cmp b a) ≡ false
front-no_less [] [] front = refl
front-no_less [] (y ∷ b) front = refl
front-no_less (x ∷ a) [] front = absurd (false≢true front)
front-no_less (x ∷ a) (y ∷ b) front =
    grind (arith, common_steps, eqb-true, front-no_less a b (and_parts (nat_eq x y) (starts_with nat_eq b a) front).1)
