-- Elements of lists by their places, as a list grows and in a part of it.
use Rattle.ac_util.proofs.Prelude.{◌≡◌, ◌≢◌, Bool, true, false, not, ℕ, zero, suc, ◌+◌, ◌-◌, ◌<◌, List, [], ◌∷◌, ◌++◌, length, map, get_or, take, drop, ◌⊎◌, inl, inr, refl, ap, sym, ◌∙◌, subst, arith, Option, Some, None, is_some, slice_get, slice_range, Result, Ok, Err, MatchResult, IsErrAnd, rules, false≢true, get_or_from_slice_get, slice_get-get_or, slice_get_within, common_steps}
use Rattle.ac_util.proofs.Lists.{IsIn, IsOrdered}

-- an element stays at its place as the list grows
pub get-append : {X : Type 0} (xs ys : List X) (k : ℕ) (x : X) → slice_get xs k ≡ Some x
    → slice_get (xs ++ ys) k ≡ Some x
get-append [] ys k x e = absurd (cc)
get-append (z ∷ xs) ys zero x e = e
get-append (z ∷ xs) ys (suc k) x e = get-append xs ys k x e

-- one that is added stands at the end
pub get-added : {X : Type 0} (xs : List X) (y : X) → slice_get (xs ++ y ∷ []) (length xs) ≡ Some y
get-added [] y = refl
get-added (z ∷ xs) y = get-added xs y

-- what is left of a list from a place on begins with the element there
pub slice_get-from_drop : {X : Type 0} (xs : List X) (k : ℕ) (y : X) (ys : List X) → drop k xs ≡ y ∷ ys
    → slice_get xs k ≡ Some y
slice_get-from_drop [] zero y ys e = absurd (cc)
slice_get-from_drop [] (suc k) y ys e = absurd (cc)
slice_get-from_drop (x ∷ xs) zero y ys e = let same : x ≡ y = cc in ap (λ (z : _). Some z) same
slice_get-from_drop (x ∷ xs) (suc k) y ys e = slice_get-from_drop xs k y ys e

-- each element of the longer list was there before, or is the one added
pub get-added_cases : {X : Type 0} (xs : List X) (y x : X) (k : ℕ) → slice_get (xs ++ y ∷ []) k ≡ Some x
    → (slice_get xs k ≡ Some x) ⊎ ((k ≡ length xs) × (y ≡ x))
get-added_cases [] y x zero e = inr (refl, (cc))
get-added_cases [] y x (suc k) e = absurd (cc)
get-added_cases (z ∷ xs) y x zero e = inl e
get-added_cases (z ∷ xs) y x (suc k) e = grind (arith, common_steps, get-added_cases xs y x k e)

-- a place has one element
pub get-same : {X : Type 0} (xs : List X) (k : ℕ) (x y : X) → slice_get xs k ≡ Some x → slice_get xs k ≡ Some y
    → x ≡ y
get-same xs k x y e f = let g : Some x ≡ Some y = sym e ∙ f in cc

-- the first n are as they were
get-take : {X : Type 0} (n : ℕ) (xs : List X) (k : ℕ) → k < n → slice_get (take n xs) k ≡ slice_get xs k
get-take zero xs k l = absurd (omega arith)
get-take (suc n) [] k l = refl
get-take (suc n) (x ∷ xs) zero l = refl
get-take (suc n) (x ∷ xs) (suc k) l = get-take n xs k (omega arith)

-- what stands after n elements
get-drop : {X : Type 0} (n : ℕ) (xs : List X) (k : ℕ) → slice_get (drop n xs) k ≡ slice_get xs (n + k)
get-drop zero xs k = ap (slice_get xs) (omega arith)
get-drop (suc n) [] k = refl
get-drop {X} (suc n) (x ∷ xs) k = grind (arith, common_steps, get-drop n xs k)

-- an element of a part by its place in the part
pub get-range : {X : Type 0} (xs : List X) (a b k : ℕ) → a + k < b
    → slice_get (slice_range xs a b) k ≡ slice_get xs (a + k)
get-range xs a b k l = get-take (b - a) (drop a xs) k (omega arith) ∙ get-drop a xs k

-- what stands among the first n stands before place n
past-take : {X : Type 0} (n : ℕ) (xs : List X) (k : ℕ) (x : X) → slice_get (take n xs) k ≡ Some x → k < n
past-take zero xs k x e = absurd (cc)
past-take (suc n) [] k x e = absurd (cc)
past-take (suc n) (y ∷ xs) zero x e = omega arith
past-take (suc n) (y ∷ xs) (suc k) x e = omega (arith, past-take n xs k x e)

-- a place in the part is one in the list
pub get-from_range : {X : Type 0} (xs : List X) (a b k : ℕ) (x : X) → slice_get (slice_range xs a b) k ≡ Some x
    → (a + k < b) × (slice_get xs (a + k) ≡ Some x)
get-from_range xs a b k x e = search (rules, get-range, past-take)

-- an element of a mapped list is the image of the one at its place
pub record ImageAt {X Y : Type 0} (f : X → Y) (xs : List X) (k : ℕ) (y : Y) : Type 0 where
  pub from : X
  pub there : slice_get xs k ≡ Some from
  pub is : f from ≡ y

pub get-from_map : {X Y : Type 0} (f : X → Y) (xs : List X) (k : ℕ) (y : Y) → slice_get (map f xs) k ≡ Some y
    → ImageAt f xs k y
get-from_map f [] k y e = absurd (cc)
get-from_map f (x ∷ xs) zero y e = record { from = x; there = refl; is = (cc) }
get-from_map f (x ∷ xs) (suc k) y e = grind (arith, common_steps, get-from_map f xs k y e)

-- where an element stands in a list
pub record PlaceOf {X : Type 0} (x : X) (xs : List X) : Type 0 where
  pub place : ℕ
  pub within : place < length xs
  pub there : slice_get xs place ≡ Some x

-- an element has a place
pub place-of : {X : Type 0} (x : X) (xs : List X) → IsIn x xs → PlaceOf x xs
place-of x [] h = absurd h
place-of x (y ∷ xs) (inl e) = record { place = 0; within = omega arith; there = ap (λ w. Some w) e }
place-of x (y ∷ xs) (inr h) =
    let r = place-of x xs h in record { place = suc r.place; within = omega (arith, r.within); there = r.there }

-- what has a place is an element
pub IsIn-place : {X : Type 0} (x : X) (xs : List X) (k : ℕ) → slice_get xs k ≡ Some x → IsIn x xs
IsIn-place x [] k e = absurd (cc)
IsIn-place x (y ∷ xs) zero e = inl (cc)
IsIn-place x (y ∷ xs) (suc k) e = inr (IsIn-place x xs k e)

-- a list in which each element stands by R to those at later places is ordered
pub IsOrdered-places : {X : Type 0} (R : X → X → Type 0) (xs : List X)
    → ((j k : ℕ) (x y : X) → j < k → slice_get xs j ≡ Some x → slice_get xs k ≡ Some y → R x y) → IsOrdered R xs
IsOrdered-places R [] h = tt
IsOrdered-places R (x ∷ xs) h = (
  (λ y i. let r = place-of y xs i in h 0 (suc r.place) x y (omega arith) refl r.there),
  IsOrdered-places R xs (λ j k y z l e f. h (suc j) (suc k) y z (omega arith) e f),
)

-- what the test `is_none` says
pub None-tested : {X : Type 0} (r : Option X) (t : Bool) → is_some r ≡ not t → t ≡ true → r ≡ None
None-tested None t e is = refl
None-tested (Some x) t e is = absurd (false≢true (sym (e ∙ ap not is)))

-- and what it rules out
pub Some-tested : {X : Type 0} (r : Option X) (t : Bool) → is_some r ≡ not t → t ≡ false → r ≢ None
Some-tested r t e is none = false≢true (ap is_some (sym none) ∙ e ∙ ap not is)

-- an error that was handed on is the error
pub refused-by : {T E : Type 0} (r : Result T E) (e : E) (P : T → Type 0) (Q : E → Type 0)
    → IsErrAnd r (λ y. y ≡ e) → Q e → MatchResult r P Q
refused-by (Ok x) e P Q is q = absurd is
refused-by (Err y) e P Q is q = subst Q (sym is) q

-- what holds of an answer, by what else holds of it
pub match-by : {T E : Type 0} (r : Result T E) {P : T → Type 0} {Q : E → Type 0} (P' : T → Type 0) (Q' : E → Type 0)
    → ((x : T) → P x → P' x) → ((e : E) → Q e → Q' e) → MatchResult r P Q → MatchResult r P' Q'
match-by (Ok x) P' Q' ok err h = ok x h
match-by (Err e) P' Q' ok err h = err e h

-- one element more of a list
pub take-next : {X : Type 0} (xs : List X) (i : ℕ) (x : X) → slice_get xs i ≡ Some x
    → take (i + 1) xs ≡ take i xs ++ x ∷ []
take-next xs i x e = grind (arith, common_steps, slice_get_within xs i x e, get_or_from_slice_get xs i x x e)

-- a buffer that was lent as a whole is what came back
pub written-whole : {X : Type 0} (xs ys : List X) (len : ℕ) → length xs ≡ len
    → take len (xs ++ drop (length xs) ys) ≡ xs
written-whole xs ys len l = grind (arith, common_steps)

-- what is read at a place, whatever the default
pub place-read : {X : Type 0} (d x : X) (xs : List X) (p : PlaceOf x xs) → get_or xs p.place d ≡ x
place-read d x xs p = get_or_from_slice_get xs p.place x d p.there

-- what is read within a list has its place there
abbrev pub read-place : {X : Type 0} (d : X) (xs : List X) (k : ℕ) → k < length xs → PlaceOf (get_or xs k d) xs
read-place d xs k within = record { place = k; within = within; there = slice_get-get_or xs k d within }

-- the place of an element that is among the first n
pub record PlaceAmong {X : Type 0} (x : X) (n : ℕ) (xs : List X) : Type 0 where
  pub whole : PlaceOf x xs
  pub below : whole.place < n

-- among the first n it is below n
pub place-take : {X : Type 0} (x : X) (n : ℕ) (xs : List X) → IsIn x (take n xs) → PlaceAmong x n xs
place-take x n xs h =
    let p = place-of x (take n xs) h in
    let below = past-take n xs p.place x p.there in
    let there = sym (get-take n xs p.place below) ∙ p.there in
    record {
      whole = record { place = p.place; within = slice_get_within xs p.place x there; there = there };
      below = below;
    }

-- an element below place n is among the first n
pub IsIn-take : {X : Type 0} (x : X) (n : ℕ) (xs : List X) (p : PlaceOf x xs) → p.place < n → IsIn x (take n xs)
IsIn-take x n xs p below = IsIn-place x (take n xs) p.place (get-take n xs p.place below ∙ p.there)

-- an element among the first n is one
pub IsIn-from_take : {X : Type 0} (x : X) (n : ℕ) (xs : List X) → IsIn x (take n xs) → IsIn x xs
IsIn-from_take x n xs h = search (rules, IsIn-place, place-take)
