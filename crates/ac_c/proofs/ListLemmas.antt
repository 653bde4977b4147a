-- Filters, orders and elements of lists.
use Rattle.ac_util.proofs.Prelude.{◌≡◌, ℕ, ◌+◌, Bool, true, false, ◌||◌, List, [], ◌∷◌, ◌++◌, length, drop, filter, eqb, refl, ap, sym, ◌∙◌, subst, arith, inl, inr, ◌⊎◌, All, rules, tests, AllByRecursion, list_any, append_assoc, drop-drop, common_steps}
use Rattle.ac_util.proofs.Lists.{IsIn, IsOrdered, IsIn-append_left, Contains-from_IsIn}

-- all is kept where each element passes
pub filter-all : {X : Type 0} (p : X → Bool) (xs : List X) → ((x : X) → IsIn x xs → p x ≡ true) → filter p xs ≡ xs
filter-all p [] each = refl
filter-all p (x ∷ xs) each =
    rw (each x (inl refl)) (ap (λ (ys : _). x ∷ ys) (filter-all p xs (λ y i. each y (inr i))))

-- one more element that passes is kept
pub one-kept : {X : Type 0} (p : X → Bool) (xs : List X) (x : X) → p x ≡ true
    → length (filter p (xs ++ x ∷ [])) ≡ length (filter p xs) + 1
one-kept p [] x e = rw e refl
one-kept p (y ∷ ys) x e = grind (arith, common_steps, one-kept p ys x e)

-- and one that doesn't isn't
pub one-left : {X : Type 0} (p : X → Bool) (xs : List X) (x : X) → p x ≡ false
    → length (filter p (xs ++ x ∷ [])) ≡ length (filter p xs)
one-left p [] x e = rw e refl
one-left p (y ∷ ys) x e = grind (arith, common_steps, one-left p ys x e)

-- the first element of a second list is the last of the first
pub one-more : {X : Type 0} (xs ys : List X) (x : X) → xs ++ x ∷ ys ≡ (xs ++ x ∷ []) ++ ys
one-more xs ys x = sym (append_assoc xs (x ∷ []) ys)

-- one more of a list is passed over
pub drop-next : {X : Type 0} (k : ℕ) (xs ys : List X) (x : X) → drop k xs ≡ x ∷ ys → drop (k + 1) xs ≡ ys
drop-next k xs ys x e = sym (drop-drop 1 k xs) ∙ ap (drop 1) e

-- the first part of an ordered list is ordered
pub ordered-left : {X : Type 0} (R : X → X → Type 0) (xs ys : List X) → IsOrdered R (xs ++ ys) → IsOrdered R xs
ordered-left R [] ys o = tt
ordered-left R (x ∷ xs) ys o = ((λ y h. o.0 y (IsIn-append_left y xs ys h)), ordered-left R xs ys o.1)

-- and so is the second
pub ordered-right : {X : Type 0} (R : X → X → Type 0) (xs ys : List X) → IsOrdered R (xs ++ ys) → IsOrdered R ys
ordered-right R [] ys o = o
ordered-right R (x ∷ xs) ys o = ordered-right R xs ys o.1

-- what holds of all holds of an element
pub at-element : {X : Type 0} (P : X → Type 0) (x : X) (xs : List X) → All P xs → IsIn x xs → P x
at-element P x xs h i = let c = Contains-from_IsIn x xs i in subst P c.2 (h c.0 x c.1)

-- what holds of each element holds of all, by recursion
pub each-recursive : {X : Type 0} (P : X → Type 0) (xs : List X) → ((x : X) → IsIn x xs → P x) → AllByRecursion P xs
each-recursive P [] each = tt
each-recursive P (x ∷ xs) each = (each x (inl refl), each-recursive P xs (λ y i. each y (inr i)))

-- one of two tests is true where their disjunction is
or_cases : (a b : Bool) → (a || b) ≡ true → (a ≡ true) ⊎ (b ≡ true)
or_cases true b h = inl refl
or_cases false b h = inr h

-- two numbers are the same where the test says so
eqb_same : (n x : ℕ) → eqb n x ≡ true → n ≡ x
eqb_same n x e = search (rules, tests)

-- a number that is found in a list is an element
pub in-found : (n : ℕ) (xs : List ℕ) → list_any (eqb n) xs ≡ true → IsIn n xs
in-found n [] h = absurd (cc)
in-found n (x ∷ xs) h = elim (or_cases (eqb n x) (list_any (eqb n) xs) h) [
  | inl e ↦ inl (sym (eqb_same n x e))
  | inr e ↦ inr (in-found n xs e)
]
