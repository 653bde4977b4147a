-- Prefixes of strings: `starts_with nat_eq w p` says that p is a prefix of w.
use Rattle.ac_util.proofs.Prelude.{◌≡◌, ℕ, zero, suc, ◌<◌, ◌≤◌, Bool, true, false, ◌||◌, List, [], ◌∷◌, ◌++◌, length, take, get_or, inl, inr, refl, ap, sym, ◌∙◌, arith, eqb, nat_eq, list_any, starts_with, or_cases, or_left, or_right, and_parts, and_from, eqb-true, eq-eqb, false≢true, false_from_ne_true, common_steps}
use Rattle.std.proofs.lemmas.Slice.Eq.{bytes_eq-Decides}
use Rattle.ac_util.proofs.Lists.{IsIn}

-- a string is a prefix of itself
pub starts_with-itself : (w : List ℕ) → starts_with nat_eq w w ≡ true
starts_with-itself [] = refl
starts_with-itself (x ∷ w) = and_from _ _ (eq-eqb x x refl) (starts_with-itself w)

-- what is left of a prefix without its last byte is a prefix
pub starts_with-front : (p v : List ℕ) (b : ℕ) → starts_with nat_eq p (v ++ b ∷ []) ≡ true
    → starts_with nat_eq p v ≡ true
starts_with-front p [] b h = refl
starts_with-front [] (x ∷ v) b h = absurd (false≢true h)
starts_with-front (y ∷ p) (x ∷ v) b h =
    let parts = and_parts _ _ h in and_from _ _ parts.0 (starts_with-front p v b parts.1)

-- a prefix of w is a prefix of w with one more byte
pub starts_with-more : (w p : List ℕ) (b : ℕ) → starts_with nat_eq w p ≡ true
    → starts_with nat_eq (w ++ b ∷ []) p ≡ true
starts_with-more w [] b h = refl
starts_with-more [] (y ∷ p) b h = absurd (false≢true h)
starts_with-more (x ∷ w) (y ∷ p) b h = grind (arith, common_steps)

-- a prefix of w with one more byte that is no prefix of w is the whole of it
pub starts_with-whole : (w p : List ℕ) (b : ℕ)
    → starts_with nat_eq (w ++ b ∷ []) p ≡ true → starts_with nat_eq w p ≡ false → p ≡ w ++ b ∷ []
starts_with-whole w [] b h n = absurd (false≢true (sym n))
starts_with-whole [] (y ∷ []) b h n = let e = eqb-true y b (and_parts _ _ h).0 in ap (λ (z : ℕ). z ∷ []) e
starts_with-whole [] (y ∷ z ∷ p) b h n = absurd (false≢true (and_parts (eqb y b) false h).1)
starts_with-whole (x ∷ w) (y ∷ p) b h n =
    let parts = and_parts (eqb y x) (starts_with nat_eq (w ++ b ∷ []) p) h in
    let e = eqb-true y x parts.0 in
    let no_front =
    false_from_ne_true _ (λ t. false≢true (sym n ∙ and_from (eqb y x) (starts_with nat_eq w p) parts.0 t)) in
    let rest = starts_with-whole w p b parts.1 no_front in
    λ i. e i ∷ rest i

-- a prefix is no longer than the string
pub starts_with-length : (w p : List ℕ) → starts_with nat_eq w p ≡ true → length p ≤ length w
starts_with-length w [] h = omega arith
starts_with-length [] (y ∷ p) h = absurd (false≢true h)
starts_with-length (x ∷ w) (y ∷ p) h = grind (arith, common_steps)

-- the first bytes of a string are a prefix of it
pub starts_with-take : (n : ℕ) (w : List ℕ) → starts_with nat_eq w (take n w) ≡ true
starts_with-take zero w = refl
starts_with-take (suc n) [] = refl
starts_with-take (suc n) (x ∷ w) = and_from _ _ (eq-eqb x x refl) (starts_with-take n w)

-- a prefix as long as the string is the string
pub starts_with-equal : (w p : List ℕ) → starts_with nat_eq w p ≡ true → length p ≡ length w → p ≡ w
starts_with-equal [] [] h l = refl
starts_with-equal (x ∷ w) [] h l = absurd (omega arith)
starts_with-equal [] (y ∷ p) h l = absurd (false≢true h)
starts_with-equal (x ∷ w) (y ∷ p) h l =
    let parts = and_parts _ _ h in
    let e = eqb-true y x parts.0 in
    let rest = starts_with-equal w p parts.1 (omega arith) in
    λ i. e i ∷ rest i

-- a prefix of a string is its first bytes
pub front-is : (w v : List ℕ) → starts_with nat_eq w v ≡ true → take (length v) w ≡ v
front-is w v h = sym ((bytes_eq-Decides v (take (length v) w)).0 h)

-- a prefix of a prefix is a prefix
pub starts_with-trans : (w p r : List ℕ)
    → starts_with nat_eq w p ≡ true → starts_with nat_eq p r ≡ true → starts_with nat_eq w r ≡ true
starts_with-trans w p [] h k = refl
starts_with-trans w [] (z ∷ r) h k = absurd (false≢true k)
starts_with-trans [] (y ∷ p) (z ∷ r) h k = absurd (false≢true h)
starts_with-trans (x ∷ w) (y ∷ p) (z ∷ r) h k =
    let left = and_parts (nat_eq y x) (starts_with nat_eq w p) h in
    let right = and_parts (nat_eq z y) (starts_with nat_eq p r) k in
    let same = eq-eqb z x (eqb-true z y right.0 ∙ eqb-true y x left.0) in
    and_from (nat_eq z x) (starts_with nat_eq w r) same (starts_with-trans w p r left.1 right.1)

-- some element passes a weaker test where one passes
pub list_any-weaker : {X : Type 0} (f g : X → Bool) → ((x : X) → f x ≡ true → g x ≡ true)
    → (xs : List X) → list_any f xs ≡ true → list_any g xs ≡ true
list_any-weaker f g weaker [] h = h
list_any-weaker f g weaker (x ∷ xs) h = elim (or_cases (f x) (list_any f xs) h) [
  | inl here ↦ or_left _ _ (weaker x here)
  | inr later ↦ or_right _ _ (list_any-weaker f g weaker xs later)
]

-- some element passes where this one does
pub list_any-from_IsIn : {X : Type 0} (f : X → Bool) (x : X) (xs : List X) → IsIn x xs → f x ≡ true
    → list_any f xs ≡ true
list_any-from_IsIn f x [] h t = absurd h
list_any-from_IsIn f x (y ∷ xs) (inl e) t = or_left _ _ (ap f e ∙ t)
list_any-from_IsIn f x (y ∷ xs) (inr h) t = or_right _ _ (list_any-from_IsIn f x xs h t)

-- i is the place of the first element that passes
pub record IsFirstAny {X : Type 0} (f : X → Bool) (d : X) (xs : List X) (i : ℕ) : Type 0 where
  pub within : i < length xs
  pub passes : f (get_or xs i d) ≡ true
  pub none_before : list_any f (take i xs) ≡ false

-- neither of two
either : (a c : Bool) → a ≡ false → c ≡ false → (a || c) ≡ false
either a c p q = ap (λ (z : Bool). z || c) p ∙ q

-- where some element passes there is a first one
pub first_any : {X : Type 0} (f : X → Bool) (d : X) (xs : List X) → list_any f xs ≡ true
    → (i : ℕ) × IsFirstAny f d xs i
first_any f d [] h = absurd (false≢true h)
first_any f d (x ∷ xs) h = at (f x) refl (λ later. first_any f d xs later) h
  where
    at : (t : Bool) → f x ≡ t → (list_any f xs ≡ true → (i : ℕ) × IsFirstAny f d xs i)
        → (t || list_any f xs) ≡ true → (i : ℕ) × IsFirstAny f d (x ∷ xs) i
    at true e later h = (0, record { within = omega arith; passes = e; none_before = refl })
    at false e later h =
        let r = later h in
        let w = r.1.within in (
          suc r.0,
          record {
            within = omega arith;
            passes = r.1.passes;
            none_before = either (f x) (list_any f (take r.0 xs)) e r.1.none_before;
          },
        )
