-- Membership and strict order of lists by recursion, and how they pass through `map`, `flat_map` and `filter`.
use Rattle.ac_util.proofs.Prelude.{◌≡◌, ℕ, zero, suc, ◌+◌, ◌<◌, ◌≤◌, Bool, true, false, cond, List, [], ◌∷◌, ◌++◌, map, length, get_or, ◌⊎◌, inl, inr, refl, ap, sym, ◌∙◌, subst, arith, Some, drop, filter, flat_map, slice_get, Contains, All, AllPairs, rules, ⊤, range_with_len, drop_more, All-cons, All-nil, cases_lt, cond-false, get_or_from_slice_get, slice_get_within, common_steps}
use Rattle.std.proofs.lemmas.List.Kept.{AllPairs-cons}

-- y is an element
abbrev pub IsIn : {X : Type 0} → X → List X → Type 0
IsIn y [] = ⊥
IsIn y (x ∷ xs) = (x ≡ y) ⊎ IsIn y xs

-- each element stands by R to all later ones
abbrev pub IsOrdered : {X : Type 0} → (X → X → Type 0) → List X → Type 0
IsOrdered R [] = ⊤
IsOrdered {X} R (x ∷ xs) = ((y : X) → IsIn y xs → R x y) × IsOrdered R xs

-- an element of the front is one of the whole
pub IsIn-append_left : {X : Type 0} (y : X) (xs ys : List X) → IsIn y xs → IsIn y (xs ++ ys)
IsIn-append_left y [] ys h = absurd h
IsIn-append_left y (x ∷ xs) ys (inl e) = inl e
IsIn-append_left y (x ∷ xs) ys (inr h) = inr (IsIn-append_left y xs ys h)

-- so is one of what is added after
pub IsIn-append_right : {X : Type 0} (y : X) (xs ys : List X) → IsIn y ys → IsIn y (xs ++ ys)
IsIn-append_right y [] ys h = h
IsIn-append_right y (x ∷ xs) ys h = inr (IsIn-append_right y xs ys h)

-- an element of the whole is one of the two parts
pub IsIn-append_cases : {X : Type 0} (y : X) (xs ys : List X) → IsIn y (xs ++ ys) → IsIn y xs ⊎ IsIn y ys
IsIn-append_cases y [] ys h = inr h
IsIn-append_cases y (x ∷ xs) ys (inl e) = inl (inl e)
IsIn-append_cases y (x ∷ xs) ys (inr h) = grind (arith, common_steps, IsIn-append_cases y xs ys h)

-- an element's image is one of the images
pub IsIn-map : {X Y : Type 0} (f : X → Y) (x : X) (xs : List X) → IsIn x xs → IsIn (f x) (map f xs)
IsIn-map f x [] h = absurd h
IsIn-map f x (z ∷ xs) (inl e) = inl (ap f e)
IsIn-map f x (z ∷ xs) (inr h) = inr (IsIn-map f x xs h)

-- an image is that of an element
pub IsIn-from_map : {X Y : Type 0} (f : X → Y) (y : Y) (xs : List X) → IsIn y (map f xs)
    → (x : X) × IsIn x xs × (f x ≡ y)
IsIn-from_map f y [] h = absurd h
IsIn-from_map f y (z ∷ xs) (inl e) = (z, inl refl, e)
IsIn-from_map f y (z ∷ xs) (inr h) = let r = IsIn-from_map f y xs h in (r.0, inr r.1, r.2)

-- what stands in the list of an element stands in the lists one after another
pub IsIn-flat_map : {X Y : Type 0} (f : X → List Y) (y : Y) (x : X) (xs : List X) → IsIn x xs → IsIn y (f x)
    → IsIn y (flat_map f xs)
IsIn-flat_map f y x [] h in' = absurd h
IsIn-flat_map f y x (z ∷ xs) (inl e) in' = search (rules, IsIn-append_left)
IsIn-flat_map f y x (z ∷ xs) (inr h) in' =
    IsIn-append_right y (f z) (flat_map f xs) (IsIn-flat_map f y x xs h in')

-- what stands in the lists one after another stands in that of an element
pub IsIn-from_flat_map : {X Y : Type 0} (f : X → List Y) (y : Y) (xs : List X) → IsIn y (flat_map f xs)
    → (x : X) × IsIn x xs × IsIn y (f x)
IsIn-from_flat_map f y [] h = absurd h
IsIn-from_flat_map f y (z ∷ xs) h = elim (IsIn-append_cases y (f z) (flat_map f xs) h) [
  | inl l ↦ (z, inl refl, l)
  | inr r ↦ let t = IsIn-from_flat_map f y xs r in (t.0, inr t.1, t.2)
]

-- an element that passes is kept
pub IsIn-filter : {X : Type 0} (p : X → Bool) (y : X) (xs : List X) → IsIn y xs → p y ≡ true
    → IsIn y (filter p xs)
IsIn-filter p y [] h t = absurd h
IsIn-filter p y (x ∷ xs) (inl e) t = rw (ap p e ∙ t) (inl e)
IsIn-filter p y (x ∷ xs) (inr h) t = grind (arith, common_steps, IsIn-filter p y xs h t)

-- what is kept of a list whose first element passes or not, given the rest
filter_cases : {X : Type 0} (p : X → Bool) (y x : X) (xs : List X) (b : Bool) → p x ≡ b
    → (IsIn y xs → IsIn y (x ∷ xs)) → (IsIn y (filter p xs) → IsIn y xs × (p y ≡ true))
    → IsIn y (cond b (x ∷ filter p xs) (filter p xs)) → IsIn y (x ∷ xs) × (p y ≡ true)
filter_cases p y x xs true is more later (inl e) = (inl e, sym (ap p e) ∙ is)
filter_cases p y x xs true is more later (inr h) = (more (later h).0, (later h).1)
filter_cases p y x xs false is more later h = (more (later h).0, (later h).1)

-- what is kept is an element that passes
pub IsIn-from_filter : {X : Type 0} (p : X → Bool) (y : X) (xs : List X) → IsIn y (filter p xs)
    → IsIn y xs × (p y ≡ true)
IsIn-from_filter p y [] h = absurd h
IsIn-from_filter p y (x ∷ xs) h = filter_cases p y x xs (p x) refl inr (IsIn-from_filter p y xs) h

-- a number from a on, below a + n, is one of the n numbers from a on
pub IsIn-range : (k a n : ℕ) → a ≤ k → k < a + n → IsIn k (range_with_len a n)
IsIn-range k a zero low high = absurd (omega arith)
IsIn-range k a (suc n) low high = elim (cases_lt a k) [
  | inl l ↦ inr (IsIn-range k (a + 1) n (omega arith) (omega arith))
  | inr l ↦ inl (omega arith)
]

-- and no other is
pub IsIn-from_range : (k a n : ℕ) → IsIn k (range_with_len a n) → (a ≤ k) × (k < a + n)
IsIn-from_range k a zero h = absurd h
IsIn-from_range k a (suc n) (inl e) = (omega arith, omega arith)
IsIn-from_range k a (suc n) (inr h) = let r = IsIn-from_range k (a + 1) n h in (omega arith, omega arith)

-- two ordered lists are one ordered list where all of the first stand by R to all of the second
pub IsOrdered-append : {X : Type 0} (R : X → X → Type 0) (xs ys : List X) → IsOrdered R xs → IsOrdered R ys
    → ((x y : X) → IsIn x xs → IsIn y ys → R x y) → IsOrdered R (xs ++ ys)
IsOrdered-append R [] ys a b c = b
IsOrdered-append R (x ∷ xs) ys a b c = (
  (λ y h. elim (IsIn-append_cases y xs ys h) [ inl l ↦ a.0 y l | inr r ↦ c x y (inl refl) r ]),
  IsOrdered-append R xs ys a.1 b (λ u v h k. c u v (inr h) k),
)

-- images are ordered by R where the elements are ordered by S and f takes S to R
pub IsOrdered-map : {X Y : Type 0} (S : X → X → Type 0) (R : Y → Y → Type 0) (f : X → Y) (xs : List X)
    → ((x y : X) → S x y → R (f x) (f y)) → IsOrdered S xs → IsOrdered R (map f xs)
IsOrdered-map S R f [] keeps o = tt
IsOrdered-map S R f (x ∷ xs) keeps o = (
  (λ y h. let from = IsIn-from_map f y xs h in
      subst (λ w. R (f x) w) from.2 (keeps x from.0 (o.0 from.0 from.1))),
  IsOrdered-map S R f xs keeps o.1,
)

-- lists of ordered elements are one ordered list where each is ordered, and each stands by R to the later ones
pub IsOrdered-flat_map : {X Y : Type 0} (S : X → X → Type 0) (R : Y → Y → Type 0) (f : X → List Y) (xs : List X)
    → ((x : X) → IsOrdered R (f x))
    → ((x y : X) (u v : Y) → S x y → IsIn u (f x) → IsIn v (f y) → R u v) → IsOrdered S xs
    → IsOrdered R (flat_map f xs)
IsOrdered-flat_map S R f [] each across o = tt
IsOrdered-flat_map S R f (x ∷ xs) each across o =
    IsOrdered-append R (f x) (flat_map f xs) (each x) (IsOrdered-flat_map S R f xs each across o.1)
    (λ u v h k. let from = IsIn-from_flat_map f v xs k in across x from.0 u v (o.0 from.0 from.1) h from.2)

-- what is kept of an ordered list is ordered
pub IsOrdered-filter : {X : Type 0} (R : X → X → Type 0) (p : X → Bool) (xs : List X) → IsOrdered R xs
    → IsOrdered R (filter p xs)
IsOrdered-filter R p [] o = tt
IsOrdered-filter R p (x ∷ xs) o = grind (arith, common_steps, IsOrdered-filter R p xs o.1, IsIn-from_filter)

-- the numbers from a on rise
pub IsOrdered-range : (a n : ℕ) → IsOrdered (λ x y. x < y) (range_with_len a n)
IsOrdered-range a zero = tt
IsOrdered-range a (suc n) =
    ((λ y h. let r = IsIn-from_range y (a + 1) n h in omega arith), IsOrdered-range (a + 1) n)

-- to and from the words of std
pub Contains-from_IsIn : {X : Type 0} (y : X) (xs : List X) → IsIn y xs → Contains xs y
Contains-from_IsIn y [] h = absurd h
Contains-from_IsIn y (x ∷ xs) (inl e) = (0, omega arith, e)
Contains-from_IsIn y (x ∷ xs) (inr h) = let c = Contains-from_IsIn y xs h in (suc c.0, omega arith, c.2)

-- what is read at a place within the list is an element
pub IsIn-at : {X : Type 0} (y d : X) (xs : List X) (k : ℕ) → k < length xs → get_or xs k d ≡ y → IsIn y xs
IsIn-at y d [] k l e = absurd (omega arith)
IsIn-at y d (x ∷ xs) zero l e = inl e
IsIn-at y d (x ∷ xs) (suc k) l e = inr (IsIn-at y d xs k (omega arith) e)

-- and back
pub IsIn-from_Contains : {X : Type 0} (y : X) (xs : List X) → Contains xs y → IsIn y xs
IsIn-from_Contains y xs c = IsIn-at y y xs c.0 c.1 c.2

-- what holds of each element holds of all
pub All-from_IsIn : {X : Type 0} (P : X → Type 0) (xs : List X) → ((y : X) → IsIn y xs → P y) → All P xs
All-from_IsIn P [] h = All-nil P
All-from_IsIn P (x ∷ xs) h = All-cons P x xs (h x (inl refl)) (All-from_IsIn P xs (λ y i. h y (inr i)))

-- what holds of each element and each later one holds of all pairs
pub AllPairs-from_IsOrdered : {X : Type 0} (R : X → X → Type 0) (xs : List X) → IsOrdered R xs → AllPairs R xs
AllPairs-from_IsOrdered R [] o = λ i j d l in'. absurd (omega arith)
AllPairs-from_IsOrdered R (x ∷ xs) o =
    AllPairs-cons R x xs (All-from_IsIn (R x) xs o.0) (AllPairs-from_IsOrdered R xs o.1)

-- two lists in one strict order with the same elements are one list
pub IsOrdered-unique : {X : Type 0} (R : X → X → Type 0) → ((x y : X) → R x y → R y x → ⊥) → (xs ys : List X)
    → ((x : X) → IsIn x xs → IsIn x ys) → ((x : X) → IsIn x ys → IsIn x xs) → IsOrdered R xs → IsOrdered R ys
    → xs ≡ ys
IsOrdered-unique R apart [] [] to fro a b = refl
IsOrdered-unique R apart [] (y ∷ ys) to fro a b = absurd (fro y (inl refl))
IsOrdered-unique R apart (x ∷ xs) [] to fro a b = absurd (to x (inl refl))
IsOrdered-unique {X} R apart (x ∷ xs) (y ∷ ys) to fro a b =
    let same : x ≡ y = elim (to x (inl refl)) [
      | inl e ↦ sym e
      | inr h ↦ elim (fro y (inl refl)) [ inl e ↦ e | inr k ↦ absurd (apart x y (a.0 y k) (b.0 x h)) ]
    ] in
    let rest : xs ≡ ys = IsOrdered-unique R apart xs ys
    (λ z h. elim (to z (inr h)) [
      | inl e ↦ let s = subst (λ (w : X). R w z) (same ∙ e) (a.0 z h) in absurd (apart z z s s)
      | inr k ↦ k
    ])
    (λ z h. elim (fro z (inr h)) [
      | inl e ↦ let s = subst (λ (w : X). R w z) (sym same ∙ e) (b.0 z h) in absurd (apart z z s s)
      | inr k ↦ k
    ])
    a.1 b.1 in
    ap (λ (w : X). w ∷ xs) same ∙ ap (λ (w : List X). y ∷ w) rest

-- nothing is left where no element passes
pub filter-none : {X : Type 0} (p : X → Bool) (xs : List X) → ((x : X) → IsIn x xs → p x ≡ false)
    → filter p xs ≡ []
filter-none p [] h = refl
filter-none p (x ∷ xs) h =
    cond-false (p x) (x ∷ filter p xs) (filter p xs) (h x (inl refl)) ∙ filter-none p xs (λ y i. h y (inr i))

-- a list that has no element is empty
pub nil-from_none : {X : Type 0} (xs : List X) → ((x : X) → IsIn x xs → ⊥) → xs ≡ []
nil-from_none [] none = refl
nil-from_none (x ∷ xs) none = absurd (none x (inl refl))

-- an empty list has no element
pub none-from_nil : {X : Type 0} (x : X) (xs : List X) → xs ≡ [] → IsIn x xs → ⊥
none-from_nil x [] e h = h
none-from_nil x (y ∷ ys) e h = absurd (cc)

-- what is left of a list from a place on begins with the element there
pub drop-slice_get : {X : Type 0} (xs : List X) (i : ℕ) (x : X) → slice_get xs i ≡ Some x
    → drop i xs ≡ x ∷ drop (i + 1) xs
drop-slice_get xs i x at =
    drop_more xs i x (slice_get_within xs i x at)
    ∙ ap (λ (y : _). y ∷ drop (i + 1) xs) (get_or_from_slice_get xs i x x at)
