-- The patterns listed by number, and what a sort of them gives.
use Rattle.ac_util.proofs.Prelude.{◌≡◌, ◌≢◌, ◌↔◌, ℕ, zero, suc, ◌+◌, ◌<◌, Bool, true, false, List, [], ◌∷◌, ◌++◌, map, length, take, get_or, inl, refl, ap, sym, ◌∙◌, subst, arith, Some, add-one, nat_eq, slice_get, filter, All, AllPairs, Contains, rules, range_with_len, IsPermutation, IsSortedBy, IsSortedByClosure, is_gt, is_lt, nat_cmp, ordering_reverse, ordering_then, false≢true, Decides-eqb, get_or-map, length-map, map-append, take_more, All-map, All-push, All-same, get_or-range_with_len, length-range_with_len, slice_get_within, get_or_from_slice_get, common_steps}
use Rattle.ac_automaton.specs.Prelude.{participants, pattern_of, plain, Standard, AreListed, compared, compared_by_bytes, IsOrder, Keyed, keyed, keyed_one, numbers, Precedes, SortedPattern, IsHead}
use Rattle.std.specs.Fn.{Called}
use Rattle.std.specs.Cmp.{IsTotalOrder}
use Rattle.std.specs.Cmp.Lexicographic.{slice_cmp}
use Rattle.std.specs.declared.cmp.Ordering.{Ordering}
use Rattle.std.specs.declared.cmp.Ordering.TheVariants.{Less, Equal, Greater}
use Rattle.std.proofs.lemmas.Cmp.{ranked, nat_cmp_total, nat_eq_equiv, nat_list_cmp_total, on_total, then_total}
use Rattle.std.proofs.lemmas.Fn.{always_returns_same}
use Rattle.std.proofs.lemmas.List.Sorted.{All-permutation, Contains-permutation, IsPermutation-map, IsPermutation-sym, ranks_by, sorted_far}
use Rattle.std.proofs.lemmas.Map.Keys.{IsDistinct-IsPermutation}
use Rattle.std.proofs.lemmas.Map.Lookups.{exact_bytes}
use Rattle.std.proofs.lemmas.Map.Made.{AllPairs-from_IsDistinct, IsDistinct-from_AllPairs}
use denote.Param.Members.{Mut}
use denote.Ref.{Bor}
use Rattle.ac_util.proofs.Lists.{IsOrdered, IsOrdered-map, IsOrdered-range, AllPairs-from_IsOrdered}
use Rattle.ac_automaton.proofs.Counting.{IsOrdered-from_AllPairs}
use Rattle.ac_automaton.proofs.PatternHeads.{compared-by_bytes}

-- the view has the number of the pattern that is stored at a place
pub sorted_number : (ignores_case : Bool) (sorted : List SortedPattern) (place : ℕ) (m : SortedPattern)
    → place < length sorted
    → m ≡ get_or sorted place m → slice_get (numbers (keyed ignores_case sorted)) place ≡ Some m.number
sorted_number ignores_case [] place m within is = absurd (omega arith)
sorted_number ignores_case (x ∷ sorted) zero m within is = ap (λ (w : SortedPattern). Some w.number) (sym is)
sorted_number ignores_case (x ∷ sorted) (suc place) m within is = sorted_number ignores_case sorted place m (omega arith) is

-- one element more of a list of which f gives the first elements
pub map-push : {X Y : Type 0} (f : X → Y) (all : List Y) (xs ys : List X) (n : ℕ) (x : X) → ys ≡ xs ++ x ∷ []
    → map f xs ≡ take n all → slice_get all n ≡ Some (f x) → map f ys ≡ take (n + 1) all
map-push f all xs ys n x is before at = grind (arith, common_steps, take_more all n (f x) (slice_get_within all n (f x) at), get_or_from_slice_get)

-- numbers from a on, and one more
range-push : (a n : ℕ) → range_with_len a (suc n) ≡ range_with_len a n ++ (a + n) ∷ []
range-push a zero = grind (arith, common_steps)
range-push a (suc n) = grind (arith, common_steps, range-push (a + 1) n)

-- one element more of a list that f numbers
pub map-range-push : {X : Type 0} (f : X → ℕ) (xs ys : List X) (n : ℕ) (x : X) → ys ≡ xs ++ x ∷ []
    → map f xs ≡ range_with_len 0 n → f x ≡ n → map f ys ≡ range_with_len 0 (n + 1)
map-range-push f xs ys n x is before at = search (rules, range-push 0 n, add-one n, map-append)

-- a fact of each element, and of one more
pub All-pushed : {X : Type 0} (P : X → Type 0) (xs ys : List X) (x : X) → ys ≡ xs ++ x ∷ [] → All P xs → P x
    → All P ys
All-pushed P xs ys x is all here = All-same P ys (xs ++ x ∷ []) is (All-push P xs x all here)

-- the comparison by bytes is a total order
by_bytes-total : (ignores_case : Bool) → IsTotalOrder (compared_by_bytes ignores_case)
by_bytes-total ignores_case =
    then_total (on_total (λ (m : SortedPattern). plain ignores_case m.bytes.now) nat_list_cmp_total)
    (on_total (λ (m : SortedPattern). m.number) nat_cmp_total)

-- the comparison is a total order
pub compared-total : (ignores_case : Bool) → IsTotalOrder (compared ignores_case)
compared-total ignores_case =
    then_total (on_total (λ (m : SortedPattern). m.head) nat_cmp_total) (by_bytes-total ignores_case)

-- what a sort ensures whose closure answers by the comparison
pub IsSortedBy-from_calls :
    (ignores_case : Bool) {F : Type 0} {g : Mut F (Bor SortedPattern × (Bor SortedPattern × Unit {0})) Ordering} {f : F}
    (sorted : List SortedPattern) → IsSortedByClosure g f sorted
    → ((a : Bor SortedPattern × (Bor SortedPattern × Unit {0})) (r : Ordering) (f' : F) → Called g f a r f'
    → (r ≡ compared ignores_case a.0.now a.1.0.now) × (f' ≡ f))
    → IsSortedBy (λ a b. is_lt (compared ignores_case a b)) sorted
IsSortedBy-from_calls ignores_case {g = g} {f = f} sorted up answers =
    up (λ a b. is_lt (compared ignores_case a b)) (ranks_by (compared-total ignores_case) (λ m. m))
    (always_returns_same g (λ a r. is_lt r ≡ is_lt (compared ignores_case a.0.now a.1.0.now)) f
    (λ a r f' called. (ap is_lt (answers a r f' called).0, (answers a r f' called).1)))

-- the greater of two is the lesser the other way round
is_gt-reverse : (o : Ordering) → is_gt (ordering_reverse o) ≡ is_lt o
is_gt-reverse Less = refl
is_gt-reverse Equal = refl
is_gt-reverse Greater = refl

-- of two keys that compare as no greater and differ by number, the first comes before the second
Precedes-by_parts : (a b : Keyed) (o p : Ordering) → slice_cmp nat_cmp a.key b.key ≡ o
    → nat_cmp a.number b.number ≡ p
    → is_gt (ordering_then o p) ≡ false → a.number ≢ b.number → Precedes a b
Precedes-by_parts a b Less p bytes numbers le apart = inl bytes
Precedes-by_parts a b Equal Less bytes numbers le apart = search (rules, exact_bytes, ranked)
Precedes-by_parts a b Equal Equal bytes numbers le apart = grind (arith, common_steps)
Precedes-by_parts a b Equal Greater bytes numbers le apart = absurd (false≢true (sym le))
Precedes-by_parts a b Greater p bytes numbers le apart = absurd (false≢true (sym le))

-- a is no greater than b, and has another number
record StandsBefore (ignores_case : Bool) (a b : SortedPattern) : Type 0 where
  no_greater : is_lt (compared_by_bytes ignores_case b a) ≡ false
  apart : a.number ≢ b.number

-- such patterns precede each other in the view
Precedes-from_StandsBefore : (ignores_case : Bool) (a b : SortedPattern) → StandsBefore ignores_case a b
    → Precedes (keyed_one ignores_case a) (keyed_one ignores_case b)
Precedes-from_StandsBefore ignores_case a b s =
    Precedes-by_parts (keyed_one ignores_case a) (keyed_one ignores_case b)
    (slice_cmp nat_cmp (plain ignores_case a.bytes.now) (plain ignores_case b.bytes.now)) (nat_cmp a.number b.number) refl refl
    (ap is_gt ((by_bytes-total ignores_case).antisymm a b) ∙ is_gt-reverse (compared_by_bytes ignores_case b a)
    ∙ s.no_greater) s.apart

-- a filter that lets all pass keeps the list
all_kept : (xs : List ℕ) → filter (λ _. true) xs ≡ xs
all_kept [] = refl
all_kept (x ∷ xs) = ap (λ w. x ∷ w) (all_kept xs)

-- under Standard all patterns take part
pub participants-Standard : (ignores_case : Bool) (patterns : List (List ℕ))
    → participants Standard (map (plain ignores_case) patterns) ≡ range_with_len 0 (length patterns)
participants-Standard ignores_case patterns = search (rules, all_kept, length-map)

-- the view has the numbers of the stored patterns
numbers-keyed : (ignores_case : Bool) (sorted : List SortedPattern)
    → numbers (keyed ignores_case sorted) ≡ map (λ m. m.number) sorted
numbers-keyed ignores_case [] = refl
numbers-keyed ignores_case (m ∷ sorted) = ap (λ w. m.number ∷ w) (numbers-keyed ignores_case sorted)

-- a weaker order of the same elements
IsOrdered-weaker : {X : Type 0} (R S : X → X → Type 0) → ((x y : X) → R x y → S x y) → (xs : List X)
    → IsOrdered R xs → IsOrdered S xs
IsOrdered-weaker R S weaker [] o = tt
IsOrdered-weaker R S weaker (x ∷ xs) o = ((λ y h. weaker x y (o.0 y h)), IsOrdered-weaker R S weaker xs o.1)

module _ (ignores_case : Bool) (patterns : List (List ℕ)) (listed : List SortedPattern)
    (are : AreListed patterns listed) where
  -- the number of a listed pattern
  abbrev number_of : SortedPattern → ℕ
  number_of m = m.number

  -- each is the pattern of its number
  listed-named : All (λ m. plain ignores_case m.bytes.now ≡ pattern_of (map (plain ignores_case) patterns) m.number) listed
  listed-named k d within =
      let long = ap length are.numbers ∙ length-range_with_len 0 (length patterns) in
      let same = length-map listed number_of in
      let below : k < length patterns = omega arith in
      let number : (get_or listed k d).number ≡ k =
      sym (get_or-map number_of listed k d d.number within) ∙ ap (λ w. get_or w k d.number) are.numbers
      ∙ get_or-range_with_len 0 (length patterns) k d.number below ∙ zero-plus k in
      let bytes : (get_or listed k d).bytes.now ≡ get_or patterns k d.bytes.now =
      sym (get_or-map (λ m. m.bytes.now) listed k d d.bytes.now within)
      ∙ ap (λ w. get_or w k d.bytes.now) are.bytes in
      ap (plain ignores_case) bytes ∙ sym (get_or-map (plain ignores_case) patterns k d.bytes.now [] below)
      ∙ ap (pattern_of (map (plain ignores_case) patterns)) (sym number)
    where
      zero-plus : (n : ℕ) → 0 + n ≡ n
      zero-plus n = omega arith

  -- the listed numbers differ
  listed-apart : AllPairs (λ x y. x ≢ y) (map number_of listed)
  listed-apart =
      let range = range_with_len 0 (length patterns) in
      subst (AllPairs (λ (x y : ℕ). x ≢ y)) (sym are.numbers)
      (AllPairs-from_IsOrdered (λ x y. x ≢ y) range
      (IsOrdered-weaker (λ x y. x < y) (λ x y. x ≢ y) (λ x y less. omega arith) range
      (IsOrdered-range 0 (length patterns))))

  module _ (sorted : List SortedPattern) (moved : IsPermutation listed sorted) where
    -- a sort moves the numbers with the patterns
    numbers-moved : IsPermutation (map number_of listed) (map number_of sorted)
    numbers-moved = IsPermutation-map number_of listed sorted moved

    -- a sort keeps the numbers, so they still differ
    sorted-apart : AllPairs (λ a b. a.number ≢ b.number) sorted
    sorted-apart i j d below within =
        let before = IsDistinct-from_AllPairs Decides-eqb (map number_of listed) listed-apart in
        let after = AllPairs-from_IsDistinct Decides-eqb (map number_of sorted)
        (IsDistinct-IsPermutation nat_eq (λ x y. nat_eq_equiv.symm x y) (map number_of listed)
        (map number_of sorted)
        numbers-moved before) in
        let long = length-map sorted number_of in
        let apart = after i j d.number below (omega arith) in
        λ same. apart (get_or-map number_of sorted i d d.number (omega arith) ∙ same
        ∙ sym (get_or-map number_of sorted j d d.number within))

    -- and they are those of the patterns that take part
    numbers-kept : (n : ℕ)
        → Contains (numbers (keyed ignores_case sorted)) n
        ↔ Contains (participants Standard (map (plain ignores_case) patterns)) n
    numbers-kept n =
        let is = are.numbers ∙ sym (participants-Standard ignores_case patterns) in (
          (λ h. subst (λ w. Contains w n) is
              (Contains-permutation (map number_of sorted) (map number_of listed) n
              (IsPermutation-sym (map number_of listed) (map number_of sorted) numbers-moved)
              (subst (λ w. Contains w n) (numbers-keyed ignores_case sorted) h))),
          (λ h. subst (λ w. Contains w n) (sym (numbers-keyed ignores_case sorted))
              (Contains-permutation (map number_of listed) (map number_of sorted) n numbers-moved
              (subst (λ w. Contains w n) (sym is) h))),
        )

    -- sorted by the comparison they stand in order
    pub IsOrder-from_sorted : All (λ m. IsHead m.head (plain ignores_case m.bytes.now)) listed → IsSortedBy
        (λ a b. is_lt (compared ignores_case a b)) sorted
        → IsOrder Standard (map (plain ignores_case) patterns) (keyed ignores_case sorted)
    IsOrder-from_sorted listed_heads up =
        let heads = All-permutation
        (λ m. IsHead m.head (plain ignores_case m.bytes.now)) listed sorted moved listed_heads in
        let less = λ (a b : SortedPattern). is_lt (compared ignores_case a b) in
        let far = sorted_far less (ranks_by (compared-total ignores_case) (λ m. m)) sorted up in
        let before = IsOrdered-from_AllPairs (StandsBefore ignores_case) sorted (λ i j d below within. record {
          no_greater = ap is_lt (sym (compared-by_bytes ignores_case (get_or sorted j d) (get_or sorted i d)
              (heads j d within) (heads i d (omega (arith, below, within)))))
              ∙ far i j d (omega arith) within;
          apart = sorted-apart i j d below within;
        }) in record {
          ascending = AllPairs-from_IsOrdered Precedes (keyed ignores_case sorted)
              (IsOrdered-map (StandsBefore ignores_case) Precedes (keyed_one ignores_case) sorted
              (Precedes-from_StandsBefore ignores_case) before);
          named = All-map (λ m. m.key ≡ pattern_of (map (plain ignores_case) patterns) m.number) (keyed_one ignores_case) sorted
              (All-permutation
              (λ m. plain ignores_case m.bytes.now ≡ pattern_of (map (plain ignores_case) patterns) m.number) listed sorted
              moved listed-named);
          lists = numbers-kept;
        }
