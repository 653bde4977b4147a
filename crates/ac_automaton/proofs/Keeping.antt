-- Which of all patterns in order take part under LeftmostFirst.
use Rattle.ac_util.proofs.Prelude.{◌≡◌, ℕ, ◌+◌, ◌-◌, ◌<◌, ◌≤◌, Bool, true, false, List, [], ◌∷◌, ◌++◌, length, take, get_or, ◌⊎◌, inl, inr, refl, ap, sym, ◌∙◌, subst, arith, length-set, set, nat_eq, filter, All, rules, AllWithin, HoldsAt, range_with_len, starts_with, get_or-map, length-map, map-append, take-map, All-filter, All-set, common_steps}
use Rattle.ac_automaton.specs.Prelude.{GREATEST, LeftmostFirst, LeftmostLongest, MatchKind, participants, participates, pattern_of, plain, Standard, is_prefix, IsOrder, key_at, Keyed, keyed, keyed_one, numbers, Precedes, SortedPattern}
use Rattle.std.proofs.lemmas.List.Filters.{FiltersInPlace, FiltersInPlace-all, FiltersInPlace-more_no, FiltersInPlace-more_set}
use Rattle.std.proofs.lemmas.List.Kept.{AllPairs-filter}
use Rattle.ac_util.proofs.Lists.{IsIn, IsIn-at, IsIn-map, IsIn-from_map, IsIn-filter, IsIn-from_filter, IsIn-range, IsIn-from_range, Contains-from_IsIn, IsIn-from_Contains}
use Rattle.ac_automaton.proofs.Places.{IsIn-from_take}
use Rattle.ac_automaton.proofs.Stacks.{Standing, Standing-keep, Standing-shrink, Standing-skip, least-from_last, no_part, none, numbered, sorted_of, takes_part_here}

-- a filter by number commutes with the view
keyed-filter : (ignores_case : Bool) (f : ℕ → Bool) (sorted : List SortedPattern)
    → keyed ignores_case (filter (λ m. f m.number) sorted) ≡ filter (λ m. f m.number) (keyed ignores_case sorted)
keyed-filter ignores_case f [] = refl
keyed-filter ignores_case f (m ∷ sorted) = grind (arith, common_steps, keyed-filter ignores_case f sorted)

-- those that take part, in order
pub IsOrder-kept : (ignores_case : Bool) (patterns : List (List ℕ)) (sorted : List SortedPattern)
    → IsOrder Standard patterns (keyed ignores_case sorted)
    → IsOrder LeftmostFirst patterns
    (keyed ignores_case (filter (λ m. participates LeftmostFirst patterns m.number) sorted))
IsOrder-kept ignores_case patterns sorted order =
    let all = keyed ignores_case sorted in
    let takes = λ (m : Keyed). participates LeftmostFirst patterns m.number in
    let kept : IsOrder LeftmostFirst patterns (filter takes all) = record {
      ascending = AllPairs-filter Precedes takes all order.ascending;
      named = All-filter takes (λ m. m.key ≡ pattern_of patterns m.number) all order.named;
      lists = λ n. (
        (λ h.
            let m =
            IsIn-from_map (λ (k : Keyed). k.number) n (filter takes all)
            (IsIn-from_Contains n (numbers (filter takes all)) h) in
            let f = IsIn-from_filter takes m.0 all m.1 in
            let within = numbered patterns all order m.0 f.0 in
            let e = m.2 in
            Contains-from_IsIn n (participants LeftmostFirst patterns)
            (IsIn-filter (participates LeftmostFirst patterns) n (range_with_len 0 (length patterns))
            (IsIn-range n 0 (length patterns) (omega arith) (omega arith))
            (ap (participates LeftmostFirst patterns) (sym e) ∙ f.1))),
        (λ h.
            let f =
            IsIn-from_filter (participates LeftmostFirst patterns) n (range_with_len 0 (length patterns))
            (IsIn-from_Contains n (participants LeftmostFirst patterns) h) in
            let r = IsIn-from_range n 0 (length patterns) f.0 in
            let m = sorted_of patterns all order n (omega arith) in
            Contains-from_IsIn n (numbers (filter takes all))
            (subst (λ (i : ℕ). IsIn i (numbers (filter takes all))) m.2
            (IsIn-map (λ (k : Keyed). k.number) m.0 (filter takes all)
            (IsIn-filter takes m.0 all m.1 (ap (participates LeftmostFirst patterns) m.2 ∙ f.1))))),
      );
    } in
    subst (IsOrder LeftmostFirst patterns)
    (sym (keyed-filter ignores_case (participates LeftmostFirst patterns) sorted)) kept

module _ (ignores_case : Bool) (patterns : List (List ℕ)) (all : List SortedPattern)
    (order : IsOrder Standard patterns (keyed ignores_case all)) (at : ℕ)
    (within : at < length all) (pattern : SortedPattern) (is : pattern ≡ get_or all at pattern)
    (old new : List SortedPattern)
    (s : Standing patterns (keyed ignores_case all) at (keyed ignores_case old)) (left : new ≡ take (length new) old)
    (gone : AllWithin (λ p. is_prefix ignores_case pattern p ≡ false) old (length new) (length old)) where
  -- the place lies within the view
  within-view : at < length (keyed ignores_case all)
  within-view = omega (arith, length-map all (keyed_one ignores_case))

  -- the pattern there is the stored one
  here-is : get_or (keyed ignores_case all) at none ≡ keyed_one ignores_case pattern
  here-is = get_or-map (keyed_one ignores_case) all at pattern none within ∙ ap (keyed_one ignores_case) (sym is)

  -- the stack without those that are no prefixes any more
  shrunk : Standing patterns (keyed ignores_case all) at (keyed ignores_case new)
  shrunk =
      let l = length-map old (keyed_one ignores_case) in
      subst (Standing patterns (keyed ignores_case all) at)
      (sym (ap (keyed ignores_case) left ∙ sym (take-map (keyed_one ignores_case) (length new) old)))
      (Standing-shrink patterns (keyed ignores_case all) order at within-view (keyed ignores_case old) s (length new)
      (λ k le below.
      let inside : k < length old = omega arith in
      subst (λ (w : Keyed). starts_with nat_eq w.key (key_at (keyed ignores_case old) k) ≡ false) (sym here-is)
      (subst (λ (w : Keyed). starts_with nat_eq (plain ignores_case pattern.bytes.now) w.key ≡ false)
      (sym (get_or-map (keyed_one ignores_case) old k pattern none inside)) (gone k pattern le inside))))

  -- the last of the stack stands in its view
  last-in : 0 < length new → IsIn (keyed_one ignores_case (get_or new (length new - 1) pattern)) (keyed ignores_case new)
  last-in some = IsIn-map (keyed_one ignores_case) (get_or new (length new - 1) pattern) new
      (IsIn-at (get_or new (length new - 1) pattern) pattern new (length new - 1) (omega arith) refl)

  -- a pattern after one of a lesser number takes no part
  shadowed-part : (0 < length new)
      × HoldsAt (λ p. (is_prefix ignores_case pattern p ≡ true) × (p.number < pattern.number)) new (length new - 1)
      → participates LeftmostFirst patterns pattern.number ≡ false
  shadowed-part h =
      grind (
        arith,
        common_steps,
        here-is,
        no_part,
        IsIn-from_take (keyed_one ignores_case (get_or new (length new - 1) pattern)) at (keyed ignores_case all) (shrunk.before (keyed_one ignores_case (get_or new (length new
            - 1) pattern)) (last-in h.0)),
      )

  -- it is passed over, and the stack stays
  pub shadowed-skips : (0 < length new)
      × HoldsAt (λ p. (is_prefix ignores_case pattern p ≡ true) × (p.number < pattern.number)) new (length new - 1)
      → (participates LeftmostFirst patterns pattern.number ≡ false)
      × Standing patterns (keyed ignores_case all) (at + 1) (keyed ignores_case new)
  shadowed-skips h = search (rules, Standing-skip, here-is, shadowed-part, shrunk, within-view)

  -- and else it does, and goes on the stack
  pub free-keeps : (0 < length new → HoldsAt (λ p. pattern.number ≤ p.number) new (length new - 1))
      → (participates LeftmostFirst patterns pattern.number ≡ true)
      × Standing patterns (keyed ignores_case all) (at + 1) (keyed ignores_case (new ++ pattern ∷ []))
  free-keeps h =
      let long = length-map new (keyed_one ignores_case) in
      let number = ap (λ (w : Keyed). w.number) here-is in
      let least =
      least-from_last (keyed ignores_case new) none (get_or (keyed ignores_case all) at none).number shrunk.falling (λ some.
      let l = h (omega arith) pattern in
      let e = ap (λ (w : Keyed). w.number) (ap (λ (i : ℕ). get_or (keyed ignores_case new) (i - 1) none) long
      ∙ get_or-map (keyed_one ignores_case) new (length new - 1) pattern none (omega arith)) in
      omega arith) in (
        ap (λ (w : Keyed). participates LeftmostFirst patterns w.number) (sym here-is)
            ∙ takes_part_here patterns (keyed ignores_case all) order at within-view (keyed ignores_case new) shrunk least,
        subst (Standing patterns (keyed ignores_case all) (at + 1))
            (ap (λ (w : Keyed). keyed ignores_case new ++ w ∷ []) here-is
            ∙ sym (map-append (keyed_one ignores_case) new (pattern ∷ [])))
            (Standing-keep patterns (keyed ignores_case all) order at within-view (keyed ignores_case new) shrunk least),
      )

-- under the other kinds all patterns take part
pub IsOrder-all : (kind : MatchKind) (patterns : List (List ℕ)) (sorted : List Keyed)
    → (kind ≡ Standard) ⊎ (kind ≡ LeftmostLongest) → IsOrder Standard patterns sorted
    → IsOrder kind patterns sorted
IsOrder-all kind patterns sorted (inl e) order = subst (λ k. IsOrder k patterns sorted) (sym e) order
IsOrder-all kind patterns sorted (inr e) order =
    let longest : IsOrder LeftmostLongest patterns sorted =
    record { ascending = order.ascending; named = order.named; lists = order.lists } in
    subst (λ k. IsOrder k patterns sorted) (sym e) longest

-- of all patterns those before a place that take part stand first, and the stack is that of the place
pub record Keeps (ignores_case : Bool) (all sorted : List SortedPattern) (kept at : ℕ)
    (prefixes : List SortedPattern) : Type 0 where
  pub beyond : kept ≤ at
  pub long : length sorted ≡ length all
  pub short : All (λ p. length p.bytes.now ≤ GREATEST) all → All (λ p. length p.bytes.now ≤ GREATEST) sorted
  pub numbers_small : All (λ p. p.number ≤ GREATEST) all → All (λ p. p.number ≤ GREATEST) sorted
  pub first : (patterns : List (List ℕ)) → IsOrder Standard patterns (keyed ignores_case all)
      → FiltersInPlace (λ m. participates LeftmostFirst patterns m.number) all sorted kept at
  pub standing : (patterns : List (List ℕ)) → IsOrder Standard patterns (keyed ignores_case all)
      → Standing patterns (keyed ignores_case all) at (keyed ignores_case prefixes)

-- what stands at the place is as it was
unmoved : {X : Type 0} (p : X → Bool) (all sorted : List X) (kept at : ℕ) (x : X)
    → FiltersInPlace p all sorted kept at → x ≡ get_or sorted at x → x ≡ get_or all at x
unmoved p all sorted kept at x f is = grind (arith, common_steps)

module _ (ignores_case : Bool) (all sorted : List SortedPattern) (kept at : ℕ) (old new : List SortedPattern)
    (pattern : SortedPattern)
    (keeps : Keeps ignores_case all sorted kept at old) (within : at < length sorted)
    (is : pattern ≡ get_or sorted at pattern)
    (left : new ≡ take (length new) old)
    (gone : AllWithin (λ p. is_prefix ignores_case pattern p ≡ false) old (length new) (length old)) where
  module _ (patterns : List (List ℕ)) (order : IsOrder Standard patterns (keyed ignores_case all)) where
    -- the place is one of all patterns
    in_all : at < length all
    in_all = omega (arith, keeps.long)

    -- and has the pattern as it was
    is_in_all : pattern ≡ get_or all at pattern
    is_in_all =
        unmoved (λ m. participates LeftmostFirst patterns m.number) all sorted kept at pattern
        (keeps.first patterns order) is

  -- a pattern that stands after one of a lesser number is passed over
  pub Keeps-skip : (0 < length new)
      × HoldsAt (λ p. (is_prefix ignores_case pattern p ≡ true) × (p.number < pattern.number)) new (length new - 1)
      → Keeps ignores_case all sorted kept (at + 1) new
  Keeps-skip h =
      let step = λ (patterns : List (List ℕ)) (order : IsOrder Standard patterns (keyed ignores_case all)).
      shadowed-skips ignores_case patterns all order at (in_all patterns order) pattern
      (is_in_all patterns order) old new
      (keeps.standing patterns order) left gone h in
      let b = keeps.beyond in record {
        beyond = omega arith;
        long = keeps.long;
        short = keeps.short;
        numbers_small = keeps.numbers_small;
        first = λ patterns order. FiltersInPlace-more_no {x = pattern} (keeps.first patterns order) within
            (step patterns order).0 is;
        standing = λ patterns order. (step patterns order).1;
      }

  -- any other is moved down, and goes on the stack
  pub Keeps-keep : (0 < length new → HoldsAt (λ p. pattern.number ≤ p.number) new (length new - 1))
      → Keeps ignores_case all (set sorted kept pattern) (kept + 1) (at + 1) (new ++ pattern ∷ [])
  Keeps-keep h =
      let step = λ (patterns : List (List ℕ)) (order : IsOrder Standard patterns (keyed ignores_case all)).
      free-keeps ignores_case patterns all order at (in_all patterns order) pattern (is_in_all patterns order) old new
      (keeps.standing patterns order) left gone h in
      let b = keeps.beyond in record {
        beyond = omega arith;
        long = length-set sorted kept pattern ∙ keeps.long;
        short = λ small. All-set (λ p. length p.bytes.now ≤ GREATEST) sorted kept pattern
            (subst (λ (w : SortedPattern). length w.bytes.now ≤ GREATEST) (sym is)
            (keeps.short small at pattern within)) (keeps.short small);
        numbers_small = λ small. All-set (λ p. p.number ≤ GREATEST) sorted kept pattern
            (subst (λ (w : SortedPattern). w.number ≤ GREATEST) (sym is)
            (keeps.numbers_small small at pattern within))
            (keeps.numbers_small small);
        first = λ patterns order. FiltersInPlace-more_set {x = pattern} (keeps.first patterns order) within
            (step patterns order).0 is;
        standing = λ patterns order. (step patterns order).1;
      }

-- after the loop those that take part are left
pub Keeps-end : (ignores_case : Bool) (all sorted cut : List SortedPattern) (kept at : ℕ)
    (prefixes : List SortedPattern)
    → Keeps ignores_case all sorted kept at prefixes
    → length all ≤ at → cut ≡ take kept sorted → (patterns : List (List ℕ))
    → IsOrder Standard patterns (keyed ignores_case all)
    → IsOrder LeftmostFirst patterns (keyed ignores_case cut)
Keeps-end ignores_case all sorted cut kept at prefixes keeps done is patterns order =
    search (rules, FiltersInPlace-all (keeps.first patterns order) done, IsOrder-kept ignores_case patterns all order)
