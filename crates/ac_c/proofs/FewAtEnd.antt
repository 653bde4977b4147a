-- At most one occurrence of each pattern ends at a place.
use Rattle.ac_util.proofs.Prelude.{◌≡◌, ℕ, ◌<◌, ◌≤◌, false, List, [], ◌∷◌, length, map, eqb, refl, ap, sym, ◌∙◌, arith, inl, inr, ne_eqb, length-map}
use Rattle.std.specs.List.{IsDistinct}
use Rattle.std.proofs.lemmas.Map.Steps.{length-le_from_distinct_below}
use Rattle.ac_util.specs.Prelude.{IsBefore, Occurrence, Occurs, pattern_of, Search}
use Rattle.ac_util.proofs.Lists.{IsIn, IsOrdered, IsIn-from_map}
use Rattle.ac_c.proofs.ListLemmas.{each-recursive, in-found}

-- the number of an occurrence's pattern
abbrev number : Occurrence → ℕ
number m = m.pattern

module _ (q : Search) (end : ℕ) where
  -- of two different occurrences that end there the patterns differ
  patterns-differ : (m x : Occurrence) → IsBefore m x → Occurs q m → Occurs q x → m.end ≡ end → x.end ≡ end
      → m.pattern ≡ x.pattern → ⊥
  patterns-differ m x before om ox em ex same =
      let ends : m.end ≡ x.end = em ∙ sym ex in
      let as_long = ap (λ n. length (pattern_of q.patterns n)) same in
      let starts : m.start ≡ x.start = omega (arith, om.as_long, ox.as_long, as_long, ends) in
      omega (arith, before.patterns ends starts, same)

  -- so those of a list in order have different patterns
  patterns-distinct : (ms : List Occurrence) → IsOrdered IsBefore ms
      → ((m : Occurrence) → IsIn m ms → Occurs q m × (m.end ≡ end)) → IsDistinct eqb (map number ms)
  unfolding IsDistinct
  patterns-distinct [] o each = tt
  patterns-distinct (m ∷ ms) o each = (
    each-recursive (λ n. eqb m.pattern n ≡ false) (map number ms) (λ n i.
        let x = IsIn-from_map number n ms i in let here = each m (inl refl) in let there = each x.0 (inr x.1) in
        ne_eqb m.pattern n (λ same.
        patterns-differ m x.0 (o.0 x.0 x.1) here.0 there.0 here.1 there.1 (same ∙ sym x.2))),
    patterns-distinct ms o.1 (λ x i. each x (inr i)),
  )

  -- and are no more than there are patterns
  pub few-end : (ms : List Occurrence) → IsOrdered IsBefore ms
      → ((m : Occurrence) → IsIn m ms → Occurs q m × (m.end ≡ end)) → length ms ≤ length q.patterns
  few-end ms o each =
      let numbered : (n : ℕ) → IsIn n (map number ms) → n < length q.patterns = λ n i.
      let x = IsIn-from_map number n ms i in let within = (each x.0 x.1).0.numbered in
      omega (arith, within, x.2) in
      let few = length-le_from_distinct_below (map number ms) (length q.patterns) (patterns-distinct ms o each)
      (λ n h. numbered n (in-found n (map number ms) h)) in
      omega (arith, few, length-map ms number)
