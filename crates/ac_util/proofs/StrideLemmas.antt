-- The stride is the least power of two that is not below the number of classes.
use Rattle.ac_util.proofs.Prelude.{◌≡◌, ℕ, zero, suc, ◌+◌, ◌<◌, ◌≤◌, ◌^◌, Bool, true, false, cond, List, inl, inr, refl, ap, Option, Some, arith, nat_le, find, unwrap_or, rules, range_with_len, cases_lt, leb-true, leb-false, common_steps}
use Rattle.ac_util.specs.Prelude.{alphabet_len, stride2, stride, AreClasses}
use Rattle.ac_util.proofs.ClassLists.{alphabet_len-few}

-- k is the first number from `low` on that passes, or `high` where none below `high` does
record IsFirstFrom (p : ℕ → Bool) (low high k : ℕ) : Type 0 where
  within : k ≤ high
  passes : k < high → p k ≡ true
  none_before : (j : ℕ) → low ≤ j → j < k → p j ≡ false

-- a number that is first after one that fails is first from that one on
first_or_later : (p : ℕ → Bool) (low high : ℕ) (later : Option ℕ) (t : Bool) → low ≤ high → p low ≡ t
    → IsFirstFrom p (low + 1) high (unwrap_or later high)
    → IsFirstFrom p low high (unwrap_or (cond t (Some low) later) high)
first_or_later p low high later true order is first = grind (arith, common_steps)
first_or_later p low high later false order is first = grind (arith, common_steps)

-- what is found among numbers is the first of them that passes
found-first : (p : ℕ → Bool) (n low high : ℕ) → low + n ≡ high
    → IsFirstFrom p low high (unwrap_or (find p (range_with_len low n)) high)
found-first p zero low high e = grind (arith, common_steps)
found-first p (suc n) low high e = search (rules, first_or_later, found-first p n (low + 1) high (omega arith))

module _ (classes : List ℕ) where
  -- whether the power of two is not below the number of classes
  abbrev fits : ℕ → Bool
  fits k = nat_le (alphabet_len classes) (2 ^ k)

  stride2-first : IsFirstFrom fits 0 8 (stride2 classes)
  unfolding stride2
  stride2-first = found-first fits 8 0 8 refl

  -- a stride is at most 2 ^ 8
  pub stride2-le : stride2 classes ≤ 8
  stride2-le = stride2-first.within

  -- no lesser power of two would do
  pub stride2-least : (k : ℕ) → alphabet_len classes ≤ 2 ^ k → stride2 classes ≤ k
  stride2-least k enough = elim (cases_lt k (stride2 classes)) [
    | inl below ↦
        let small = leb-false (alphabet_len classes) (2 ^ k) (stride2-first.none_before k (omega arith) below) in
        absurd (omega (arith, small, enough))
    | inr le ↦ le
  ]

  -- an exponent of which this holds is the stride's
  pub stride2-is : (k : ℕ) → k ≤ 8 → (k < 8 → alphabet_len classes ≤ 2 ^ k)
      → ((j : ℕ) → j < k → 2 ^ j < alphabet_len classes) → stride2 classes ≡ k
  stride2-is k within enough small = elim (cases_lt (stride2 classes) k) [
    | inl below ↦
        let fit =
        leb-true (alphabet_len classes) (2 ^ stride2 classes) (stride2-first.passes (omega arith)) in
        let less = small (stride2 classes) below in
        absurd (omega (arith, fit, less))
    | inr from ↦ elim (cases_lt k (stride2 classes)) [
      | inl above ↦
          let fit = enough (let top = stride2-le in omega (arith, top, above)) in
          let least = stride2-least k fit in omega (arith, least, above)
      | inr to ↦ omega arith
    ]
  ]

  -- the stride has room for each class
  pub stride-enough : AreClasses classes → alphabet_len classes ≤ stride classes
  stride-enough are = elim (cases_lt (stride2 classes) 8) [
    | inl below ↦ leb-true (alphabet_len classes) (2 ^ stride2 classes) (stride2-first.passes below)
    | inr top ↦
        let e : stride2 classes ≡ 8 = let within = stride2-le in omega (arith, within, top) in
        omega (arith, alphabet_len-few classes are, ap (λ (k : ℕ). 2 ^ k) e)
  ]
