-- The transitions by a plain byte, and those of a state in ascending order.
use Rattle.ac_util.proofs.Prelude.{◌≡◌, ◌≢◌, ℕ, ◌+◌, ◌<◌, ◌≤◌, Bool, true, List, [], ◌∷◌, length, get_or, sym, ◌∙◌, arith, AllPairs, nat_eq, rules, IsPermutation, IsSortedByKey, IsStrictlyIncreasing, nat_cmp, cases_lt, Decides-eqb, nat_tests, get_or-map, length-map, common_steps}
use Rattle.ac_automaton.specs.Prelude.{plain_byte, leading, Transition, transition_bytes}
use Rattle.std.specs.Char.{is_ascii_lowercase, to_ascii_lowercase, to_ascii_uppercase}
use Rattle.std.proofs.lemmas.Cmp.{nat_eq_equiv}
use Rattle.std.proofs.lemmas.List.Sorted.{IsPermutation-map}
use Rattle.std.proofs.lemmas.Map.Keys.{IsDistinct-IsPermutation, ge_from_not_lt}
use Rattle.std.proofs.lemmas.Map.Made.{AllPairs-from_IsDistinct, IsDistinct-from_AllPairs}
use Rattle.ac_util.proofs.Lists.{IsIn, IsOrdered}

-- a small letter and its capital are one letter, and differ
capital : (b : ℕ) → is_ascii_lowercase b ≡ true
    → (to_ascii_lowercase (to_ascii_uppercase b) ≡ b) × (to_ascii_uppercase b ≢ b)
capital b small = (grind (arith, nat_tests), grind (arith, nat_tests))

-- the transitions by one byte alone, and by it and another
abbrev one : ℕ → ℕ → List Transition
one b target = record { byte = b; target = target } ∷ []

-- two transitions to a target
abbrev two : ℕ → ℕ → ℕ → List Transition
two b x target = record { byte = b; target = target } ∷ one x target

module _ (ignores_case : Bool) (b target : ℕ) (settled : plain_byte ignores_case b ≡ b) where
  -- each is by a byte that is one with the plain byte, and leads to the target
  pub leading-plain : (t : Transition) → IsIn t (leading ignores_case b target)
      → (plain_byte ignores_case t.byte ≡ b) × (t.target ≡ target)
  leading-plain t h = grind (arith, common_steps)

  -- each byte that is one with it has one
  pub leading-has : (x : ℕ) → plain_byte ignores_case x ≡ b
      → IsIn (record { byte = x; target = target }) (leading ignores_case b target)
  leading-has x is = grind (arith, common_steps)

-- they are by different bytes
pub leading-apart : (ignores_case : Bool) (b target : ℕ) → IsOrdered (λ s t. s.byte ≢ t.byte) (leading ignores_case b target)
leading-apart ignores_case b target = grind (arith, common_steps)

-- each is below 256 where the plain one is
pub leading-small : (ignores_case : Bool) (b target : ℕ) → b < 256 → (t : Transition) → IsIn t (leading ignores_case b target)
    → t.byte < 256
leading-small ignores_case b target small t h = grind (arith, common_steps)

-- and at most two
pub leading-length : (ignores_case : Bool) (b target : ℕ) → length (leading ignores_case b target) ≤ 2
leading-length ignores_case b target = grind (arith, common_steps)

-- transitions by different bytes that are sorted by them rise strictly
pub sorted-ascends : (old sorted : List Transition) → AllPairs (λ s t. s.byte ≢ t.byte) old
    → IsPermutation old sorted
    → IsSortedByKey (λ t. t.byte) nat_cmp sorted → IsStrictlyIncreasing (transition_bytes sorted)
sorted-ascends old sorted apart moved up k within =
    let byte = λ (t : Transition). t.byte in
    let before = IsDistinct-from_AllPairs Decides-eqb (transition_bytes old) (λ i j d low l.
    let n = length-map old byte in
    let none : Transition = record { byte = d; target = 0 } in
    λ same. apart i j none low (omega arith)
    (sym (get_or-map byte old i none d (omega arith)) ∙ same ∙ get_or-map byte old j none d (omega arith))) in
    let after = AllPairs-from_IsDistinct Decides-eqb (transition_bytes sorted)
    (IsDistinct-IsPermutation nat_eq (λ x y. nat_eq_equiv.symm x y) (transition_bytes old)
    (transition_bytes sorted)
    (IsPermutation-map byte old sorted moved) before) in
    let n = length-map sorted byte in
    let none : Transition = record { byte = 0; target = 0 } in
    let low : (get_or sorted k none).byte ≤ (get_or sorted (k + 1) none).byte =
    ge_from_not_lt _ _ (up k none (omega arith) (omega arith)) in
    let first = get_or-map byte sorted k none 0 (omega arith) in
    let second = get_or-map byte sorted (k + 1) none 0 (omega arith) in
    let differ = after k (k + 1) 0 (omega arith) within in
    strict (get_or (transition_bytes sorted) k 0) (get_or (transition_bytes sorted) (k + 1) 0)
    (omega arith) differ
  where
    strict : (x y : ℕ) → x ≤ y → x ≢ y → x < y
    strict x y le apart = search (rules, cases_lt)
