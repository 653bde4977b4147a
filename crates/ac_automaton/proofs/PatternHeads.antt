-- The first bytes of a pattern as one number: how large it is, and that these numbers are in the order of the patterns.
use Rattle.ac_util.proofs.Prelude.{◌≡◌, ℕ, zero, suc, add-one, ◌+◌, ◌*◌, ◌^◌, ◌<◌, Bool, List, [], ◌∷◌, inl, inr, refl, sym, ap, ◌∙◌, arith, slice_index_or, rules, nat_cmp, ordering_then, cases_lt, common_steps}
use Rattle.ac_automaton.specs.Prelude.{plain, compared, compared_by_bytes, head_of, SortedPattern, IsHead}
use Rattle.std.specs.Cmp.Lexicographic.{slice_cmp}
use Rattle.std.specs.declared.cmp.Ordering.{Ordering}
use Rattle.std.specs.declared.cmp.Ordering.TheVariants.{Less, Equal, Greater}
use Rattle.std.proofs.lemmas.Cmp.{nat_list_cmp_total, ranked}
use Rattle.std.proofs.Math.Nat.{pow-suc}
use Rattle.ac_automaton.proofs.ReadOn.{below_next}

-- the first n bytes of a string are bytes
abbrev pub AreSmall : ℕ → List ℕ → Type 0
AreSmall n u = (k : ℕ) → k < n → slice_index_or u k 0 < 256

-- no bytes make 0
pub head_of-zero : (u : List ℕ) → head_of 0 u ≡ 0
unfolding head_of
head_of-zero u = refl

-- one byte more
pub head_of-push : (n : ℕ) (u : List ℕ) → head_of (n + 1) u ≡ head_of n u * 256 + slice_index_or u n 0
unfolding head_of
head_of-push n u = ap (λ k. head_of k u) (add-one n)

-- a number of n bytes, and one byte more
pub head-bound : (n : ℕ) (head b : ℕ) → head < 256 ^ n → b < 256 → head * 256 + b < 256 ^ (n + 1)
head-bound n head b bound small = grind (arith, common_steps, pow-suc)

-- a number of up to seven bytes has room for one more
pub head-fits : (n head b : ℕ) → n < 8 → head < 256 ^ n → b < 256 → head * 256 + b < 2 ^ 64
head-fits zero head b within bound small = omega arith
head-fits (suc zero) head b within bound small = omega arith
head-fits (suc (suc zero)) head b within bound small = omega arith
head-fits (suc (suc (suc zero))) head b within bound small = omega arith
head-fits (suc (suc (suc (suc zero)))) head b within bound small = omega arith
head-fits (suc (suc (suc (suc (suc zero))))) head b within bound small = omega arith
head-fits (suc (suc (suc (suc (suc (suc zero)))))) head b within bound small = omega arith
head-fits (suc (suc (suc (suc (suc (suc (suc zero))))))) head b within bound small = omega arith
head-fits (suc (suc (suc (suc (suc (suc (suc (suc n)))))))) head b within bound small = absurd (omega (arith, within))

-- equal numbers have equal bytes
head-same : (n : ℕ) (a b : List ℕ) → AreSmall n a → AreSmall n b → head_of n a ≡ head_of n b
    → (k : ℕ) → k < n → slice_index_or a k 0 ≡ slice_index_or b k 0
head-same zero a b p q same k within = absurd (omega (arith, within))
head-same (suc n) a b p q same k within =
    let x = p n (omega arith) in
    let y = q n (omega arith) in
    let left = ap (λ k. head_of k a) (sym (add-one n)) ∙ head_of-push n a in
    let right = ap (λ k. head_of k b) (sym (add-one n)) ∙ head_of-push n b in
    let before = head-same n a b (λ j h. p j (omega (arith, h))) (λ j h. q j (omega (arith, h)))
    (omega (arith, same, x, y, left, right)) in
    below_next n (λ j. slice_index_or a j 0 ≡ slice_index_or b j 0) before (omega (arith, same, x, y, left, right)) k
    (omega (arith, within))

-- of two strings that agree up to a place, the one with the lesser byte there comes first
first-difference : (n : ℕ) (a b : List ℕ) → ((k : ℕ) → k < n → slice_index_or a k 0 ≡ slice_index_or b k 0)
    → slice_index_or a n 0 < slice_index_or b n 0 → slice_cmp nat_cmp a b ≡ Less
first-difference n a [] same less = absurd (omega (arith, less))
first-difference n [] (y ∷ b) same less = refl
first-difference zero (x ∷ a) (y ∷ b) same less = search (rules, ranked)
first-difference (suc n) (x ∷ a) (y ∷ b) same less =
    by_rank (nat_cmp x y) refl (first-difference n a b (λ k h. same (suc k) (omega (arith, h))) less)
  where
    by_rank : (o : Ordering) → o ≡ nat_cmp x y → slice_cmp nat_cmp a b ≡ Less
        → slice_cmp nat_cmp (x ∷ a) (y ∷ b) ≡ Less
    by_rank o is rest = grind (arith, common_steps, ranked x y o is, same zero, rest)

-- of two strings the one with the lesser number comes first
pub head-less : (n : ℕ) (a b : List ℕ) → AreSmall n a → AreSmall n b → head_of n a < head_of n b
    → slice_cmp nat_cmp a b ≡ Less
head-less zero a b p q less =
    let left = head_of-zero a in
    let right = head_of-zero b in absurd (omega (arith, less, left, right))
head-less (suc n) a b p q less =
    let x = p n (omega arith) in
    let y = q n (omega arith) in
    let p' : AreSmall n a = λ k h. p k (omega (arith, h)) in
    let q' : AreSmall n b = λ k h. q k (omega (arith, h)) in
    let left = ap (λ k. head_of k a) (sym (add-one n)) ∙ head_of-push n a in
    let right = ap (λ k. head_of k b) (sym (add-one n)) ∙ head_of-push n b in
    elim (cases_lt (head_of n a) (head_of n b)) [
      | inl lower ↦ head-less n a b p' q' lower
      | inr upper ↦ first-difference n a b (head-same n a b p' q' (omega (arith, less, upper, x, y, left, right)))
          (omega (arith, less, upper, x, y, left, right))
    ]

module _ (ignores_case : Bool) (a b : SortedPattern) where
  -- the plain bytes of both
  abbrev left : List ℕ
  left = plain ignores_case a.bytes.now

  abbrev right : List ℕ
  right = plain ignores_case b.bytes.now

  -- where heads and bytes compare alike and differ, both orders give that answer
  both : (o : Ordering) → nat_cmp a.head b.head ≡ o → slice_cmp nat_cmp left right ≡ o
      → compared ignores_case a b ≡ compared_by_bytes ignores_case a b
  both Less heads bytes = search rules
  both Equal heads bytes = ap (λ o. ordering_then o (compared_by_bytes ignores_case a b)) heads
  both Greater heads bytes = search rules

  -- as the heads compare, so do the patterns
  by_heads : (o : Ordering) → o ≡ nat_cmp a.head b.head → IsHead a.head (plain ignores_case a.bytes.now)
      → IsHead b.head (plain ignores_case b.bytes.now)
      → compared ignores_case a b ≡ compared_by_bytes ignores_case a b
  by_heads Less is x y = search (rules, both, head-less, nat_list_cmp_total, ranked)
  by_heads Equal is x y = ap (λ o. ordering_then o (compared_by_bytes ignores_case a b)) (sym is)
  by_heads Greater is x y = search (rules, both, head-less, nat_list_cmp_total, ranked)

  -- two patterns with their heads compare as their bytes do
  pub compared-by_bytes : IsHead a.head (plain ignores_case a.bytes.now)
      → IsHead b.head (plain ignores_case b.bytes.now)
      → compared ignores_case a b ≡ compared_by_bytes ignores_case a b
  compared-by_bytes x y = by_heads (nat_cmp a.head b.head) refl x y
