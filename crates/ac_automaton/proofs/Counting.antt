-- The pigeonhole principle: distinct elements of one list that all stand in another are no more than that has.
use Rattle.ac_util.proofs.Prelude.{◌≡◌, ◌≢◌, suc, ◌≤◌, List, [], ◌∷◌, length, inl, inr, refl, sym, ◌∙◌, subst, arith, AllPairs}
use Rattle.ac_util.proofs.Lists.{IsIn, IsOrdered, Contains-from_IsIn}

-- pairs of elements are ordered, as seen from each element on
pub IsOrdered-from_AllPairs : {X : Type 0} (R : X → X → Type 0) (xs : List X) → AllPairs R xs → IsOrdered R xs
IsOrdered-from_AllPairs R [] pairs = tt
IsOrdered-from_AllPairs R (x ∷ xs) pairs = (
  (λ y h.
      let at = Contains-from_IsIn y xs h in
      subst (R x) at.2 (pairs 0 (suc at.0) y (omega arith) (omega (arith, at.1)))),
  IsOrdered-from_AllPairs R xs (λ i j d below within. pairs (suc i) (suc j) d (omega arith) (omega arith)),
)

-- rest is ys without one place at which x stands
record IsWithout {X : Type 0} (x : X) (ys rest : List X) : Type 0 where
  shorter : suc (length rest) ≡ length ys
  others : (z : X) → x ≢ z → IsIn z ys → IsIn z rest

-- an element's place can be taken out
without : {X : Type 0} (x : X) (ys : List X) → IsIn x ys → (rest : List X) × IsWithout x ys rest
without x [] h = absurd h
without x (y ∷ ys) (inl e) = (
  ys,
  record {
    shorter = refl;
    others = λ z other h. elim h [ inl f ↦ absurd (other (sym e ∙ f)) | inr k ↦ k ];
  },
)
without x (y ∷ ys) (inr h) =
    let later = without x ys h in
    let shorter = later.1.shorter in (
      y ∷ later.0,
      record {
        shorter = omega arith;
        others = λ z other k. elim k [ inl f ↦ inl f | inr l ↦ inr (later.1.others z other l) ];
      },
    )

-- distinct elements that all stand in ys are no more than ys has
pub length-le-from_IsOrdered : {X : Type 0} (xs ys : List X) → IsOrdered (λ x y. x ≢ y) xs
    → ((x : X) → IsIn x xs → IsIn x ys) → length xs ≤ length ys
length-le-from_IsOrdered [] ys apart into = omega arith
length-le-from_IsOrdered (x ∷ xs) ys apart into =
    let cut = without x ys (into x (inl refl)) in
    let shorter = cut.1.shorter in
    let rest =
    length-le-from_IsOrdered xs cut.0 apart.1 (λ z h. cut.1.others z (apart.0 z h) (into z (inr h))) in
    omega arith
