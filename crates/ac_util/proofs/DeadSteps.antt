-- A step from a node in which something occurs to the dead node: its looks are paid by the node's length, without what
-- follows the occurrence, and one.
use Rattle.ac_util.proofs.Prelude.{◌≡◌, ℕ, zero, suc, ◌+◌, ◌-◌, ◌<◌, ◌≤◌, Bool, true, false, cond, List, [], ◌∷◌, ◌++◌, length, drop, refl, ap, sym, ◌∙◌, arith, None, Some, and_from, drop-drop}
use Rattle.ac_util.specs.Prelude.{begins_with_pattern, failure, is_leftmost, is_node, looks_within, MatchKind, No, Node, reached, step}
use Rattle.ac_util.proofs.NodeRests.{reached-rest}
use Rattle.ac_util.proofs.Failures.{failure-cons, step-failure, step-own}
use Rattle.ac_util.proofs.Living.{begins-early}
use Rattle.ac_util.proofs.Reached.{stops}

-- a pattern begins in the string where more than so many bytes are left
pub record BeginsBefore (patterns : List (List ℕ)) (u : List ℕ) (left : ℕ) : Type 0 where
  pub place : ℕ
  pub early : place + left < length u
  pub begins : begins_with_pattern patterns (drop place u) ≡ true

module _ (kind : MatchKind) (patterns : List (List ℕ)) (leftmost : is_leftmost kind ≡ true) (b left : ℕ) where
  abbrev looks-of : ℕ → Node → ℕ
  looks-of n u = looks_within kind patterns n u b

  module _ (n x : ℕ) (u : List ℕ) (before : BeginsBefore patterns (x ∷ u) left)
      (dead : step kind patterns No (Some (x ∷ u)) b ≡ None)
      (none : is_node kind patterns (x ∷ u ++ b ∷ []) ≡ false) where
    -- the failure target steps there too
    target-dead : step kind patterns No (failure kind patterns (x ∷ u)) b ≡ None
    target-dead = sym (step-failure kind patterns x u b none) ∙ dead

    -- where the target is dead a look at it is the last
    ends-there : failure kind patterns (x ∷ u) ≡ None → suc (looks-of n (failure kind patterns (x ∷ u))) + left ≤ length (x ∷ u) + 1
    ends-there is = let one = ap (looks-of n) is in let early = before.early in omega arith

    -- else the occurrence is in the target too
    module _ (stop : stops kind patterns (x ∷ u) ≡ false) (f : List ℕ) (is : reached kind patterns No u ≡ Some f) where
      target-is : failure kind patterns (x ∷ u) ≡ Some f
      target-is =
          failure-cons kind patterns x u
          ∙ ap (λ (t : Bool). cond t None (reached kind patterns No u)) stop ∙ is

      before-there : BeginsBefore patterns f left
      before-there = by before.place before.early before.begins
        where
          by : (place : ℕ) → place + left < length (x ∷ u) → begins_with_pattern patterns (drop place (x ∷ u)) ≡ true
              → BeginsBefore patterns f left
          by zero early begins =
              absurd (let no = sym stop ∙ and_from (is_leftmost kind) (begins_with_pattern patterns (x ∷ u)) leftmost begins in cc)
          by (suc place) early begins =
              let rest = reached-rest kind patterns u f is in
              let long = rest.1.long in
              let l = begins-early patterns kind u f place leftmost is (omega arith) begins in
              record {
                place = place - rest.0;
                early = omega arith;
                begins = ap (begins_with_pattern patterns)
                    (ap (drop (place - rest.0)) (sym rest.1.is) ∙ drop-drop (place - rest.0) rest.0 u
                    ∙ ap (λ (k : ℕ). drop k u) (omega arith)) ∙ begins;
              }

      goes-there : looks-of n (Some f) + left ≤ length f + 1
          → suc (looks-of n (failure kind patterns (x ∷ u))) + left ≤ length (x ∷ u) + 1
      goes-there paid =
          let same = ap (looks-of n) target-is in
          let long = (reached-rest kind patterns u f is).1.long in omega arith

  -- the looks of such a step, along all failure targets
  pub dead-paid : (n : ℕ) (u : List ℕ) → length u ≤ n → BeginsBefore patterns u left
      → step kind patterns No (Some u) b ≡ None → looks-of n (Some u) + left ≤ length u + 1
  dead-paid n [] within before dead = absurd (let early = before.early in omega arith)
  dead-paid zero (x ∷ u) within before dead = absurd (omega arith)
  dead-paid (suc n) (x ∷ u) within before dead =
      by (is_node kind patterns (x ∷ u ++ b ∷ [])) refl (λ f short here gone. dead-paid n f short here gone)
    where
      on : (stop : Bool) → stops kind patterns (x ∷ u) ≡ stop → (r : Node) → reached kind patterns No u ≡ r
          → is_node kind patterns (x ∷ u ++ b ∷ []) ≡ false
          → ((f : List ℕ) → length f ≤ n → BeginsBefore patterns f left → step kind patterns No (Some f) b ≡ None
          → looks-of n (Some f) + left ≤ length f + 1)
          → suc (looks-of n (failure kind patterns (x ∷ u))) + left ≤ length (x ∷ u) + 1
      on true is r e none later =
          ends-there n x u before dead none
          (failure-cons kind patterns x u ∙ ap (λ (t : Bool). cond t None (reached kind patterns No u)) is)
      on false is None e none later =
          ends-there n x u before dead none
          (failure-cons kind patterns x u ∙ ap (λ (t : Bool). cond t None (reached kind patterns No u)) is ∙ e)
      on false is (Some f) e none later =
          goes-there n x u before dead none is f e
          (later f (let l = (reached-rest kind patterns u f e).1.long in omega arith)
          (before-there n x u before dead none is f e)
          (sym (ap (λ (v : Node). step kind patterns No v b) (target-is n x u before dead none is f e))
          ∙ target-dead n x u before dead none))

      by : (own : Bool) → is_node kind patterns (x ∷ u ++ b ∷ []) ≡ own
          → ((f : List ℕ) → length f ≤ n → BeginsBefore patterns f left → step kind patterns No (Some f) b ≡ None
          → looks-of n (Some f) + left ≤ length f + 1)
          → looks-of (suc n) (Some (x ∷ u)) + left ≤ length (x ∷ u) + 1
      by true is later = absurd (let own = step-own kind patterns x u b is in cc)
      by false is later =
          let looks-are : looks-of (suc n) (Some (x ∷ u)) ≡ suc (looks-of n (failure kind patterns (x ∷ u))) =
          ap (λ (t : Bool). elim t [ true ↦ 1 | false ↦ suc (looks-of n (failure kind patterns (x ∷ u))) ]) is in
          let paid = on (stops kind patterns (x ∷ u)) refl (reached kind patterns No u) refl is later in
          omega arith
