-- Failure targets lead to the same step, and the looks along them are paid by the length of the node.
use Rattle.ac_util.proofs.Prelude.{◌≡◌, ℕ, zero, suc, ◌+◌, ◌≤◌, Bool, true, false, cond, List, [], ◌∷◌, ◌++◌, length, refl, sym, ◌∙◌, arith, Some, None, rules, length_push, common_steps}
use Rattle.ac_util.specs.Prelude.{depth, failure, is_node, looks, looks_within, MatchKind, No, Node, reached, step, Yes}
use Rattle.ac_util.specs.declared.search.Anchored.{Anchored}
use Rattle.ac_util.proofs.Reached.{stops, reached-nil, reached-cons, step-cons, step-all, step-reached}

module _ (kind : MatchKind) (patterns : List (List ℕ)) where
  abbrev free : List ℕ → Node
  free w = reached kind patterns No w

  abbrev stepped : Node → ℕ → Node
  stepped v b = step kind patterns No v b

  -- the failure target is the node that the rest of the string reaches, or dead where a pattern begins at its
  -- front
  pub failure-cons : (x : ℕ) (u : List ℕ)
      → failure kind patterns (x ∷ u) ≡ cond (stops kind patterns (x ∷ u)) None (free u)
  failure-cons x u = grind (arith, common_steps)

  step_after : (u : List ℕ) (b : ℕ) (t : Bool)
      → cond t None (stepped (Some u) b) ≡ stepped (cond t None (free u)) b
  step_after u b true = refl
  step_after u b false = step-all kind patterns u b ∙ sym (step-reached kind patterns No u b)

  -- with a transition of its own a node steps there
  pub step-own : (x : ℕ) (u : List ℕ) (b : ℕ) → is_node kind patterns (x ∷ u ++ b ∷ []) ≡ true
      → stepped (Some (x ∷ u)) b ≡ Some (x ∷ u ++ b ∷ [])
  step-own x u b own = grind (arith, common_steps)

  -- without one it steps as its failure target does
  pub step-failure : (x : ℕ) (u : List ℕ) (b : ℕ) → is_node kind patterns (x ∷ u ++ b ∷ []) ≡ false
      → stepped (Some (x ∷ u)) b ≡ stepped (failure kind patterns (x ∷ u)) b
  step-failure x u b none = search (rules, step-cons, step_after)

  shorter : (x : ℕ) (w : List ℕ) (t s : Bool) → depth (free w) ≤ length w
      → depth (cond t (Some (x ∷ w)) (cond s None (free w))) ≤ length (x ∷ w)
  shorter x w true s h = omega arith
  shorter x w false true h = omega arith
  shorter x w false false h = omega arith

  -- the node reached is no longer than what was read
  pub depth-reached : (w : List ℕ) → depth (free w) ≤ length w
  depth-reached [] = rw (reached-nil kind patterns No) (omega arith)
  depth-reached (x ∷ w) = search (rules, reached-cons, shorter, stops, depth-reached w)

  dead_or_reached : (w : List ℕ) (s : Bool) → depth (cond s None (free w)) ≤ length w
  dead_or_reached w true = omega arith
  dead_or_reached w false = depth-reached w

  -- a failure target is shorter than its node
  pub depth-failure : (x : ℕ) (u : List ℕ) → depth (failure kind patterns (x ∷ u)) ≤ length u
  depth-failure x u = rw (failure-cons x u) (dead_or_reached u (stops kind patterns (x ∷ u)))

  one_at_most : (b : ℕ) → depth (stepped (Some []) b) ≤ 1
  one_at_most b = rw (step-all kind patterns [] b) (depth-reached (b ∷ []))

  paid : (n x : ℕ) (u : List ℕ) (b : ℕ) (t : Bool) → is_node kind patterns (x ∷ u ++ b ∷ []) ≡ t
      → looks_within kind patterns n (failure kind patterns (x ∷ u)) b + depth
      (stepped (failure kind patterns (x ∷ u)) b)
      ≤ depth (failure kind patterns (x ∷ u)) + 2
      → (elim t [
        | true ↦ 1
        | false ↦ suc (looks_within kind patterns n (failure kind patterns (x ∷ u)) b)
      ]) + depth (stepped (Some (x ∷ u)) b)
      ≤ length (x ∷ u) + 2
  paid n x u b true own later = rw (step-own x u b own) (let l = length_push u b in omega arith)
  paid n x u b false none later = rw (step-failure x u b none) (let l = depth-failure x u in omega arith)

  paid_within : (n : ℕ) (v : Node) (b : ℕ) → depth v ≤ n
      → looks_within kind patterns n v b + depth (stepped v b) ≤ depth v + 2
  paid_within n None b h = omega arith
  paid_within n (Some []) b h = let l = one_at_most b in omega arith
  paid_within zero (Some (x ∷ u)) b h = absurd (omega arith)
  paid_within (suc n) (Some (x ∷ u)) b h =
      let l = depth-failure x u in
      paid n x u b (is_node kind patterns (x ∷ u ++ b ∷ [])) refl
      (paid_within n (failure kind patterns (x ∷ u)) b (omega arith))

  one_longer_at_most : (u : List ℕ) (b : ℕ) (t : Bool)
      → 1 + depth (cond t (Some (u ++ b ∷ [])) None) ≤ length u + 2
  one_longer_at_most u b true = let l = length_push u b in omega arith
  one_longer_at_most u b false = omega arith

  -- the looks of a step, and the length of the node that it leads to, are paid by the length of the node it
  -- comes from and two
  pub looks-paid : (anchored : Anchored) (v : Node) (b : ℕ)
      → looks kind patterns anchored v b + depth (step kind patterns anchored v b) ≤ depth v + 2
  looks-paid No v b = paid_within (depth v) v b (omega arith)
  looks-paid Yes None b = omega arith
  looks-paid Yes (Some u) b = one_longer_at_most u b (is_node kind patterns (u ++ b ∷ []))
