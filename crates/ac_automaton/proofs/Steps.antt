-- How a step and the looks that it takes follow from what a state knows: the bytes that lead on, and where a
-- search goes on by any other byte.
use Rattle.ac_util.proofs.Prelude.{◌≡◌, ◌≢◌, ℕ, zero, suc, ◌+◌, ◌≤◌, ◌<◌, Bool, true, false, cond, List, [], ◌∷◌, ◌++◌, length, refl, ap, arith, Some, None, rules, common_steps}
use Rattle.ac_automaton.specs.Prelude.{depth, failure, is_node, looks, looks_within, MatchKind, No, Node, step, Yes, fallback}
use Rattle.ac_util.proofs.Reached.{stops, reached-nil, reached-cons, step-all}
use Rattle.ac_util.proofs.Failures.{step-failure, depth-failure}

module _ (kind : MatchKind) (patterns : List (List ℕ)) where
  -- where an anchored search goes on from a node
  abbrev transition_target : Node → ℕ → Node
  transition_target v b = step kind patterns Yes v b

  -- where an unanchored search goes on
  abbrev stepped : Node → ℕ → Node
  stepped v b = step kind patterns No v b

  -- an anchored search stays alive exactly if the longer string is a node
  leads : (w : List ℕ) (t : Bool) → cond t (Some w) None ≢ None → t ≡ true
  leads w true h = refl
  leads w false h = absurd (h refl)

  -- a choice that is dead was decided so
  stays : (w : List ℕ) (t : Bool) → cond t (Some w) None ≡ None → t ≡ false
  stays w true h = absurd (cc)
  stays w false h = refl

  -- a step from the start
  from_start : (b : ℕ) → stepped (Some []) b
      ≡ cond (is_node kind patterns (b ∷ [])) (Some (b ∷ []))
      (cond (stops kind patterns (b ∷ [])) None (Some []))
  from_start b = search (rules, reached-cons, reached-nil, step-all)

  -- where a byte leads on in an anchored search it leads there in any search
  pub step-transition_target : (v : Node) (b : ℕ) → transition_target v b ≢ None → stepped v b ≡ transition_target v b
  step-transition_target None b on = refl
  step-transition_target (Some []) b on = grind (arith, common_steps)
  step-transition_target (Some (x ∷ u)) b on = grind (arith, common_steps)

  -- by any other byte the start and the dead node lead where their states say
  pub step-fallback : (v : Node) (b : ℕ) → transition_target v b ≡ None → depth v ≡ 0 → stepped v b ≡ fallback kind patterns v
  step-fallback None b off short = refl
  step-fallback (Some []) b off short = grind (arith, common_steps)
  step-fallback (Some (x ∷ u)) b off short = absurd (omega arith)

  -- and a longer node steps as its failure target does
  pub step-on : (v : Node) (b : ℕ) → transition_target v b ≡ None → 0 < depth v
      → stepped v b ≡ stepped (fallback kind patterns v) b
  step-on None b off long = refl
  step-on (Some []) b off long = absurd (omega arith)
  step-on (Some (x ∷ u)) b off long = search (rules, stays, step-failure)

  -- as many nodes as the node has bytes are enough to count the looks
  enough : (n m : ℕ) (v : Node) (b : ℕ) → depth v ≤ n → depth v ≤ m
      → looks_within kind patterns n v b ≡ looks_within kind patterns m v b
  enough n m None b h k = refl
  enough n m (Some []) b h k = refl
  enough zero m (Some (x ∷ u)) b h k = absurd (omega arith)
  enough (suc n) zero (Some (x ∷ u)) b h k = absurd (omega arith)
  enough (suc n) (suc m) (Some (x ∷ u)) b h k =
      let l = depth-failure kind patterns x u in
      ap (λ (i : ℕ). elim (is_node kind patterns (x ∷ u ++ b ∷ [])) [ true ↦ 1 | false ↦ suc i ])
      (enough n m (failure kind patterns (x ∷ u)) b (omega arith) (omega arith))

  -- the looks from a longer node, by whether the byte leads on
  counted : (x : ℕ) (u : List ℕ) (b : ℕ) (t : Bool) → is_node kind patterns (x ∷ u ++ b ∷ []) ≡ t
      → looks kind patterns No (Some (x ∷ u)) b
      ≡ elim t [
        | true ↦ 1
        | false ↦ suc (looks_within kind patterns (length u) (failure kind patterns (x ∷ u)) b)
      ]
  counted x u b t is = cc

  -- a byte that leads on takes one look
  pub looks-transition_target : (v : Node) (b : ℕ) → transition_target v b ≢ None → looks kind patterns No v b ≡ 1
  looks-transition_target None b on = refl
  looks-transition_target (Some []) b on = refl
  looks-transition_target (Some (x ∷ u)) b on = grind (arith, common_steps)

  -- and so does every byte at the start and at the dead node
  pub looks-short : (v : Node) (b : ℕ) → depth v ≡ 0 → looks kind patterns No v b ≡ 1
  looks-short None b short = refl
  looks-short (Some []) b short = refl
  looks-short (Some (x ∷ u)) b short = absurd (omega arith)

  -- where a search goes on at the failure target there is one look more than from there
  pub looks-on : (v : Node) (b : ℕ) → transition_target v b ≡ None → 0 < depth v
      → looks kind patterns No v b ≡ 1 + looks kind patterns No (fallback kind patterns v) b
  looks-on None b off long = absurd (omega arith)
  looks-on (Some []) b off long = absurd (omega arith)
  looks-on (Some (x ∷ u)) b off long = search (rules, counted, depth-failure, enough, stays)
