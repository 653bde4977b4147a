-- The looks of a step, and what pays them.
use Rattle.ac_util.proofs.Prelude.{◌≡◌, ◌⊎◌, ℕ, zero, suc, ◌+◌, ◌≤◌, ◌==◌, if◌then◌else◌, Bool, true, false, List, [], ◌∷◌, ◌++◌, arith, refl, None, Some, rules, common_steps}
use Rattle.ac_automaton.specs.Prelude.{depth, failure, is_node, looks_within, Anchored, Built, credit, looks, MatchKind, No, Node, plain_byte, Yes, looks_of, most_looks, plain_of, step_of}
use Rattle.ac_util.proofs.Failures.{looks-paid}
use Rattle.ac_util.proofs.SearchLoop.{step-paid}

-- each step looks at a state
within-one : (kind : MatchKind) (patterns : List (List ℕ)) (n : ℕ) (v : Node) (b : ℕ) → 1 ≤ looks_within kind patterns n v b
within-one kind patterns n None b = omega arith
within-one kind patterns n (Some []) b = omega arith
within-one kind patterns zero (Some (x ∷ v)) b = omega arith
within-one kind patterns (suc n) (Some (x ∷ v)) b = cases (is_node kind patterns (x ∷ v ++ b ∷ []))
  where
    cases : (t : Bool) → 1 ≤ elim t [ true ↦ 1 | false ↦ suc (looks_within kind patterns n (failure kind patterns (x ∷ v)) b) ]
    cases true = omega arith
    cases false = omega arith

one-look : (most : ℕ) (built : Built) (u : Node) (byte : ℕ) → 1 ≤ looks_of most built No u byte
one-look most built u byte = by (most == 1)
  where
    by : (t : Bool) → 1 ≤ (if t then 1 else looks built.kind (plain_of built) No u (plain_byte built.ignores_case byte))
    by true = omega arith
    by false = within-one built.kind (plain_of built) (depth u) u (plain_byte built.ignores_case byte)

-- an anchored one too
pub look-each : (most : ℕ) (built : Built) (anchored : Anchored) (u : Node) (byte : ℕ) → 1 ≤ looks_of most built anchored u byte
look-each most built No u byte = one-look most built u byte
look-each most built Yes u byte = by (most == 1)
  where
    by : (t : Bool) → 1 ≤ (if t then 1 else 1)
    by true = omega arith
    by false = omega arith

-- a step's looks are paid by what was saved and what the byte brings; an anchored one saves nothing and looks
-- once
pub step-within : (most : ℕ) (built : Built) (a : Anchored) (u : Node) (byte : ℕ) → (most ≡ 1) ⊎ (most ≡ 2)
    → looks_of most built a u byte + credit (most_looks a most) (step_of built a u byte)
    ≤ credit (most_looks a most) u + most_looks a most
step-within most built No u byte one_or_two = search (rules, step-paid)
step-within most built Yes u byte one_or_two = grind (arith, common_steps)

-- the dead node is worth nothing
pub credit-dead : (most : ℕ) → credit most None ≡ 0
credit-dead most = by (most == 1)
  where
    by : (t : Bool) → ◌≡◌ {A = ℕ} (if t then 0 else 0) 0
    by true = refl
    by false = refl

-- a step leads to a node that is longer by no more than a byte
pub step-short : (built : Built) (a : Anchored) (u : Node) (byte : ℕ) → depth (step_of built a u byte) ≤ depth u + 1
step-short built No u byte =
    let l = looks-paid built.kind (plain_of built) No u (plain_byte built.ignores_case byte) in
    let o = within-one built.kind (plain_of built) (depth u) u (plain_byte built.ignores_case byte) in omega arith
step-short built Yes u byte = let l = looks-paid built.kind (plain_of built) Yes u (plain_byte built.ignores_case byte) in omega arith
