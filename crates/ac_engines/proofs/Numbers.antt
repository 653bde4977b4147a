-- What the number of a state says of the node that it stands for.
use Rattle.ac_util.proofs.Prelude.{◌≡◌, ℕ, ◌+◌, ◌<◌, ◌≤◌, Bool, true, false, List, [], ◌∷◌, ◌++◌, drop, refl, arith, length, slice_index_or, Some, None, rules, common_steps}
use Rattle.ac_engines.specs.Prelude.{Both, class_at, failure, first_node, is_node, IsNode, MatchKind, No, Node, open_suffixes, StartKind, step, Unanchored, Yes, step_of, IsDfaState, DfaView, anchored_shift, stride_of}
use Rattle.std.proofs.lemmas.Nat.{pow_pos}
use Rattle.ac_util.specs.declared.search.Anchored.{Anchored}
use Rattle.ac_util.specs.declared.search.StartKind.TheVariants.{Anchored as AnchoredAlone}

-- the first of some strings that leads to a node is one
first_node-cons : (kind : MatchKind) (patterns : List (List ℕ)) (w : List ℕ) (ws : List (List ℕ)) (t : Bool)
    → is_node kind patterns w ≡ t → IsNode kind patterns (first_node kind patterns ws)
    → IsNode kind patterns (first_node kind patterns (w ∷ ws))
first_node-cons kind patterns w ws true e rest = rw e e
first_node-cons kind patterns w ws false e rest = rw e rest

first_node-node : (kind : MatchKind) (patterns : List (List ℕ)) (ws : List (List ℕ))
    → IsNode kind patterns (first_node kind patterns ws)
first_node-node kind patterns [] = tt
first_node-node kind patterns (w ∷ ws) =
    first_node-cons kind patterns w ws (is_node kind patterns w) refl (first_node-node kind patterns ws)

-- a step leads to a node
pub step-node : (kind : MatchKind) (patterns : List (List ℕ)) (anchored : Anchored) (w : List ℕ) (b : ℕ)
    → IsNode kind patterns (step kind patterns anchored (Some w) b)
step-node kind patterns No w b = search (rules, first_node-node)
step-node kind patterns Yes w b = first_node-node kind patterns ((w ++ b ∷ []) ∷ [])

-- and so does a failure target
pub failure-node : (kind : MatchKind) (patterns : List (List ℕ)) (x : ℕ) (w : List ℕ)
    → IsNode kind patterns (failure kind patterns (x ∷ w))
failure-node kind patterns x w = first_node-node kind patterns (drop 1 (open_suffixes kind patterns (x ∷ w)))

-- an anchored row stands at most one row after
pub anchored_shift-small : (start_kind : StartKind) (anchored : Anchored) (stride : ℕ)
    → anchored_shift start_kind anchored stride ≤ stride
anchored_shift-small Both No stride = omega arith
anchored_shift-small Both Yes stride = omega arith
anchored_shift-small Unanchored anchored stride = omega arith
anchored_shift-small AnchoredAlone anchored stride = omega arith

-- a row has an entry at least
pub positive : (t : DfaView) → 0 < stride_of t
positive t = pow_pos t.stride2

module _ (t : DfaView) (anchored : Anchored) where
  -- the row of a state lies in the table
  pub row-within : (s : ℕ) (u : Node) (b : ℕ) → IsDfaState t anchored s u → b < 256
      → s + class_at t.classes b < length t.entries
  row-within s None b h byte =
      let room = h.is_dfa.within anchored [] refl in
      let narrow = h.is_dfa.narrow b byte in
      let number = h.number in
      omega arith
  row-within s (Some w) b h byte = grind (arith, common_steps)

  -- an entry is the state after the step
  pub stands-step : (s r : ℕ) (u : Node) (b : ℕ) → IsDfaState t anchored s u → b < 256
      → r ≡ slice_index_or t.entries (s + class_at t.classes b) 0 → IsDfaState t anchored r (step_of t.built anchored u b)
  stands-step s r None b h byte e = grind (arith, common_steps)
  stands-step s r (Some w) b h byte e = search (rules, step-node)
