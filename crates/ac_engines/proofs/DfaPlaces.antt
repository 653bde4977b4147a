-- Where the rows of a DFA's strings begin is told by its table.
use Rattle.ac_util.proofs.Prelude.{◌≡◌, ℕ, ◌+◌, true, List, [], ◌∷◌, ◌++◌, ap, sym, ◌∙◌, arith, Some, None, common_steps}
use Rattle.ac_engines.specs.Prelude.{is_node, IsNode, MatchKind, No, Node, plain_byte, start_refusal, step, AreNodes, plain_of, Trie, anchored_shift, DfaView, entry, IsDfa, number_of, stride_of}
use Rattle.ac_engines.proofs.NodeBytes.{by-last, front-node, last-plain, last-small}

-- an unanchored search goes from a string to the longer one by a byte that leads on
pub step-longer : (kind : MatchKind) (patterns : List (List ℕ)) (w : List ℕ) (b : ℕ)
    → is_node kind patterns (w ++ b ∷ []) ≡ true → step kind patterns No (Some w) b ≡ Some (w ++ b ∷ [])
step-longer kind patterns w b node = grind (arith, common_steps)

module _ (trie : Trie) (nodes : List Node) (are : AreNodes trie nodes) (t : DfaView)
    (kind : t.built.kind ≡ trie.built.kind) (plains : plain_of t.built ≡ plain_of trie.built)
    (ignores_case : t.built.ignores_case ≡ trie.built.ignores_case)
    (supported : start_refusal t.built.start_kind No ≡ None) where
  -- a string that leads to a node of the DFA does in the trie
  same-node : (w : List ℕ) → IsNode t.built.kind (plain_of t.built) (Some w)
      → IsNode trie.built.kind (plain_of trie.built) (Some w)
  same-node w node = rw (sym kind, sym plains) node

  -- where a row begins, a byte leads to where that of the longer string does
  longer-place : (place : List ℕ → ℕ) → IsDfa t place → (v : List ℕ) (b : ℕ)
      → IsNode t.built.kind (plain_of t.built) (Some (v ++ b ∷ []))
      → entry t.classes t.entries (place v + anchored_shift t.built.start_kind No (stride_of t)) b
      ≡ place (v ++ b ∷ []) + anchored_shift t.built.start_kind No (stride_of t)
  longer-place place is v b node =
      let there = same-node (v ++ b ∷ []) node in
      let plain : plain_byte t.built.ignores_case b ≡ b =
      ap (λ (ignores : _). plain_byte ignores b) ignores_case ∙ last-plain trie nodes are v b there in
      is.steps No v b supported (rw (kind, plains) (front-node trie nodes are v b there)) (last-small trie nodes are v b there)
      ∙ ap (λ (u : Node). number_of place (anchored_shift t.built.start_kind No (stride_of t)) u)
      (ap (λ (c : ℕ). step t.built.kind (plain_of t.built) No (Some v) c) plain
      ∙ step-longer t.built.kind (plain_of t.built) v b node)

  -- so all say the same
  pub same-place : (first second : List ℕ → ℕ) → IsDfa t first → IsDfa t second
      → (w : List ℕ) → IsNode t.built.kind (plain_of t.built) (Some w) → first w ≡ second w
  same-place first second one two w node =
      by-last (λ w. IsNode t.built.kind (plain_of t.built) (Some w) → first w ≡ second w)
      (λ node. one.start ∙ sym two.start)
      (λ v b same node.
      let there = same-node (v ++ b ∷ []) node in
      let before = same (rw (kind, plains) (front-node trie nodes are v b there)) in
      let a = longer-place first one v b node in
      let c = longer-place second two v b node in
      let e = ap (λ (k : ℕ). entry t.classes t.entries (k + anchored_shift t.built.start_kind No (stride_of t)) b) before in
      omega (arith, a, c, e))
      w node
