-- The states of a plan's trie, as their readers know them.
use Rattle.ac_util.proofs.Prelude.{◌≡◌, ℕ, List, length, Some, ap, slice_get}
use Rattle.ac_engines.specs.Prelude.{No, Node, IsTrieState, listed_within, matches_of, HasWords, MayPack, PackPlan}

module _ (p q : PackPlan) (s : ℕ) (same : p ≡ q) where
  -- a state that has words stands for a node
  pub words-stand : HasWords q s → (u : Node) × IsTrieState p.trie s u
  words-stand has = (has.node, rw same (has.may.are_nodes.stands s has.node has.named))

  -- it lists the matches of the node
  pub listed-len : (nodes : List Node) (u : Node) → MayPack q nodes → slice_get nodes s ≡ Some u
      → length (listed_within p.trie.order p.trie.states s s) ≡ length (matches_of q.trie.built No u)
  listed-len nodes u may named = rw same (ap (λ (xs : List ℕ). length xs) (may.are_nodes.is_trie.lists s u named))
