-- How many words the state of a node takes at the most.
use Rattle.ac_util.proofs.Prelude.{ℕ, ◌+◌, ◌≤◌, length, arith, common_steps}
use Rattle.ac_engines.specs.Prelude.{Built, No, Node, matches_of, node_words}

-- so does the state of a node
pub node_words-most : (built : Built) (dense_depth classes : ℕ) (u : Node) → classes ≤ 256
    → node_words built dense_depth classes u ≤ length (matches_of built No u) + 259
node_words-most built dense_depth classes u few = grind (arith, common_steps)
