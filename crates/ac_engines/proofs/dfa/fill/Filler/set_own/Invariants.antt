use Rattle.ac_util.proofs.Prelude.{ℕ, List, length, take, Some}
use Rattle.ac_engines.specs.Prelude.{Node, transition_bytes_of, HasRow, HasSet, row_input}
use Rattle.ac_engines.proofs.dfa.fill.Filler.set_own.Given as goal

-- the own transitions so far are set
abbrev pub invariant-loop-index : goal.invariant-loop-index
invariant-loop-index g l = (nodes : List Node) (w : List ℕ) → HasRow l.fn.self nodes (length l.fn.table) l.fn.sid w
    → HasSet (row_input l.fn.self nodes) l.fn.anchored w (take l.index (transition_bytes_of l.fn.self.trie.built (Some w)))
    l.fn.table l.table
