use Rattle.ac_util.proofs.Prelude.{◌≡◌, List, take, Some, slice_get}
use Rattle.ac_engines.specs.Prelude.{Node, AreReady, packed_state}
use Rattle.ac_engines.proofs.nfa.contiguous.pack.Packer.list_edges.Given as goal

-- the own transitions so far are listed
abbrev pub invariant-loop-index : goal.invariant-loop-index
invariant-loop-index g l = (nodes : List Node) (u : Node) → AreReady l.fn.self nodes → slice_get nodes l.fn.sid ≡ Some u
    → l.edges.items ≡ take l.index (packed_state l.fn.self nodes l.fn.sid u).edges
