use Rattle.ac_util.proofs.Prelude.{List}
use Rattle.ac_engines.specs.Prelude.{Node, AreReady, HasPushedUpTo}
use Rattle.ac_engines.proofs.nfa.contiguous.pack.Packer.push_where.Given as goal

-- those of the states so far that are asked for were pushed
abbrev pub invariant-loop-state : goal.invariant-loop-state
invariant-loop-state g l = (nodes : List Node) → AreReady l.fn.self nodes
    → HasPushedUpTo l.fn.self nodes l.fn.front l.state l.fn.buffers.words.items l.buffers.words.items
