use Rattle.ac_util.proofs.Prelude.{List, length}
use Rattle.ac_engines.specs.Prelude.{Node, FilledUpTo, MayFill}
use Rattle.ac_engines.proofs.dfa.fill.Filler.fill.Given as goal

-- the rows of the states so far are filled
abbrev pub invariant-loop-state : goal.invariant-loop-state
invariant-loop-state g l = (nodes : List Node) → MayFill l.fn.self nodes (length l.fn.table)
    → FilledUpTo l.fn.self nodes (length l.fn.table) l.state l.table
