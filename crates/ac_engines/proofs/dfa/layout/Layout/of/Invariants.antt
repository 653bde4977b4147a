use Rattle.ac_util.proofs.Prelude.{List}
use Rattle.ac_engines.specs.Prelude.{Node, state_count, AreNodes, plain_of, table_rows}
use Rattle.ac_engines.proofs.LaidUpTo.{IsLaidUpTo, plan_of}
use Rattle.ac_engines.proofs.dfa.layout.Layout.of.Given as goal

-- the states so far have their rows
abbrev pub invariant-loop-state : goal.invariant-loop-state
invariant-loop-state g l =
    (nodes : List Node) → AreNodes l.fn.nfa nodes → IsLaidUpTo (plan_of l.fn.nfa l.fn.start_kind l.fn.stride2 nodes)
    l.state l.numbers.items l.rows.lists l.rows.back
    (table_rows l.fn.start_kind (state_count l.fn.nfa.built.kind (plain_of l.fn.nfa.built)))
