use Rattle.ac_util.proofs.Prelude.{List}
use Rattle.ac_engines.specs.Prelude.{Node, MayPack}
use Rattle.ac_engines.proofs.PlanSums.{ArePlaced}
use Rattle.ac_engines.proofs.nfa.contiguous.plan.Plan.numbers.Given as goal

-- the states so far have their places, and the next ones follow these
abbrev pub invariant-loop-state : goal.invariant-loop-state
invariant-loop-state g l =
    (nodes : List Node) → MayPack l.self nodes → ArePlaced l.self nodes l.state l.list.items l.front l.back
