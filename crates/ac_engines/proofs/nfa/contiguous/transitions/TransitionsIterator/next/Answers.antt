use Rattle.ac_util.proofs.Prelude.{rules}
use Rattle.ac_engines.proofs.Transitions.{first-edge, goes-on, none-left}
use Rattle.ac_engines.proofs.nfa.contiguous.transitions.TransitionsIterator.next.Goals as goal

-- no target is left, and so no transition
pub returns-in_err-target-clause-steps : goal.returns-in_err-target-clause-steps
returns-in_err-target-clause-steps c = search (rules, none-left)

-- the first transition is that to the first target
pub returns-clause-steps : goal.returns-clause-steps
returns-clause-steps c = search (rules, first-edge)

pub returns-clause-goes : goal.returns-clause-goes
returns-clause-goes c = search (rules, first-edge, goes-on)
