-- One more byte is added, for which there is room.
use Rattle.ac_util.proofs.Prelude.{common_steps, arith, rules}
use Rattle.ac_automaton.proofs.PatternHeads.{head-bound, head-fits, head_of-zero, head_of-push}
use Rattle.ac_automaton.proofs.ReadOn.{below_next}
use Rattle.ac_automaton.proofs.nfa.noncontiguous.sorted.head_of.Goals as goal

pub loop-depth-init : goal.loop-depth-init
loop-depth-init c = search (rules, head_of-zero)

pub overflow_mul-head : goal.overflow_mul-head
overflow_mul-head c =
    let room = head-fits c.loop-depth.depth c.loop-depth.head 0 c.loop-depth-test.true c.loop-depth.invariant.bound (omega arith) in
    omega (arith, room)

pub overflow_add-head : goal.overflow_add-head
overflow_add-head c =
    let room = head-fits c.loop-depth.depth c.loop-depth.head c.byte_or_zero.result c.loop-depth-test.true
    c.loop-depth.invariant.bound c.byte_or_zero.type_inv in omega (arith, room, c.from.ensures)

pub loop-depth-preserved : goal.loop-depth-preserved
loop-depth-preserved c = grind (arith, common_steps, below_next, head-bound, head_of-push)
