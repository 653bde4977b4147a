-- Each pattern is kept or passed over, as the stack says.
use Rattle.ac_util.proofs.Prelude.{◌<◌, length, refl, arith, common_steps}
use Rattle.ac_automaton.proofs.Keeping.{Keeps-skip, Keeps-keep, Keeps-end}
use Rattle.ac_automaton.proofs.nfa.noncontiguous.sorted.keep_participants.Goals as goal
use Rattle.ac_automaton.proofs.nfa.noncontiguous.sorted.keep_participants.Goals.{then-not-is_shadowed+in_ok-push, else-not-is_shadowed}

pub loop-at-preserved : goal.loop-at-preserved
loop-at-preserved g c =
    let all = c.args.sorted.now.items in
    let now = c.loop-at.sorted.items in
    let old = c.loop-at.prefixes.items in
    let new = c.is_shadowed.new.prefixes.items in
    let pattern = c.index.result.now in
    let keeps = c.loop-at.invariant in
    let within : c.loop-at.at < length now = omega (arith, keeps.long, c.len-at-end.ensures) in
    elim c.if-not-is_shadowed.branch [
      | then-not-is_shadowed+in_ok-push w ↦
          rw (w.sorted-is, w.prefixes-is, w.kept-is, w.in_ok-push.ensures.items)
          (Keeps-keep c.args.ignores_case all now c.loop-at.kept c.loop-at.at old new pattern keeps within
          c.index.ensures
          c.is_shadowed.ensures.left c.is_shadowed.ensures.gone (w.if-not-is_shadowed.ensures.free refl))
      | else-not-is_shadowed w ↦ rw (w.sorted-is, w.prefixes-is, w.kept-is)
          (Keeps-skip c.args.ignores_case all now c.loop-at.kept c.loop-at.at old new pattern keeps within
          c.index.ensures
          c.is_shadowed.ensures.left c.is_shadowed.ensures.gone (w.if-not-is_shadowed.ensures.shadowed refl))
    ]

pub returns-clause-kept : goal.returns-clause-kept
returns-clause-kept g c = grind (arith, common_steps, Keeps-end c.args.ignores_case c.args.sorted.now.items c.loop-at.sorted.items c.truncate.new.self.items c.loop-at.kept c.loop-at.at c.loop-at.prefixes.items c.loop-at.invariant (omega (arith, c.len-at-end.ensures)) c.truncate.ensures.items)

pub loop-at-init : goal.loop-at-init
loop-at-init g c = grind (arith, common_steps)

pub returns-clause-few : goal.returns-clause-few
returns-clause-few g c = grind (arith, common_steps)

pub returns-clause-numbered : goal.returns-clause-numbered
returns-clause-numbered g c = grind (arith, common_steps)

pub returns-clause-short : goal.returns-clause-short
returns-clause-short g c = grind (arith, common_steps)
