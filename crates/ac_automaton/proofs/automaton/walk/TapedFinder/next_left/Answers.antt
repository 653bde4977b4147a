use Rattle.ac_util.proofs.Prelude.{sym, ◌∙◌, arith, rules, common_steps}
use Rattle.ac_automaton.proofs.WalkLoop.{repeated}
use Rattle.ac_automaton.proofs.automaton.walk.TapedFinder.next_left.Goals as goal

-- a match that repeats lies in the span, so there is a place after it
pub overflow_add-further : goal.overflow_add-further
overflow_add-further g c = grind (arith, common_steps, repeated c.args.last c.find-first.ensures.found c.requires.beyond (sym c.repeats.ensures ∙ c.if-not-repeats.false))

-- the second find goes on with the tape of the first
pub find-requires : goal.find-requires
find-requires g c =
    search (
      rules,
      repeated,
      repeated c.args.last c.find-first.ensures.found c.requires.beyond (sym c.repeats.ensures ∙ c.if-not-repeats.false),
    )
