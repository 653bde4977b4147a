use Rattle.ac_util.proofs.Prelude.{◌<◌, ◌≤◌, length, subst, sym, arith, Some, rules}
use Rattle.ac_automaton.specs.Prelude.{Links, State}
use Rattle.ac_automaton.proofs.Grown.{state-read}
use Rattle.ac_automaton.proofs.Linking.{link-here, link-beyond}
use Rattle.ac_automaton.proofs.nfa.noncontiguous.growth.Growth.output_link.Goals as goal

pub returns-then-target : goal.returns-then-target
returns-then-target g c = search (rules, link-here, state-read)

pub returns-else-target : goal.returns-else-target
returns-else-target g c = λ m u a due.
    let there : c.args.fail < length c.args.self.now.states.items =
    (omega (arith, c.as_usize.ensures.value)) in
    let is = state-read c.args.self.now.states.items c.index-target.result.now c.as_usize-2.result c.args.fail
    c.as_usize-2.ensures.value there c.index-target.ensures in
    subst (λ (t : State). Links m (length c.args.self.now.states.items) (Some u) t.output_link) (sym is)
    (link-beyond m c.args.self.now.states.items u c.args.fail a due there
    (subst (λ (t : State). t.patterns_end ≤ t.patterns) is c.if-target.false))
