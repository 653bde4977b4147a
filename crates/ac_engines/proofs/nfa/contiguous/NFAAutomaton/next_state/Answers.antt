use Rattle.ac_util.proofs.Prelude.{ap, sym, ◌∙◌}
use Rattle.ac_engines.specs.Prelude.{class_at, ContiguousView}
use Rattle.ac_engines.proofs.nfa.contiguous.NFAAutomaton.next_state.Goals as goal

pub returns-clause-steps : goal.returns-clause-steps
returns-clause-steps g c = λ u h.
    let class = c.get.ensures.value ∙ ap (λ (p : ContiguousView). class_at p.classes c.args.byte) c.self.view_is in
    c.follow.ensures.steps c.args.self.now c.args.byte u (sym c.words.ensures.value) c.ranges.byte.fits class h

pub returns-clause-looks : goal.returns-clause-looks
returns-clause-looks g c = λ u h.
    let class = c.get.ensures.value ∙ ap (λ (p : ContiguousView). class_at p.classes c.args.byte) c.self.view_is in
    c.follow.ensures.looks c.args.self.now c.args.byte u (sym c.words.ensures.value) c.ranges.byte.fits class h
