-- What is kept of the patterns is in order where all patterns were.
use Rattle.ac_util.proofs.Prelude.{ap, map, sym, ◌∙◌, subst}
use Rattle.ac_automaton.specs.Prelude.{plain, Standard, IsOrder, Sorted}
use Rattle.ac_automaton.proofs.nfa.noncontiguous.sorted.SortedPatterns.participating.Goals as goal

pub returns : goal.returns
returns g c = λ ignores_case texts all. record {
  fold_is = ap (λ (s : Sorted). s.ignores_case) c.self.view_is ∙ all.fold_is;
  order = c.in_ok-keep_participants.ensures.kept (map (plain ignores_case) texts)
      (subst (λ (s : Sorted). IsOrder Standard (map (plain ignores_case) texts) s.patterns)
      (sym c.self.view_is) all.order);
}
