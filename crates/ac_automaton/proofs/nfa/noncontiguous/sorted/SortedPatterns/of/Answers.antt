-- Only under LeftmostFirst are there patterns that take no part.
use Rattle.ac_util.proofs.Prelude.{map, sym, subst}
use Rattle.ac_automaton.specs.Prelude.{plain, Standard, AreSorted}
use Rattle.std.proofs.lemmas.Result.{IfOk-weaker}
use Rattle.ac_automaton.proofs.Keeping.{IsOrder-all}
use Rattle.ac_automaton.proofs.nfa.noncontiguous.sorted.SortedPatterns.of.Goals as goal

pub returns-in_ok-all-in-LeftmostFirst : goal.returns-in_ok-all-in-LeftmostFirst
returns-in_ok-all-in-LeftmostFirst g c =
    IfOk-weaker c.participating.result _ (AreSorted c.args.kind c.args.ignores_case c.args.patterns.now) (λ m kept.
    subst (λ kind. AreSorted kind c.args.ignores_case c.args.patterns.now m) (sym c.in-LeftmostFirst.is)
    (kept c.args.ignores_case c.args.patterns.now c.in_ok-all-in-LeftmostFirst.ensures))
    c.participating.ensures

pub returns-in-Standard : goal.returns-in-Standard
returns-in-Standard g c =
    IfOk-weaker c.sorted-in-Standard.result (AreSorted Standard c.args.ignores_case c.args.patterns.now)
    (AreSorted c.args.kind c.args.ignores_case c.args.patterns.now)
    (λ m all. record {
      fold_is = all.fold_is;
      order = IsOrder-all c.args.kind (map (plain c.args.ignores_case) c.args.patterns.now) m.patterns c.in-Standard.is
          all.order;
    })
    c.sorted-in-Standard.ensures
