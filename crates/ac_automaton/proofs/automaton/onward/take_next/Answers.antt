use Rattle.ac_util.proofs.Prelude.{◌≡◌, Some, IfSome, Option, refl, ap, sym, subst, ◌∙◌, arith}
use Rattle.ac_automaton.specs.Prelude.{IsGivable, MayTakeFrom, pending, ChainMatch, ChainRest}
use Rattle.ac_automaton.proofs.PastGives.{pending-nothing}
use Rattle.ac_automaton.proofs.automaton.onward.take_next.Given.{Over}
use Rattle.ac_automaton.proofs.automaton.onward.take_next.Goals.{After-get}
use Rattle.ac_automaton.proofs.automaton.onward.take_next.Goals as goal

-- what may be given
givable : (g : Over) (c : After-get g) (known : ChainMatch) → c.get.result ≡ Some known
    → IsGivable (g.A.Automaton.seen c.args.automaton.now).built c.in-Some.old known
givable g c known is =
    (subst (λ (r : Option ChainRest). IfSome r (MayTakeFrom (g.A.Automaton.seen c.args.automaton.now).built c.args.chains.now))
    c.in-Some.is c.requires.may).each known (sym c.get.ensures ∙ is)

pub returns-in_default-get : goal.returns-in_default-get
returns-in_default-get g c = (
  refl,
  ap (pending (g.A.Automaton.seen c.args.automaton.now).built c.args.chains.now) c.in-Some.is
      ∙ pending-nothing (g.A.Automaton.seen c.args.automaton.now).built c.args.chains.now c.in-Some.old
      (sym c.get.ensures ∙ c.in_default-get.is),
)

pub overflow_add-rest : goal.overflow_add-rest
overflow_add-rest g c =
    let is = givable g (goal.at.overflow_add-rest g c).After-get c.in-Some-get.known c.in-Some-get.is in
    let more = is.more in omega arith

pub overflow_add-old : goal.overflow_add-old
overflow_add-old g c =
    let is = givable g (goal.at.overflow_add-old g c).After-get c.in-Some-get.known c.in-Some-get.is in
    let small = is.small in omega arith

pub match_ending-requires-clause-numbered : goal.match_ending-requires-clause-numbered
match_ending-requires-clause-numbered g c =
    let is = givable g (goal.at.match_ending-requires-clause-numbered g c).After-get c.in-Some-get.known c.in-Some-get.is in is.numbered

pub match_ending-requires-clause-within : goal.match_ending-requires-clause-within
match_ending-requires-clause-within g c =
    let is = givable g (goal.at.match_ending-requires-clause-within g c).After-get c.in-Some-get.known c.in-Some-get.is in is.within

-- the match that it knows was given
pub returns : goal.returns
returns g c =
    let d = (goal.at.returns g c).After-get in (
      c.in-Some.old,
      c.in-Some.is,
      record {
        found = c.in-Some-get.known;
        there = sym c.get.ensures ∙ c.in-Some-get.is;
        stands = c.match_ending.ensures;
        left = refl;
      },
    )
