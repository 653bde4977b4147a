use Rattle.ac_util.proofs.Prelude.{ap, sym, subst, ◌∙◌}
use Rattle.ac_engines.specs.Prelude.{Format, One, Packer, HasFormat}
use Rattle.ac_engines.proofs.PackedForms.{no-matches}
use Rattle.ac_engines.proofs.nfa.contiguous.pack.Packer.push.Goals as goal

-- it has no matches
pub format-requires-clause-matches : goal.format-requires-clause-matches
format-requires-clause-matches g c = λ nodes u may named.
    no-matches c.self.inside.plan.now nodes u (sym (c.is_match.ensures nodes u may named) ∙ c.if-is_match.false)

-- and may have the form for one transition
pub push_only-requires-clause-one : goal.push_only-requires-clause-one
push_only-requires-clause-one g c =
    subst (λ p. HasFormat p c.args.sid One) (ap (λ (f : Packer). f.plan) c.self.view_is)
    (subst (λ (r : Format). HasFormat c.self.inside.plan.now c.args.sid r) c.in-One.is c.format.ensures)
