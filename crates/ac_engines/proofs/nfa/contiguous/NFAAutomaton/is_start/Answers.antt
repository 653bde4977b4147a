use Rattle.ac_util.proofs.Prelude.{◌≡◌, ℕ, Bool, true, ◌∙◌, sym, ap, inl, inr, ◌&&◌, ◌==◌, arith, eq-eqb, common_steps}
use Rattle.ac_engines.specs.Prelude.{ContiguousView}
use Rattle.ac_engines.proofs.PackedNumbers.{start-number}
use Rattle.ac_engines.proofs.nfa.contiguous.NFAAutomaton.is_start.Goals as goal

-- what a comparison of state numbers says
equal-from : (a b : ℕ) (t : Bool) → t ≡ ((a == b) && true) → t ≡ true → a ≡ b
equal-from a b t is true-is = grind (arith, common_steps)

equal-says : (a b : ℕ) (t : Bool) → t ≡ ((a == b) && true) → a ≡ b → t ≡ true
equal-says a b t is same = is ∙ ap (λ (t : Bool). t && true) (eq-eqb a b same)

pub returns-then-eq : goal.returns-then-eq
returns-then-eq g c = λ anchored u h.
    let number = start-number c.args.self.now anchored c.args.sid u h in
    let start = ap (λ (p : ContiguousView). p.start) c.self.view_is in (
      λ is-true. number.0 (inl (equal-from c.args.sid c.self.inside.start c.eq.result c.eq.ensures is-true ∙ start)),
      λ empty. c.if-eq.true,
    )

pub returns-else-eq : goal.returns-else-eq
returns-else-eq g c = λ anchored u h.
    let number = start-number c.args.self.now anchored c.args.sid u h in
    let start = ap (λ (p : ContiguousView). p.start) c.self.view_is in
    let other = ap (λ (p : ContiguousView). p.anchored_start) c.self.view_is in (
      λ is-true. number.0 (inr (equal-from c.args.sid c.self.inside.anchored_start c.eq-else-eq.result
          c.eq-else-eq.ensures is-true ∙ other)),
      λ empty. elim (number.1 empty) [
        | inl first ↦
            let equal = equal-says c.args.sid c.self.inside.start c.eq.result c.eq.ensures (first ∙ sym start) in
            let unequal = c.if-eq.false in
            absurd cc
        | inr second ↦ equal-says c.args.sid c.self.inside.anchored_start c.eq-else-eq.result c.eq-else-eq.ensures
            (second ∙ sym other)
      ],
    )
