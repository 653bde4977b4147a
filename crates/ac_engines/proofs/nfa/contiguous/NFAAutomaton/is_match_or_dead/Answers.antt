use Rattle.ac_util.proofs.Prelude.{ap, inl, inr, arith, lt-ltb, ltb-true, cases_eq}
use Rattle.ac_engines.specs.Prelude.{ContiguousView}
use Rattle.ac_engines.proofs.PackedNumbers.{dead-number, match-number}
use Rattle.ac_engines.proofs.nfa.contiguous.NFAAutomaton.is_match_or_dead.Goals as goal

-- before the end of the matches' numbers stand the dead state and those that have matches, and no others
pub returns : goal.returns
returns g c = λ anchored u h.
    let end = ap (λ (p : ContiguousView). p.match_end) c.self.view_is in
    let value = c.as_usize.ensures.value in
    let ended = h.is_contiguous.ended in
    let dead = dead-number c.args.self.now anchored c.args.sid u h in
    let number = match-number c.args.self.now anchored c.args.sid u h in (
      λ is-true.
          let below = ltb-true c.as_usize.result c.self.inside.match_end is-true in
          elim (cases_eq c.args.sid 0) [
            | inl zero ↦ inl (dead.0 zero)
            | inr other ↦ inr (number.1 (omega arith, other))
          ],
      λ which. elim which [
        | inl none ↦
            let zero = dead.1 none in
            lt-ltb c.as_usize.result c.self.inside.match_end (omega arith)
        | inr some ↦
            let below = (number.0 some).0 in
            lt-ltb c.as_usize.result c.self.inside.match_end (omega arith)
      ],
    )
