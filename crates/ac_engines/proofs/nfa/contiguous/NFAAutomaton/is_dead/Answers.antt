use Rattle.ac_util.proofs.Prelude.{◌∙◌, sym, eq-eqb, eqb-true}
use Rattle.ac_engines.proofs.PackedNumbers.{dead-number}
use Rattle.ac_engines.proofs.nfa.contiguous.NFAAutomaton.is_dead.Goals as goal

pub returns : goal.returns
returns g c = λ anchored u h.
    let number = dead-number c.args.self.now anchored c.args.sid u h in
    let value = c.as_usize.ensures.value in (
      λ is-true. number.0 (sym value ∙ eqb-true c.as_usize.result 0 is-true),
      λ none. eq-eqb c.as_usize.result 0 (value ∙ number.1 none),
    )
