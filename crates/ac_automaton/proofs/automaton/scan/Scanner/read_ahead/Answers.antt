use Rattle.ac_util.proofs.Prelude.{◌≡◌, ◌⊎◌, ℕ, sym, subst}
use Rattle.ac_automaton.proofs.ReadAhead.{advances, may-read}
use Rattle.ac_automaton.proofs.automaton.scan.Scanner.read_ahead.Goals as goal

pub read_to_match_or_skip-dead-requires-clause-may : goal.read_to_match_or_skip-dead-requires-clause-may
read_to_match_or_skip-dead-requires-clause-may g c = may-read c.requires.may

pub returns : goal.returns
returns g c =
    advances
    (subst (λ (n : ℕ). (n ≡ 1) ⊎ (n ≡ 2)) (sym (g.met.A.Automaton.allows c.args.self.now.automaton.now)) g.met.A.Automaton.one_or_two)
    c.requires.stops c.requires.may c.read_to_match_or_skip-dead.ensures.further c.enter.ensures
