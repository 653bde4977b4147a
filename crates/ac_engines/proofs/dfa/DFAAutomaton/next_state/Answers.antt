use Rattle.ac_util.proofs.Prelude.{rules, arith, common_steps}
use Rattle.ac_engines.proofs.Numbers.{row-within, stands-step}
use Rattle.ac_engines.proofs.dfa.DFAAutomaton.next_state.Goals as goal

pub look-requires : goal.look-requires
look-requires g c =
    let (u, stands) = c.requires.state in
    grind (arith, common_steps, row-within c.args.self.now c.args._anchored c.args.sid u c.args.byte stands c.ranges.byte.fits)

pub returns-clause-steps : goal.returns-clause-steps
returns-clause-steps g c = search (rules, stands-step)
