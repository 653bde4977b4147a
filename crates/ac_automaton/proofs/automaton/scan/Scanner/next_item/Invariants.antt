use Rattle.ac_util.proofs.Prelude.{◌-◌}
use Rattle.ac_automaton.specs.Prelude.{scanner}
use Rattle.ac_automaton.proofs.ListSteps.{HasListedOn}
use Rattle.ac_automaton.proofs.automaton.scan.Scanner.next_item.Given as goal

abbrev pub invariant-loop-found : goal.invariant-loop-found
invariant-loop-found g l =
    HasListedOn (scanner g.A.Automaton.seen l.self)
    l.fn.reached l.fn.tape l.fn.looks l.reached l.tape l.looks

abbrev pub decreases-loop-found : goal.decreases-loop-found
decreases-loop-found g l = l.self.span.end - l.reached.at
