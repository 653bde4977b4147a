use Rattle.ac_util.proofs.Prelude.{◌-◌}
use Rattle.ac_automaton.specs.Prelude.{scanner}
use Rattle.ac_automaton.proofs.FindPicks.{PicksOn}
use Rattle.ac_automaton.proofs.automaton.find.Finder.find_front.Given as goal

abbrev pub invariant-loop-scanner : goal.invariant-loop-scanner
invariant-loop-scanner g l =
    PicksOn (scanner g.A.Automaton.seen l.scanner) l.self-inside.core.stops l.initial.here l.fn.tape l.fn.looks l.here l.tape l.looks l.last

abbrev pub decreases-loop-scanner : goal.decreases-loop-scanner
decreases-loop-scanner g l = l.scanner.span.end - l.here.at
