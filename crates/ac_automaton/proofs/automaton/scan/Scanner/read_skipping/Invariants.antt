use Rattle.ac_util.proofs.Prelude.{◌-◌, None}
use Rattle.ac_automaton.specs.Prelude.{scanner, point, IsReading}
use Rattle.ac_automaton.proofs.automaton.scan.Scanner.read_skipping.Given as goal

abbrev pub invariant-loop-dead : goal.invariant-loop-dead
invariant-loop-dead g l =
    IsReading (scanner g.A.Automaton.seen l.self).scan l.self.span.end (point l.fn.cursor None l.fn.tape l.fn.looks)
    (point l.here None l.tape l.looks)

abbrev pub decreases-loop-dead : goal.decreases-loop-dead
decreases-loop-dead g l = l.self.span.end - l.here.at
