use Rattle.ac_util.proofs.Prelude.{◌-◌, None}
use Rattle.ac_automaton.specs.Prelude.{scanner, IsReading, point}
use Rattle.ac_automaton.proofs.automaton.scan.Scanner.read_past.Given as goal

abbrev pub invariant-loop-at : goal.invariant-loop-at
invariant-loop-at g l =
    IsReading (scanner g.A.Automaton.seen l.self).scan l.self.span.end (point l.fn.cursor None l.fn.tape l.fn.looks)
    (point (record { state = l.state; at = l.at }) None l.tape l.looks)

abbrev pub decreases-loop-at : goal.decreases-loop-at
decreases-loop-at g l = l.self.span.end - l.at
