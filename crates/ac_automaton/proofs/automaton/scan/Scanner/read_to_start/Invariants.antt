use Rattle.ac_util.proofs.Prelude.{◌-◌, None}
use Rattle.ac_automaton.specs.Prelude.{scanner, point, IsReading}
use Rattle.ac_automaton.proofs.automaton.scan.Scanner.read_to_start.Given as goal

abbrev pub invariant-loop-cursor : goal.invariant-loop-cursor
invariant-loop-cursor g l =
    IsReading (scanner g.A.Automaton.seen l.self).scan l.self.span.end (point l.fn.cursor None l.fn.tape l.fn.looks)
    (point l.cursor None l.tape l.looks)

abbrev pub decreases-loop-cursor : goal.decreases-loop-cursor
decreases-loop-cursor g l = l.self.span.end - l.cursor.at
