use Rattle.ac_util.proofs.Prelude.{◌<◌, ◌-◌, None}
use Rattle.ac_automaton.specs.Prelude.{scanner, IsReading, point}
use Rattle.ac_automaton.proofs.automaton.scan.Scanner.read_to_match.Given as goal

abbrev pub invariant-loop-state : goal.invariant-loop-state
invariant-loop-state g l = record {
  before : l.at < l.self.span.end;
  reading : IsReading (scanner g.A.Automaton.seen l.self).scan l.self.span.end (point l.fn.cursor None l.fn.tape l.fn.looks)
      (point (record { state = l.state; at = l.at }) None l.tape l.looks);
}

abbrev pub decreases-loop-state : goal.decreases-loop-state
decreases-loop-state g l = l.self.span.end - l.at
