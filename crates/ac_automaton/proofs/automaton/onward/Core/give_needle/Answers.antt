use Rattle.ac_util.proofs.Prelude.{subst, None}
use Rattle.ac_automaton.specs.Prelude.{point_of, scan_by, spot, Scanner, scanner, hand_of, HasReadOn, point, ReadsToStop}
use Rattle.ac_automaton.proofs.OnwardGoes.{fits-on, stops-read}
use Rattle.ac_automaton.proofs.automaton.onward.Core.give_needle.Given.{Over}
use Rattle.ac_automaton.proofs.automaton.onward.Core.give_needle.Goals.{After-byte_of-here}
use Rattle.ac_automaton.proofs.automaton.onward.Core.give_needle.Goals as goal

-- it has read as far as it reads
read : (g : Over) (c : After-byte_of-here g) → HasReadOn (scan_by g.A.Automaton.seen c.args.self.now) c.args.here.now.end
    (point_of (spot c.args.here.now c.args.tape.now c.args.looks.now))
    (point c.read_to_start.new.cursor c.byte_of-here.result c.read_to_start.new.tape c.read_to_start.new.looks)
read g c =
    stops-read c.requires.empty c.byte_of-here.ensures
    (subst (λ (sc : Scanner g.row.A.Denot g.row.A-Memory.Denot). ReadsToStop (scanner g.A.Automaton.seen sc).scan sc.span.end
    (point c.args.here.now.cursor None c.args.tape.now c.args.looks.now) c.in-Stopped.dead
    (point c.read_to_start.new.cursor (hand_of c.in-Stopped.dead) c.read_to_start.new.tape c.read_to_start.new.looks))
    c.scanner-scanner.ensures c.in-Stopped.ensures)

pub give-requires-clause-fits : goal.give-requires-clause-fits
give-requires-clause-fits g c = fits-on c.requires.fits (read g (goal.at.give-requires-clause-fits g c).After-byte_of-here).on
