use Rattle.ac_util.proofs.Prelude.{Bool, None, refl, subst, sym}
use Rattle.ac_automaton.specs.Prelude.{No, scan_of, Scanner, scanner, hand_of, point, ReadsToStop}
use Rattle.ac_automaton.proofs.OnwardGoes.{stops-read}
use Rattle.ac_automaton.proofs.automaton.onward.Core.read_past.Goals as goal

pub returns : goal.returns
returns g c = record {
  reads = record {
    end = refl;
    read =
        stops-read c.requires.empty c.byte_of-here.ensures
        (subst (λ (t : Bool). ReadsToStop (scan_of (g.A.Automaton.seen c.args.self.now.automaton.now) No t) c.args.here.now.end
        (point c.args.here.now.cursor None c.args.tape.now c.args.looks.now) c.read_past_or_skip-dead.result
        (point c.read_past_or_skip-dead.new.cursor (hand_of c.read_past_or_skip-dead.result) c.read_past_or_skip-dead.new.tape c.read_past_or_skip-dead.new.looks)) (sym c.requires.past)
        (subst (λ (sc : Scanner g.row.A.Denot g.row.A-Memory.Denot). ReadsToStop (scanner g.A.Automaton.seen sc).scan sc.span.end
        (point c.args.here.now.cursor None c.args.tape.now c.args.looks.now) c.read_past_or_skip-dead.result
        (point c.read_past_or_skip-dead.new.cursor (hand_of c.read_past_or_skip-dead.result) c.read_past_or_skip-dead.new.tape c.read_past_or_skip-dead.new.looks)) c.scanner-scanner.ensures c.read_past_or_skip-dead.ensures));
  };
}
