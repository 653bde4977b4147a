use Rattle.ac_util.proofs.Prelude.{arith}
use Rattle.ac_automaton.proofs.ReadingOn.{reads-within}
use Rattle.ac_automaton.proofs.automaton.scan.Scanner.read_rest.Goals as goal

pub read-dead-requires : goal.read-dead-requires
read-dead-requires g c = record {
  may = record {
    alive = c.requires.may.alive;
    hand = tt;
    unread = c.requires.may.unread;
    inside = (let i = c.requires.may.inside in let w = c.rest_end.ensures.within in omega arith);
  };
}

pub returns : goal.returns
returns g c =
    let piece = c.read-dead.ensures.further in let o = c.rest_end.ensures.onward in
    record {
      on = reads-within piece.on c.rest_end.ensures.within (omega arith);
      moved = λ before none. piece.moved o none;
      gone = piece.gone;
    }
