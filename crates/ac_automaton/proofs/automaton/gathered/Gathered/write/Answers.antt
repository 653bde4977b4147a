use Rattle.ac_util.proofs.Prelude.{arith, common_steps}
use Rattle.ac_automaton.proofs.Gathering.{written-through}
use Rattle.ac_automaton.proofs.automaton.gathered.Gathered.write.Goals as goal

pub returns-then-piece-ge-ROOM : goal.returns-then-piece-ge-ROOM
returns-then-piece-ge-ROOM g c =
    written-through _ c.args.piece.now c.write_all.result c.in_ok-write_held.ensures.0 c.in_ok-write_held.ensures.1 c.write_all.ensures

pub returns : goal.returns
returns g c = grind (arith, common_steps)

pub returns-in_err-write_held : goal.returns-in_err-write_held
returns-in_err-write_held g c = grind (arith, common_steps)

pub returns-in_err-write_held-2 : goal.returns-in_err-write_held-2
returns-in_err-write_held-2 g c = grind (arith, common_steps)
