use Rattle.ac_automaton.proofs.Pieces.{fed-ended}
use Rattle.ac_automaton.proofs.automaton.pieces.PieceFinder.end.Goals as goal

pub invariant_of-self : goal.invariant_of-self
invariant_of-self g c = fed-ended c.self.invariant
