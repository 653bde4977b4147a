use Rattle.ac_util.proofs.Prelude.{◌≡◌, ◌++◌, ◌∷◌, [], length, arith}
use Rattle.ac_util.specs.Prelude.{AreBounds, pieces}
use Rattle.ac_util.proofs.PiecesLemmas.{one_more_piece}
use Rattle.ac_util.proofs.patterns.pieces.Pieces.push.Given.{Over}
use Rattle.ac_util.proofs.patterns.pieces.Pieces.push.Goals.{In-Ok}
use Rattle.ac_util.proofs.patterns.pieces.Pieces.push.Goals as goal

-- items and a bound were added
one_piece : (g : Over) (c : In-Ok g)
    → AreBounds c.push.new.self.items (length c.extend_from_slice.new.self.items)
    × (pieces c.extend_from_slice.new.self.items c.push.new.self.items
    ≡ pieces c.self.inside.items.items c.self.inside.bounds.items ++ c.args.piece.now ∷ [])
one_piece g c =
    one_more_piece c.self.inside.items.items c.args.piece.now c.extend_from_slice.new.self.items
    c.self.inside.bounds.items c.push.new.self.items c.len.result c.self.invariant
    c.in_ok-extend_from_slice.ensures.items
    (omega (arith, c.len.ensures, c.extend_from_slice.new.self.ok)) c.in-Ok.ensures.items

pub invariant_of-self-in-Ok : goal.invariant_of-self-in-Ok
invariant_of-self-in-Ok g c = (one_piece g c).0

pub returns-in-Ok : goal.returns-in-Ok
returns-in-Ok g c = rw (← c.self.view_is) (one_piece g c).1
