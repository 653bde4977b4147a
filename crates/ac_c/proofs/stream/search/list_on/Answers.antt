use Rattle.ac_c.proofs.StreamSteps.{takes-listing}
use Rattle.ac_c.proofs.stream.search.list_on.Goals as goal

pub returns : goal.returns
returns c =
    takes-listing c.args.finder.now c.args.piece.now.now c.next.new.piece.now c.next.result c.next.new.self c.next.ensures
