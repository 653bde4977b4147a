use Rattle.ac_util.proofs.Shortest.{shortest-empty}
use Rattle.ac_search.proofs.laws.shortest_is_empty.Goals as goal

pub returns : goal.returns
returns c = λ built. shortest-empty built.patterns
