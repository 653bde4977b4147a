use Rattle.ac_search.specs.Prelude.{order_of}
use Rattle.ac_automaton.specs.Util.{search_in}
use Rattle.ac_search.proofs.SomeMatch.{picked-something}
use Rattle.ac_search.proofs.laws.finds_if_something_occurs.Goals as goal

pub returns : goal.returns
returns c = λ built input. picked-something (order_of built.kind input.earliest) (search_in built input)
