use Rattle.ac_util.proofs.Prelude.{arith, rules, All-weaker, recursion_from_All, common_steps}
use Rattle.ac_automaton.specs.Util.{input_of}
use Rattle.ac_util.proofs.Lying.{find_result-IfSome, walk_result-lie, length-walk_result, listed-lie}
use Rattle.ac_search.proofs.laws.answers_lie_inside.Goals as goal

pub returns-clause-find : goal.returns-clause-find
returns-clause-find g c = find_result-IfSome c.args.searcher.now.built (input_of c.args.input) (omega arith)

pub returns-clause-walk : goal.returns-clause-walk
returns-clause-walk g c = search (rules, recursion_from_All, walk_result-lie)

pub returns-clause-ends : goal.returns-clause-ends
returns-clause-ends g c = grind (arith, common_steps, recursion_from_All, All-weaker, walk_result-lie c.args.searcher.now.built (input_of c.args.input) (omega arith))

pub returns-clause-few : goal.returns-clause-few
returns-clause-few g c = length-walk_result c.args.searcher.now.built (input_of c.args.input)

pub returns-clause-listing : goal.returns-clause-listing
returns-clause-listing g c = search (rules, listed-lie, recursion_from_All)

pub returns-clause-listing_ends : goal.returns-clause-listing_ends
returns-clause-listing_ends g c = grind (arith, common_steps, recursion_from_All, All-weaker, listed-lie c.args.searcher.now.built (input_of c.args.input) (omega arith))
