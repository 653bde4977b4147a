use Rattle.ac_util.proofs.Prelude.{arith, All-weaker, recursion_from_All}
use Rattle.ac_search.specs.Prelude.{IsItsPattern, LiesIn, search_in, walk_result}
use Rattle.ac_automaton.specs.Util.{all, find_result, input_of}
use Rattle.ac_util.proofs.Lying.{find_result-IfSome, listed-lie, walk_result-lie}
use Rattle.ac_search.proofs.Between.{found-shows, shows}
use Rattle.ac_search.proofs.laws.answers_are_their_patterns.Goals as goal

pub returns-clause-find : goal.returns-clause-find
returns-clause-find g c =
    found-shows c.args.searcher.now.built (input_of c.args.input)
    (find_result c.args.searcher.now.built (input_of c.args.input)) c.requires
    (find_result-IfSome c.args.searcher.now.built (input_of c.args.input) (omega arith))

pub returns-clause-walk : goal.returns-clause-walk
returns-clause-walk g c =
    recursion_from_All _ _ (All-weaker (LiesIn c.args.searcher.now.built (input_of c.args.input))
    (IsItsPattern c.args.searcher.now.built (input_of c.args.input))
    (λ m h. shows c.args.searcher.now.built (input_of c.args.input) m c.requires h)
    (walk_result c.args.searcher.now.built (input_of c.args.input))
    (walk_result-lie c.args.searcher.now.built (input_of c.args.input) (omega arith)))

pub returns-clause-listing : goal.returns-clause-listing
returns-clause-listing g c =
    recursion_from_All _ _ (All-weaker (LiesIn c.args.searcher.now.built (input_of c.args.input))
    (IsItsPattern c.args.searcher.now.built (input_of c.args.input))
    (λ m h. shows c.args.searcher.now.built (input_of c.args.input) m c.requires h)
    (all (search_in c.args.searcher.now.built (input_of c.args.input)))
    (listed-lie c.args.searcher.now.built (input_of c.args.input) (omega arith)))
