use Rattle.ac_util.proofs.Prelude.{arith, recursion_from_All}
use Rattle.ac_search.specs.Prelude.{IsBetweenCharacters, walk_result}
use Rattle.ac_automaton.specs.Util.{all, input_of, search_in}
use Rattle.ac_util.proofs.TextCuts.{find_result-between, listed-between, walk_result-between}
use Rattle.ac_search.proofs.laws.answers_cut_no_character.Goals as goal

pub returns-clause-find : goal.returns-clause-find
returns-clause-find g c =
    find_result-between c.args.searcher.now.built (input_of c.args.input) c.requires.patterns c.requires.haystack
    (omega arith)

pub returns-clause-walk : goal.returns-clause-walk
returns-clause-walk g c =
    recursion_from_All (IsBetweenCharacters c.args.input.haystack.now)
    (walk_result c.args.searcher.now.built (input_of c.args.input))
    (walk_result-between c.args.searcher.now.built (input_of c.args.input) c.requires.patterns c.requires.haystack
    (omega arith))

pub returns-clause-listing : goal.returns-clause-listing
returns-clause-listing g c =
    recursion_from_All (IsBetweenCharacters c.args.input.haystack.now)
    (all (search_in c.args.searcher.now.built (input_of c.args.input)))
    (listed-between c.args.searcher.now.built (input_of c.args.input) c.requires.patterns c.requires.haystack
    (omega arith))
