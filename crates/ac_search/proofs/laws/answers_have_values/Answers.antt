use Rattle.ac_util.proofs.Prelude.{◌<◌, arith, length, All-weaker, recursion_from_All, common_steps}
use Rattle.ac_search.specs.Prelude.{walk_result}
use Rattle.ac_automaton.specs.Util.{all, input_of, LiesIn, Occurrence, search_in}
use Rattle.ac_util.proofs.Lying.{find_result-IfSome, listed-lie, walk_result-lie}
use Rattle.ac_search.proofs.laws.answers_have_values.Goals as goal

pub returns-clause-find : goal.returns-clause-find
returns-clause-find g c =
    let lies = find_result-IfSome c.args.searcher.now.built (input_of c.args.input) (omega arith) in
    grind (arith, common_steps)

pub returns-clause-walk : goal.returns-clause-walk
returns-clause-walk g c =
    recursion_from_All _ _ (All-weaker (LiesIn c.args.searcher.now.built (input_of c.args.input))
    (λ (m : Occurrence). m.pattern < length c.args.values.now)
    (λ m h. let n = h.numbered in omega arith)
    (walk_result c.args.searcher.now.built (input_of c.args.input))
    (walk_result-lie c.args.searcher.now.built (input_of c.args.input) (omega arith)))

pub returns-clause-listing : goal.returns-clause-listing
returns-clause-listing g c =
    recursion_from_All _ _ (All-weaker (LiesIn c.args.searcher.now.built (input_of c.args.input))
    (λ (m : Occurrence). m.pattern < length c.args.values.now)
    (λ m h. let n = h.numbered in omega arith)
    (all (search_in c.args.searcher.now.built (input_of c.args.input)))
    (listed-lie c.args.searcher.now.built (input_of c.args.input) (omega arith)))
