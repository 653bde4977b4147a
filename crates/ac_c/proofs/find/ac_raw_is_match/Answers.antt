use Rattle.ac_util.proofs.Prelude.{rules}
use Rattle.ac_search.specs.Built.{search_in}
use Rattle.ac_search.specs.Pick.{order_of}
use Rattle.ac_search.specs.declared.MatchKind.TheVariants.{Standard}
use Rattle.ac_c.specs.Searches.{input_by}
use Rattle.ac_c.proofs.FoundLemmas.{picks-alike}
use Rattle.ac_c.proofs.find.ac_raw_is_match.Goals as goal

-- the earliest match is found exactly if the one is that the match kind picks
pub returns-in-Ok-Some-clause-status : goal.returns-in-Ok-Some-clause-status
returns-in-Ok-Some-clause-status c =
    let built = c.args.reader.now.held.searcher.built in let input = input_by c.args.haystack.now c.args.span.now in
    search (rules, picks-alike (search_in built input) Standard (order_of built.kind input.earliest))

-- and so is none
pub returns-in-Ok-None-clause-status : goal.returns-in-Ok-None-clause-status
returns-in-Ok-None-clause-status c =
    let built = c.args.reader.now.held.searcher.built in let input = input_by c.args.haystack.now c.args.span.now in
    search (rules, picks-alike (search_in built input) Standard (order_of built.kind input.earliest))
