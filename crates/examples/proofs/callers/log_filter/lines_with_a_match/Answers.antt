use Rattle.std.proofs.Common.{rules, tests, is_some}
use Rattle.std.proofs.lemmas.Iterator.Consumers.{map_from_collect, YieldsList-from_filter, YieldsList-at}
use Rattle.std.proofs.lemmas.Iterator.Splits.{YieldsList-from_lines}
use Rattle.ac_search.specs.Built.{find_result}
use Rattle.ac_search.specs.Input.{whole_input}
use Rattle.examples.proofs.callers.log_filter.lines_with_a_match.Goals as goal

pub returns : goal.returns
returns c =
    map_from_collect _ c.collect.ensures.ran
    (YieldsList-from_filter _ (λ line. is_some (find_result c.args.searcher.now.built (whole_input line)))
    (YieldsList-at c.filter.ensures.source (YieldsList-from_lines c.args.log.now c.lines.ensures.rest))
    c.filter.ensures.closure (λ x r q k. search (rules, tests)))
