use Rattle.ac_util.proofs.Prelude.{rules}
use Rattle.ac_util.proofs.PlainWalk.{pick-low}
use Rattle.ac_util.proofs.plain.walks.next_match.Goals as goal

-- the span of a pick starts by its end, which is within the haystack
pub overflow_add-query-inside : goal.overflow_add-query-inside
overflow_add-query-inside c = search (rules, pick-low)
