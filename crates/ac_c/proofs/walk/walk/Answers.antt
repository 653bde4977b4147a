use Rattle.ac_util.proofs.Prelude.{List, ◌++◌, map, take, sym, ap, ◌∙◌, rules}
use Rattle.ac_search.specs.Built.{search_in}
use Rattle.ac_search.specs.Input.{input_of}
use Rattle.ac_search.specs.Occurrence.{Occurrence, from}
use Rattle.ac_search.specs.Pick.{order_of}
use Rattle.ac_c.specs.Batches.{last_of}
use Rattle.ac_c.specs.Searches.{match_of}
use Rattle.ac_c.proofs.WalkEnds.{left-alike, none_past}
use Rattle.ac_c.proofs.walk.walk.Goals as goal

-- nothing is left at a cursor past the span
pub returns-then-cursor-end-clause-walks : goal.returns-then-cursor-end-clause-walks
returns-then-cursor-end-clause-walks c =
    let built = c.args.searcher.now.built in let input = input_of c.args.input in
    let q = search_in built input in let order = order_of built.kind input.earliest in
    let cursor = c.args.cursor.now in
    let nothing = none_past order (from q cursor.at) (last_of cursor) (search rules) in
    search (rules, nothing)

-- where no match follows, what was written is all that was left, and nothing is left past the haystack
pub returns-in-None-clause-walks : goal.returns-in-None-clause-walks
returns-in-None-clause-walks c =
    let built = c.args.searcher.now.built in let input = input_of c.args.input in
    let q = search_in built input in let order = order_of built.kind input.earliest in
    let loop = c.loop-filled in let kept = loop.invariant in
    let nothing = none_past order (from q c.past.result.at) (last_of c.past.result) (search rules) in
    let none_left =
    sym (left-alike order loop.matches.picking.order q loop.matches.left loop.cursor kept.order kept.left)
    ∙ c.in-None.ensures.gives.0 in
    let given = ap (λ (ms : List Occurrence). map match_of (take loop.filled loop.out) ++ ms) (nothing ∙ sym none_left) in (
      search rules,
      record {
        given = given ∙ kept.given;
        kept = search rules;
        fits = search rules;
        ends = λ _. nothing;
      },
    )
