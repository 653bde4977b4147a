use Rattle.ac_util.proofs.Prelude.{Some, ◌∷◌, ap, arith, sym, ◌∙◌, rules}
use Rattle.ac_search.specs.Occurrence.{from}
use Rattle.ac_search.specs.Walk.{walk_after}
use Rattle.ac_util.proofs.Walks.{next-in_span, walk_after-None, walk_after-Some}
use Rattle.ac_c.specs.Batches.{last_of}
use Rattle.ac_c.proofs.walk.next.Goals as goal

-- without a next match nothing is left
pub returns-in_err-found-clause-gives : goal.returns-in_err-found-clause-gives
returns-in_err-found-clause-gives c =
    let w = c.args.matches.now in let cursor = c.args.cursor.now in let next = c.take.ensures.next in
    search (rules, walk_after-None w.picking.order (from w.left cursor.at) (last_of cursor) (search (rules, next)))

-- else it is left first, and what is left at its end follows
pub returns-clause-gives : goal.returns-clause-gives
returns-clause-gives c =
    let w = c.args.matches.now in let cursor = c.args.cursor.now in let m = c.in_ok-found.found in
    walk_after-Some w.picking.order (from w.left cursor.at) (last_of cursor) m
    (sym c.take.ensures.next ∙ c.in_ok-found.was)
    ∙ ap (λ end. m ∷ walk_after w.picking.order (from w.left end) (Some end)) (sym c.end.ensures)

-- it lies in the span that begins at the cursor
pub returns-clause-onward : goal.returns-clause-onward
returns-clause-onward c =
    let w = c.args.matches.now in let cursor = c.args.cursor.now in
    let inside = next-in_span w.picking.order (from w.left cursor.at) (last_of cursor) c.in_ok-found.found
    (sym c.take.ensures.next ∙ c.in_ok-found.was) in
    omega (arith, inside.from_low, inside.in_order)
