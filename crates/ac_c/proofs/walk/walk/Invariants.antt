use Rattle.ac_util.proofs.Prelude.{◌≡◌, ◌≤◌, ◌++◌, drop, length, map, take}
use Rattle.ac_search.specs.Built.{search_in}
use Rattle.ac_search.specs.Input.{input_of}
use Rattle.ac_search.specs.Occurrence.{from}
use Rattle.ac_search.specs.Pick.{order_of}
use Rattle.ac_c.specs.Searches.{match_of}
use Rattle.ac_c.specs.Steps.{WalkStandsAt}
use Rattle.ac_c.proofs.walk.walk.Given as goal
use Rattle.ac_c.specs.Batches.{walk_from}

-- the walk stands at the cursor; what was written so far and what is left are what was left before; and the rest of
-- `out` is as it was
abbrev pub invariant-loop-filled : goal.invariant-loop-filled
invariant-loop-filled l =
    record {
      stands : WalkStandsAt l.matches l.cursor;
      order : l.matches.picking.order ≡ order_of l.searcher.built.kind (input_of l.fn.input).earliest;
      left : from l.matches.left 0 ≡ from (search_in l.searcher.built (input_of l.fn.input)) 0;
      given : map match_of (take l.filled l.out)
          ++ walk_from (order_of l.searcher.built.kind (input_of l.fn.input).earliest)
          (search_in l.searcher.built (input_of l.fn.input)) l.cursor
          ≡ walk_from (order_of l.searcher.built.kind (input_of l.fn.input).earliest)
          (search_in l.searcher.built (input_of l.fn.input)) l.fn.cursor;
      kept : drop l.filled l.out ≡ drop l.filled l.fn.out;
      length : length l.out ≡ length l.fn.out;
      within : (input_of l.fn.input).start ≤ l.cursor.at;
    }
