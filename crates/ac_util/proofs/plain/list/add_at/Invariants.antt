use Rattle.ac_util.proofs.Prelude.{◌≡◌, ◌++◌}
use Rattle.ac_util.proofs.PlainListing.{occurring, first_numbers}
use Rattle.ac_util.proofs.plain.list.add_at.Given as goal

-- what occurs of the numbers before this one was added
abbrev pub invariant-loop-number : goal.invariant-loop-number
invariant-loop-number l =
    l.found.items ≡ l.initial.found.items ++ occurring l.query (first_numbers l.start l.end l.number)
