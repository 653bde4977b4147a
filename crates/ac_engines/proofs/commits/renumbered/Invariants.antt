use Rattle.ac_util.proofs.Prelude.{◌≡◌, filter_map, take}
use Rattle.ac_engines.specs.Prelude.{renumbered_one}
use Rattle.ac_engines.proofs.commits.renumbered.Given as goal

-- the commits so far have their numbers
abbrev pub invariant-loop-index : goal.invariant-loop-index
invariant-loop-index g l =
    l.list.items ≡ filter_map (renumbered_one l.fn.numbers) (take l.index l.fn.commits.commits)
