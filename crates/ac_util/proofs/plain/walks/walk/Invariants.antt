use Rattle.ac_util.proofs.Prelude.{◌≡◌, ◌++◌}
use Rattle.ac_util.specs.Prelude.{walk}
use Rattle.ac_util.proofs.PlainWalk.{walk_from, room_after, EndsWithin}
use Rattle.ac_util.proofs.plain.walks.walk.Given as goal

-- the matches so far, and the walk from the next one on, are the whole walk
abbrev pub invariant-loop-next : goal.invariant-loop-next
invariant-loop-next l = record {
  parts : l.matches.items ++ walk_from l.kind l.query l.next ≡ walk l.kind l.query;
  within : EndsWithin l.query l.next;
}

abbrev pub decreases-loop-next : goal.decreases-loop-next
decreases-loop-next l = room_after l.query l.next
