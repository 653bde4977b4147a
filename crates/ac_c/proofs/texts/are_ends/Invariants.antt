use Rattle.ac_util.proofs.Prelude.{◌≡◌, drop}
use Rattle.ac_c.specs.Texts.{are_ends}
use Rattle.ac_c.proofs.texts.are_ends.Given as goal

-- whether all are ends is whether the ends that are left are, from the last one on
abbrev pub invariant-loop-end : goal.invariant-loop-end
invariant-loop-end l = are_ends l.len l.start (drop l.end-index l.ends) ≡ are_ends l.len 0 l.ends
