use Rattle.ac_util.proofs.Prelude.{◌≡◌, ℕ, ◌+◌, List, length, CopiedTo, SameBelow, SameFrom}
use Rattle.ac_engines.proofs.dfa.fill.copy_row.Given as goal

-- the classes so far were copied
pub record AreCopied (from to classes : ℕ) (old new : List ℕ) : Type 0 where
  pub same_length : length new ≡ length old
  pub copied : CopiedTo old new from to classes
  pub below : SameBelow old new to
  pub above : SameFrom old new (to + classes)

abbrev pub invariant-loop-class : goal.invariant-loop-class
invariant-loop-class l = AreCopied l.fn.from l.fn.to l.class l.fn.table l.table
