use Rattle.ac_util.proofs.Prelude.{◌≡◌, ◌⊎◌, ℕ, ◌+◌, ◌<◌, ◌≤◌, List, length, slice_index_or}
use Rattle.ac_engines.proofs.dfa.fill.lead_all.Given as goal

-- the classes so far lead there
pub record AreLed (from to classes : ℕ) (old new : List ℕ) : Type 0 where
  pub same_length : length new ≡ length old
  pub filled : (k : ℕ) → from ≤ k → k < from + classes → slice_index_or new k 0 ≡ to
  pub beside : (k : ℕ) → (k < from) ⊎ (from + classes ≤ k) → slice_index_or new k 0 ≡ slice_index_or old k 0

abbrev pub invariant-loop-class : goal.invariant-loop-class
invariant-loop-class l = AreLed l.fn.from l.fn.to l.class l.fn.table l.table
