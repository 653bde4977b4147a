use Rattle.ac_util.proofs.Prelude.{◌≤◌, map, take}
use Rattle.ac_automaton.specs.Prelude.{chain_at, GrowsBy, shifted}
use Rattle.ac_automaton.proofs.automaton.commits.Chains.append.Given as goal

-- the first matches of the other chain have come
abbrev pub invariant-loop-index : goal.invariant-loop-index
invariant-loop-index g l = record {
  within : l.index ≤ l.index-end;
  grows : GrowsBy l.fn.self l.fn.before (map (shifted l.offset) (take l.index (chain_at l.fn.self l.fn.other))) l.self l.chain;
}
