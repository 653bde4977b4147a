use Rattle.ac_util.proofs.Prelude.{◌≡◌, ◌≤◌, slice_get}
use Rattle.ac_automaton.specs.Prelude.{chain_at}
use Rattle.ac_automaton.proofs.automaton.commits.Chains.get.Given as goal

-- the match is that of the chain that was come to
abbrev pub invariant-loop-at : goal.invariant-loop-at
invariant-loop-at g l = record {
  back : l.at ≤ l.fn.chain;
  same : slice_get (chain_at l.fn.self l.fn.chain) l.fn.index ≡ slice_get (chain_at l.fn.self l.at) l.fn.index;
}

abbrev pub decreases-loop-at : goal.decreases-loop-at
decreases-loop-at g l = l.at
