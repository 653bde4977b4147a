use Rattle.ac_util.proofs.Prelude.{◌≡◌}
use Rattle.ac_automaton.specs.Prelude.{IsMade, IsViewOf, lists_of, made_of, TrieView}
use Rattle.ac_automaton.proofs.nfa.noncontiguous.commits.Making.add_all.Given as goal

-- the states below the number have given commits to their children
abbrev pub invariant-loop-number : goal.invariant-loop-number
invariant-loop-number g l = record {
  same : lists_of l.self ≡ lists_of l.fn.self;
  made : (view : TrieView) → IsViewOf (lists_of l.fn.self) view → IsMade view (made_of l.self) l.number;
}
