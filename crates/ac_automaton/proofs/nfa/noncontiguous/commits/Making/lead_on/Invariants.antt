use Rattle.ac_util.proofs.Prelude.{◌≡◌}
use Rattle.ac_automaton.specs.Prelude.{LeadsToChild}
use Rattle.ac_automaton.proofs.CommitSteps.{OnWay}
use Rattle.ac_automaton.proofs.nfa.noncontiguous.commits.Making.lead_on.Given as goal

-- chains were added alone, and the walk is on the way to the child
abbrev pub invariant-loop-trie : goal.invariant-loop-trie
invariant-loop-trie g l = record {
  same : l.self ≡ record l.fn.self { chains = l.self.chains };
  way : (leads : LeadsToChild l.fn.self l.parent l.next) → OnWay leads l.self.chains l.at l.chain;
}

abbrev pub decreases-loop-trie : goal.decreases-loop-trie
decreases-loop-trie g l = l.at
