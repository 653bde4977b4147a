use Rattle.ac_util.proofs.Prelude.{◌≡◌}
use Rattle.ac_automaton.specs.Prelude.{MakesNext, lists_of, made_of}
use Rattle.ac_automaton.proofs.CommitAdding.{HasAddedFirst}
use Rattle.ac_automaton.proofs.nfa.noncontiguous.commits.Making.add_children.Given as goal

-- the children by the first transitions have their commits, where they need some
abbrev pub invariant-loop-index : goal.invariant-loop-index
invariant-loop-index g l = record {
  same : lists_of l.self ≡ lists_of l.fn.self;
  first : (next : MakesNext l.fn.self l.fn.sid) → HasAddedFirst next.at.view (made_of l.fn.self) (made_of l.self) l.own l.index;
}
