use Rattle.ac_util.proofs.Prelude.{ℕ, ◌+◌, sym, ap, ◌∙◌, subst, arith, None, Some, slice_get-get_or}
use Rattle.ac_automaton.specs.Prelude.{Node, IsMade, MakesNext, IsViewOf, lists_of, ListsView, made_of, TrieView}
use Rattle.ac_automaton.proofs.CommitSteps.{number-alive}
use Rattle.ac_automaton.proofs.nfa.noncontiguous.commits.Making.add_all.Given.{Over}
use Rattle.ac_automaton.proofs.nfa.noncontiguous.commits.Making.add_all.Goals as goal
use Rattle.ac_automaton.proofs.nfa.noncontiguous.commits.Making.add_all.Goals.{After-must}

-- the state whose children are next
abbrev next : (g : Over) (c : After-must g) (view : TrieView) → IsViewOf (lists_of c.args.self.now) view
    → MakesNext c.loop-number.self c.must.result
next g c view is =
    let named = slice_get-get_or view.nodes c.must.result None
    (let within = c.loop-number-test.true in let long = is.may.all.whole in let value = c.must.ensures.value in omega arith) in
    let alive = number-alive is.may c.must.result _ (let value = c.must.ensures.value in omega arith) named in
    let made = c.loop-number.invariant.made view is in
    record {
      at = record {
        view = view;
        lists = subst (λ (lists : ListsView). IsViewOf lists view) (sym c.loop-number.invariant.same) is;
        made = made.are;
        string = alive.0;
        named = named ∙ ap (λ (n : Node). Some n) alive.1;
      };
      done = rw c.must.ensures.value made.done;
    }

pub add_children-requires : goal.add_children-requires
add_children-requires g c =
    let v = c.requires.view in record { next = next g (goal.at.add_children-requires g c).After-must v.0 v.1 }

pub loop-number-preserved : goal.loop-number-preserved
loop-number-preserved g c = record {
  same = c.in_ok-add_children.ensures.same ∙ c.loop-number.invariant.same;
  made = λ view is.
      subst (λ (n : ℕ). IsMade view (made_of c.add_children.new.self) (n + 1)) c.must.ensures.value
      (c.in_ok-add_children.ensures.adds (next g (goal.at.loop-number-preserved g c).After-must view is));
}
