use Rattle.ac_util.proofs.Prelude.{◌≡◌, ℕ, List, length, refl, ap, sym, ◌∙◌, subst, arith, Some, slice_get, get_or, slice_get_read, slice_get_within}
use Rattle.ac_automaton.specs.Prelude.{IsChild, IsCommitAt, IsDone, MakesNext, HasString, made_of, IsNumbered, Represents, State, transitions_of, Transition}
use Rattle.ac_automaton.proofs.Chains.{has-same}
use Rattle.ac_automaton.proofs.CommitAdding.{added-next, children-made, children-none, done-kept, transition-child}
use Rattle.ac_automaton.proofs.CommitSteps.{commit-kept, state-in}
use Rattle.ac_automaton.proofs.Follows.{represented}
use Rattle.ac_automaton.proofs.TrieStates.{number-state}
use Rattle.ac_automaton.proofs.nfa.noncontiguous.commits.Making.add_children.Given.{Over}
use Rattle.ac_automaton.proofs.nfa.noncontiguous.commits.Making.add_children.Goals as goal
use Rattle.ac_automaton.proofs.nfa.noncontiguous.commits.Making.add_children.Goals.{After-index-own-index, After-index-self-as_usize, After-own_transitions-own}

pub returns-in_default-clause-adds : goal.returns-in_default-clause-adds
returns-in_default-clause-adds g c = λ next.
    let at = next.at in
    record { are = at.made; done = children-none at.lists.may next.done at.string at.named (c.in_default.ensures at) }

-- the state that was read
module _ (g : Over) (c : After-index-self-as_usize g) where
  abbrev read : State
  read = get_or c.args.self.now.states.now c.as_usize.result c.index-self-as_usize.result

  represents : (at : HasString c.args.self.now c.args.sid) → Represents at.view c.args.sid (Some at.string) read
  represents at =
      subst (Represents at.view c.args.sid (Some at.string)) c.index-self-as_usize.is
      (represented at.view c.args.self.now.states.now c.args.sid (Some at.string) c.index-self-as_usize.result
      (number-state at.lists.may.all c.args.sid (Some at.string) at.named) (rw c.as_usize.ensures.value at c.index-self-as_usize.is))

pub own_transitions-own-requires-clause-ordered : goal.own_transitions-own-requires-clause-ordered
own_transitions-own-requires-clause-ordered g c =
    (represents g (goal.at.own_transitions-own-requires-clause-ordered g c).After-index-self-as_usize c.requires.next.at).ordered

pub own_transitions-own-requires-clause-listed : goal.own_transitions-own-requires-clause-listed
own_transitions-own-requires-clause-listed g c =
    rw (sym c.requires.next.at.lists.leads)
    (represents g (goal.at.own_transitions-own-requires-clause-listed g c).After-index-self-as_usize c.requires.next.at).listed

pub loop-index-init : goal.loop-index-init
loop-index-init g c = record {
  same = refl;
  first = λ next. record {
    made = next.at.made;
    chains = has-same c.args.self.now.chains;
    kept = λ t none. none;
    done = λ k next less. absurd (omega arith);
  };
}

-- its transitions
module _ (g : Over) (c : After-own_transitions-own g) where
  abbrev state : State
  state = read g (goal.at.After-own_transitions-own g c).After-index-self-as_usize

  own-is : (at : HasString c.args.self.now c.args.sid)
      → c.own_transitions-own.result.now ≡ transitions_of at.view.transitions state
  own-is at = c.own_transitions-own.ensures ∙ ap (λ (ts : List Transition). transitions_of ts state) (sym at.lists.leads)

-- the child by the next of them
module _ (g : Over) (c : After-index-own-index g) where
  there : slice_get c.own_transitions-own.result.now c.loop-index.index ≡ Some c.index-own-index.result
  there =
      slice_get_read c.own_transitions-own.result.now (length c.own_transitions-own.result.now) c.loop-index.index
      c.index-own-index.result refl c.loop-index-test.true c.index-own-index.is

  module _ (ready : MakesNext c.args.self.now c.args.sid) where
    abbrev at : HasString c.args.self.now c.args.sid
    at = ready.at

    held : IsCommitAt at.view (made_of c.args.self.now) c.args.sid at.string c.in-Some.parent
    held = c.in-Some.ensures at

    abbrev child : IsChild c.loop-index.self c.in-Some.parent c.index-own-index.result
    child =
        let first = c.loop-index.invariant.first ready in
        let own = (goal.at.After-index-own-index g c).After-own_transitions-own in
        let state = (goal.at.After-index-own-index g c).After-index-self-as_usize in
        record {
          at = state-in at c.loop-index.invariant.same first.made at.string
              (subst (λ (s : ℕ). IsNumbered at.view.nodes s at.string) (sym held.state) at.named);
          done = subst (IsDone at.view (made_of c.loop-index.self).index) (sym held.state) (done-kept first.kept ready.done);
          commit = commit-kept first.chains held.has;
          longer_named = transition-child at.lists.may c.args.sid at.string (read g state) (represents g state at)
              c.loop-index.index c.index-own-index.result
              (subst (λ (ts : List Transition). slice_get ts c.loop-index.index ≡ Some c.index-own-index.result) (own-is g own at) there);
        }

pub add-requires : goal.add-requires
add-requires g c = record { child = child g (goal.at.add-requires g c).After-index-own-index c.requires.next }

pub loop-index-preserved : goal.loop-index-preserved
loop-index-preserved g c =
    let next = (goal.at.loop-index-preserved g c).After-index-own-index in
    record {
      same = c.in_ok-add.ensures.same ∙ c.loop-index.invariant.same;
      first = λ ready.
          added-next (c.loop-index.invariant.first ready) (c.in_ok-add.ensures.adds (child g next ready)) (there g next);
    }

pub returns-clause-adds : goal.returns-clause-adds
returns-clause-adds g c = λ next.
    let at = next.at in
    let first = c.loop-index.invariant.first next in
    let own = own-is g (goal.at.returns-clause-adds g c).After-own_transitions-own at in
    let state = (goal.at.returns-clause-adds g c).After-index-self-as_usize in
    record {
      are = first.made;
      done = children-made at.lists.may (done-kept first.kept next.done) at.string at.named (read g state) (represents g state at)
          (λ k next is.
          let there = rw (sym own) at is in
          first.done k next (let within = slice_get_within _ k next there in let past = c.loop-index-test.false in omega arith) there);
    }
