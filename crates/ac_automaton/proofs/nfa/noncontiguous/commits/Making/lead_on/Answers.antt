use Rattle.ac_util.proofs.Prelude.{◌≡◌, ◌-◌, ◌≤◌, List, map, All, refl, ap, sym, subst, arith, None, Some, slice_get}
use Rattle.ac_automaton.specs.Prelude.{ChainMatch, Making, GrowsBy, IsChainMatch, shifted, AreMade, HasCommit, HasString, LeadsToChild, lists_of, made_of, NeedsOne}
use Rattle.ac_automaton.proofs.Chains.{chain-same, chains-longer, grows-more}
use Rattle.ac_automaton.proofs.CommitSteps.{child-few, held-before, held-short, made-kept, may-commit, OnWay, state-in, way-ends, way-none, way-on, way-picks, way-starts, way-state, way-step}
use Rattle.ac_automaton.proofs.TrieStates.{dead-number}
use Rattle.ac_automaton.proofs.nfa.noncontiguous.commits.Making.lead_on.Given.{Over}
use Rattle.ac_automaton.proofs.nfa.noncontiguous.commits.Making.lead_on.Goals as goal
use Rattle.ac_automaton.proofs.nfa.noncontiguous.commits.Making.lead_on.Goals.{After-follow-to, At-loop-trie, Else-as_usize-ge-START, In-Some}

pub loop-trie-init : goal.loop-trie-init
loop-trie-init g c = record { same = refl; way = λ leads. way-starts leads }

-- the walk that has come to a state
module _ (g : Over) (c : At-loop-trie g) (leads : LeadsToChild c.args.self.now c.args.parent c.args.next) where
  way : OnWay leads c.loop-trie.self.chains c.loop-trie.at c.loop-trie.chain
  way = c.loop-trie.invariant.way leads

  -- the state with its string
  abbrev state : HasString c.loop-trie.self c.loop-trie.at
  state = state-in leads.child.at (ap lists_of c.loop-trie.invariant.same)
      (subst (λ (making : Making _). AreMade leads.child.at.view (made_of making)) (sym c.loop-trie.invariant.same)
      (made-kept way.kept leads.child.at.made)) way.node way.named

-- the byte leads from there to the state that was found
leads-to : (g : Over) (c : After-follow-to g) (leads : LeadsToChild c.args.self.now c.args.parent c.args.next)
    → slice_get leads.child.at.view.nodes c.follow-to.result
    ≡ Some (way-step leads (way g (goal.at.After-follow-to g c).At-loop-trie leads))
leads-to g c leads =
    let w = way g (goal.at.After-follow-to g c).At-loop-trie leads in
    c.follow-to.ensures.steps leads.child.at.view (Some w.node) leads.child.at.lists.leads (way-state leads w)

-- or it is the dead state
dead : (g : Over) (c : Else-as_usize-ge-START g) (leads : LeadsToChild c.args.self.now c.args.parent c.args.next)
    → way-step leads (way g (goal.at.Else-as_usize-ge-START g c).At-loop-trie leads) ≡ None
dead g c leads =
    (dead-number (may-commit leads).all c.follow-to.result _
    (leads-to g (goal.at.Else-as_usize-ge-START g c).After-follow-to leads)).0
    (let d = c.if-as_usize-ge-START.false in let is = c.as_usize.ensures.value in omega arith)

-- the commit that is held of the state
module _ (g : Over) (c : In-Some g) (leads : LeadsToChild c.args.self.now c.args.parent c.args.next) where
  abbrev at : At-loop-trie g
  at = (goal.at.In-Some g c).At-loop-trie

  has : HasCommit leads.child.at.view c.loop-trie.self.chains (way g at leads).node c.in-Some.held
  has = (c.in-Some.ensures (state g at leads)).has

  -- it lies within what is left
  short : c.in-Some.held.rest ≤ c.args.parent.rest
  short = held-short leads (way g at leads) (dead g (goal.at.In-Some g c).Else-as_usize-ge-START leads) c.in-Some.held has

pub follow-to-requires-clause-state : goal.follow-to-requires-clause-state
follow-to-requires-clause-state g c =
    let leads = c.requires.leads in
    let w = way g (goal.at.follow-to-requires-clause-state g c).At-loop-trie leads in
    (leads.child.at.view, Some w.node, leads.child.at.lists.leads, way-state leads w)

pub overflow_add-result : goal.overflow_add-result
overflow_add-result g c =
    let few = child-few c.requires.leads in let rest = c.requires.leads.child.commit.rest in omega arith

pub returns-then-as_usize-ge-START-clause-leads : goal.returns-then-as_usize-ge-START-clause-leads
returns-then-as_usize-ge-START-clause-leads g c = λ leads.
    let at = goal.at.returns-then-as_usize-ge-START-clause-leads g c in
    let w = way g at.At-loop-trie leads in
    record {
      chains = w.kept;
      state = refl;
      has = way-ends leads w c.follow-to.result
          (let alive = c.if-as_usize-ge-START.true in let is = c.as_usize.ensures.value in omega arith)
          (leads-to g at.After-follow-to leads);
    }

pub held-requires : goal.held-requires
held-requires g c = record { at = state g (goal.at.held-requires g c).At-loop-trie c.requires.leads }

pub unreachable-requires : goal.unreachable-requires
unreachable-requires g c =
    let leads = c.requires.leads in
    let at = goal.at.unreachable-requires g c in
    let w = way g at.At-loop-trie leads in
    way-picks leads w (dead g at.Else-as_usize-ge-START leads)
    (way-none leads w (subst (λ (making : Making _). NeedsOne leads.child.at.view (made_of making).index c.loop-trie.at w.node)
    c.loop-trie.invariant.same (c.in_default.ensures (state g at.At-loop-trie leads))))

pub overflow_sub-end : goal.overflow_sub-end
overflow_sub-end g c = short g (goal.at.overflow_sub-end g c).In-Some c.requires.leads

pub push-requires : goal.push-requires
push-requires g c = record { chained = (way g (goal.at.push-requires g c).At-loop-trie c.requires.leads).chained }

pub append-requires-clause-other : goal.append-requires-clause-other
append-requires-clause-other g c =
    let chained = (has g (goal.at.append-requires-clause-other g c).In-Some c.requires.leads).chained in
    let long = chains-longer c.in_ok-chain.ensures.kept in omega arith

pub append-requires-clause-small : goal.append-requires-clause-small
append-requires-clause-small g c = λ k d within.
    let leads = c.requires.leads in
    let at = goal.at.append-requires-clause-small g c in
    let h = has g at.In-Some leads in
    let same = chain-same c.in_ok-chain.ensures.kept c.in-Some.held.chain h.chained in
    let inside = (subst (All (IsChainMatch leads.child.at.view.patterns c.in-Some.held.rest)) (sym same) h.matches k d within).within in
    let less = short g at.In-Some leads in let few = child-few leads in let rest = leads.child.commit.rest in omega arith

pub loop-trie-smaller : goal.loop-trie-smaller
loop-trie-smaller g c =
    let leads = c.requires.leads in
    let at = goal.at.loop-trie-smaller g c in
    held-before leads (way g at.At-loop-trie leads) (dead g at.Else-as_usize-ge-START leads) c.in-Some.held (has g at.In-Some leads)

pub loop-trie-preserved : goal.loop-trie-preserved
loop-trie-preserved g c =
    let at = goal.at.loop-trie-preserved g c in
    record {
      same = ap (λ (making : Making _). record making { chains = c.append.new.self }) c.loop-trie.invariant.same;
      way = λ leads.
          let h = has g at.In-Some leads in
          way-on leads (way g at.At-loop-trie leads) (dead g at.Else-as_usize-ge-START leads) c.in-Some.held h
          c.append.new.self c.in_ok-chain-2.chain
          (grows-more c.in_ok-chain.ensures
          (subst (λ (chain : List ChainMatch). GrowsBy c.push.new.self c.in_ok-chain.chain
          (map (shifted (c.args.parent.rest - c.in-Some.held.rest)) chain) c.append.new.self c.in_ok-chain-2.chain)
          (chain-same c.in_ok-chain.ensures.kept c.in-Some.held.chain h.chained) c.in_ok-chain-2.ensures));
    }
