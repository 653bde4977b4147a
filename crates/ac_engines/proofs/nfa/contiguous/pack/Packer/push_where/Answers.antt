use Rattle.ac_util.proofs.Prelude.{◌≡◌, ◌++◌, ap, sym, subst, ◌∙◌, arith, length, Some, slice_get, false≢true}
use Rattle.ac_engines.specs.Prelude.{has_matches, HasPushedUpTo, HasWords, MayPack, Packer, PackPlan, state_words}
use Rattle.std.specs.Cmp.{booleans_Decides}
use Rattle.ac_engines.proofs.PlanSums.{has-words, named-below, plan-states}
use Rattle.ac_engines.proofs.Pushing.{passed-over, pushed-next, pushed-none}
use Rattle.ac_engines.proofs.nfa.contiguous.pack.Packer.push_where.Goals.{then-is_match-front+in_ok-push, else-is_match-front}
use Rattle.ac_engines.proofs.nfa.contiguous.pack.Packer.push_where.Goals as goal

-- nothing is pushed at first
pub loop-state-init : goal.loop-state-init
loop-state-init g c = λ nodes ready. pushed-none c.args.self.now nodes c.args.front c.args.buffers.now.words.items

-- each state has words
pub is_match-requires : goal.is_match-requires
is_match-requires g c =
    let (nodes, ready) = c.requires.ready in
    let plan = ap (λ (f : Packer). f.plan) c.self.view_is in
    record {
      state = subst (λ (q : PackPlan). HasWords q c.must-sid.result) (sym plan)
          (has-words c.args.self.now.plan nodes ready.may _ _ c.loop-state.state c.must-sid.result (c.plan.view_is ∙ plan)
          c.states_len-state-end.ensures.value c.loop-state.auto.state c.loop-state-test.true c.must-sid.ensures.value);
    }

-- and a place
pub push-requires : goal.push-requires
push-requires g c =
    let (nodes, ready) = c.requires.ready in
    let own = named-below c.args.self.now.plan nodes ready.may _ _ c.loop-state.state
    (c.plan.view_is ∙ ap (λ (f : Packer). f.plan) c.self.view_is) c.states_len-state-end.ensures.value
    c.loop-state-test.true in
    record {
      state = record {
        words = record {
          nodes = nodes;
          may = ready.may;
          node = own.node;
          named = rw c.must-sid.ensures.value own.named;
          reached = omega (arith, c.loop-state.auto.state, c.must-sid.ensures.value);
        };
        ready = ready;
      };
    }

-- one more is pushed, or passed over
pub loop-state-preserved : goal.loop-state-preserved
loop-state-preserved g c = λ nodes ready.
    let f = c.args.self.now in
    let old = c.args.buffers.now.words.items in
    let plan = ap (λ (f : Packer). f.plan) c.self.view_is in
    let own = named-below f.plan nodes ready.may _ _ c.loop-state.state (c.plan.view_is ∙ plan)
    c.states_len-state-end.ensures.value c.loop-state-test.true in
    let named : slice_get nodes c.must-sid.result ≡ Some own.node = rw c.must-sid.ensures.value own.named in
    let matched = c.is_match.ensures nodes own.node (subst (λ (q : PackPlan). MayPack q nodes) (sym plan) ready.may) named
    ∙ ap (λ (q : PackPlan). has_matches q nodes own.node) plan in
    elim c.if-is_match-front.branch [
      | then-is_match-front+in_ok-push w ↦
          rw w.buffers-is (pushed-next f nodes ready c.args.front c.loop-state.state own.node c.loop-state.auto.state
          own.named old c.loop-state.buffers.words.items (c.loop-state.invariant nodes ready) _
          (sym matched ∙ (booleans_Decides c.is_match.result c.args.front).0 w.if-is_match-front.true)
          (subst (λ n. w.push.new.buffers.words.items ≡ c.loop-state.buffers.words.items ++ state_words f nodes n own.node)
          c.must-sid.ensures.value (w.in_ok-push.ensures nodes own.node ready named)))
      | else-is_match-front w ↦
          rw w.buffers-is (passed-over f nodes ready c.args.front c.loop-state.state own.node c.loop-state.auto.state
          own.named old c.loop-state.buffers.words.items (c.loop-state.invariant nodes ready)
          (λ input. false≢true (sym w.if-is_match-front.false
          ∙ (booleans_Decides c.is_match.result c.args.front).1 (matched ∙ input))))
    ]

-- all are pushed
pub returns : goal.returns
returns g c = λ nodes ready.
    let f = c.args.self.now in
    let states = plan-states _ f.plan nodes _ ready.may (c.plan.view_is ∙ ap (λ (f : Packer). f.plan) c.self.view_is)
    c.states_len-state-end.ensures.value in
    let all : c.loop-state.state ≡ length nodes =
    omega (arith, states, c.loop-state-test.false, c.loop-state.auto.state-end, ready.may.are_nodes.numbered.count) in
    subst (λ n. HasPushedUpTo f nodes c.args.front n c.args.buffers.now.words.items c.loop-state.buffers.words.items) all
    (c.loop-state.invariant nodes ready)
