use Rattle.ac_util.proofs.Prelude.{◌≡◌, ap, length, Some, slice_get, true, false, arith, rules}
use Rattle.ac_engines.specs.Prelude.{before}
use Rattle.ac_engines.proofs.PlanSums.{before-both, before-starts, has-words, named-below, plan-states, sizes-whole}
use Rattle.ac_engines.proofs.nfa.contiguous.plan.Plan.all_words.Goals as goal

-- nothing is summed yet
pub loop-state-init : goal.loop-state-init
loop-state-init g c = search (rules, before-starts)

-- each state has words
pub words-all-requires : goal.words-all-requires
words-all-requires g c = search (rules, has-words)

-- one state more is counted
pub loop-state-preserved : goal.loop-state-preserved
loop-state-preserved g c = record {
  all = λ nodes may.
      let q = c.args.self.now in
      let own = named-below q nodes may _ _ c.loop-state.state c.self.view_is c.states_len-state-end.ensures.value
      c.loop-state-test.true in
      let named : slice_get nodes c.must.result ≡ Some own.node = rw c.must.ensures.value own.named in
      omega (
        arith,
        c.loop-state.invariant.all nodes may,
        before-both q nodes c.loop-state.state own.node c.loop-state.auto.state own.named,
        c.words-all.ensures.value nodes own.node may named,
      );
  room = omega (arith, c.loop-state.invariant.room, c.words-all.ensures.small);
}

-- all states are counted
pub returns : goal.returns
returns g c =
    let (nodes, may) = c.requires.may in
    let q = c.args.self.now in
    let states = plan-states _ q nodes _ may c.self.view_is c.states_len-state-end.ensures.value in
    let all : c.loop-state.state ≡ length nodes =
    omega (arith, states, c.loop-state-test.false, c.loop-state.auto.state-end, may.are_nodes.numbered.count) in
    let front = ap (λ n. before q nodes true n) all in
    let back = ap (λ n. before q nodes false n) all in
    omega (arith, c.loop-state.invariant.all nodes may, front, back, sizes-whole q nodes may)
