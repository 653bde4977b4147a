use Rattle.ac_util.proofs.Prelude.{◌≡◌, ◌+◌, Bool, List, None, Some, slice_get, true, false, length, ap, refl, sym, ◌∙◌, arith, rules}
use Rattle.ac_engines.specs.Prelude.{Node, before, MayPack, size_of}
use Rattle.ac_engines.proofs.PlanSums.{TakesSize, before-starts, has-words, named-below, plan-states, takes}
use Rattle.ac_engines.proofs.LaidUpTo.{IsNamed}
use Rattle.ac_engines.proofs.nfa.contiguous.plan.Plan.front_end.Goals.{then-is_match, else-is_match}
use Rattle.ac_engines.proofs.nfa.contiguous.plan.Plan.front_end.Goals as goal

-- nothing is summed yet
pub loop-state-init : goal.loop-state-init
loop-state-init g c = search (rules, before-starts)

-- each state has words
pub is_match-requires : goal.is_match-requires
is_match-requires g c = search (rules, has-words)

-- the state is the same
pub words-end-requires : goal.words-end-requires
words-end-requires g c = search (rules, has-words)

-- one state more is counted, if it has matches
pub loop-state-preserved : goal.loop-state-preserved
loop-state-preserved g c = elim c.if-is_match.branch [
  | then-is_match w ↦ rw w.end-is (record {
    front = λ nodes may.
        let own = own-node nodes may in
        omega (
          arith,
          c.loop-state.invariant.front nodes may,
          (more true w.if-is_match.true nodes may).front,
          w.words-end.ensures.value nodes own.node may (rw c.must-sid.ensures.value own.named),
        );
    room = omega (arith, c.loop-state.invariant.room, w.words-end.ensures.small);
  })
  | else-is_match w ↦ rw w.end-is (record {
    front = λ nodes may. omega (arith, c.loop-state.invariant.front nodes may, (more false w.if-is_match.false nodes may).front);
    room = omega (arith, c.loop-state.invariant.room);
  })
]
  where
    own-node : (nodes : List Node) → MayPack c.args.self.now nodes → IsNamed nodes c.loop-state.state
    own-node nodes may = named-below c.args.self.now nodes may _ _ c.loop-state.state c.self.view_is
        c.states_len-state-end.ensures.value c.loop-state-test.true

    more : (t : Bool) → c.is_match.result ≡ t → (nodes : List Node) (may : MayPack c.args.self.now nodes)
        → TakesSize c.args.self.now nodes c.loop-state.state t (size_of c.args.self.now nodes (own-node nodes may).node)
    more t is nodes may =
        let own = own-node nodes may in
        let named : slice_get nodes c.must-sid.result ≡ Some own.node = rw c.must-sid.ensures.value own.named in
        takes c.args.self.now nodes c.loop-state.state own.node c.loop-state.auto.state own.named t
        (size_of c.args.self.now nodes own.node) (sym is ∙ c.is_match.ensures nodes own.node may named) refl

-- all states are counted
pub returns : goal.returns
returns g c nodes may =
    let states = plan-states _ c.args.self.now nodes _ may c.self.view_is c.states_len-state-end.ensures.value in
    let all : c.loop-state.state ≡ length nodes =
    omega (arith, states, c.loop-state-test.false, c.loop-state.auto.state-end, may.are_nodes.numbered.count) in
    c.loop-state.invariant.front nodes may ∙ ap (λ n. size_of c.args.self.now nodes None + before c.args.self.now nodes true n) all
