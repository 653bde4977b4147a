use Rattle.ac_util.proofs.Prelude.{◌≡◌, ◌+◌, ◌≤◌, ℕ, Bool, List, Some, slice_get, true, false, inl, inr, length, ap, refl, sym, ◌∙◌, arith, rules}
use Rattle.ac_engines.specs.Prelude.{Node, BuildError, MayPack, all_words, size_of}
use Rattle.ac_engines.proofs.PlanSums.{TakesSize, all-placed, back-within, before-starts, front-within, has-words, named-below, placed-more, places-first, plan-states, takes}
use Rattle.ac_engines.proofs.nfa.contiguous.plan.Plan.numbers.Goals.{then-is_match+in_ok-push_number, else-is_match+in_ok-push_number-2}
use Rattle.ac_util.specs.declared.error.BuildError.TheVariants.{Memory}
use Rattle.std.specs.Prelude.{◌⊎◌, ◌<◌}
use Rattle.ac_automaton.specs.Util.{GREATEST}
use Rattle.ac_engines.proofs.nfa.contiguous.plan.Plan.numbers.Goals as goal

-- the first two states have their places
pub loop-state-init : goal.loop-state-init
loop-state-init g c = λ nodes may. record {
  count = ap length c.in_ok-list.ensures;
  each = λ s below. rw c.in_ok-list.ensures (places-first c.args.self.now nodes s below);
  front_is = omega (arith, c.dead_words-front.ensures.value, before-starts c.args.self.now nodes true);
  back_is = omega (arith, c.requires.front nodes may, before-starts c.args.self.now nodes false);
}

-- each state has words
pub words-words-requires : goal.words-words-requires
words-words-requires g c =
    let (nodes, may) = c.requires.may in
    record {
      state = has-words c.args.self.now nodes may _ _ c.loop-state.state c.must-sid.result c.self.view_is
          c.states_len-state-end.ensures.value c.loop-state.auto.state c.loop-state-test.true c.must-sid.ensures.value;
    }

-- the state is the same
pub is_match-requires : goal.is_match-requires
is_match-requires g c =
    let (nodes, may) = c.requires.may in
    record {
      state = has-words c.args.self.now nodes may _ _ c.loop-state.state c.must-sid.result c.self.view_is
          c.states_len-state-end.ensures.value c.loop-state.auto.state c.loop-state-test.true c.must-sid.ensures.value;
    }

-- a number that is too great lies within the words of the plan
refused-more : (n m k : ℕ) (e : BuildError) → n ≡ k → k ≤ m
    → (e ≡ Memory) ⊎ (GREATEST < n) → (e ≡ Memory) ⊎ (GREATEST < m)
refused-more n m k e is within (inl memory) = inl memory
refused-more n m k e is within (inr great) = inr (omega arith)

pub returns-in_err-push_number-clause-refused : goal.returns-in_err-push_number-clause-refused
returns-in_err-push_number-clause-refused g c =
    let (nodes, may) = c.requires.may in
    search (
      rules,
      refused-more c.loop-state.front (all_words c.args.self.now) _ c.in_err-push_number.field-0.0
          (c.loop-state.invariant nodes may).front_is
          (front-within c.args.self.now nodes may _ _ _ c.self.view_is c.states_len-state-end.ensures.value c.loop-state-test.true)
          c.in_err-push_number.ensures.refused,
    )

pub returns-in_err-push_number-2-clause-refused : goal.returns-in_err-push_number-2-clause-refused
returns-in_err-push_number-2-clause-refused g c =
    let (nodes, may) = c.requires.may in
    search (
      rules,
      refused-more c.loop-state.back (all_words c.args.self.now) _ c.in_err-push_number-2.field-0.0
          (c.loop-state.invariant nodes may).back_is
          (back-within c.args.self.now nodes may _ _ _ c.self.view_is c.states_len-state-end.ensures.value c.loop-state-test.true)
          c.in_err-push_number-2.ensures.refused,
    )

-- one state more has its place, in front or among the others
pub loop-state-preserved : goal.loop-state-preserved
loop-state-preserved g c = λ nodes may.
    let q = c.args.self.now in
    let l = c.loop-state in
    let are = l.invariant nodes may in
    elim c.if-is_match.branch [
      | then-is_match+in_ok-push_number w ↦
          let step = takes-size nodes may true w.if-is_match.true c.words-words.result c.words-words.ensures.value in
          rw (w.list-is, w.in_ok-push_number.ensures.items, w.front-is, w.back-is) (placed-more
          q nodes l.state l.list.items l.front l.back are true _ step (l.front + c.words-words.result) l.back refl
          (omega arith))
      | else-is_match+in_ok-push_number-2 w ↦
          let step = takes-size nodes may false w.if-is_match.false c.words-words.result c.words-words.ensures.value in
          rw (w.list-is, w.in_ok-push_number-2.ensures.items, w.front-is, w.back-is)
          (placed-more q nodes l.state l.list.items l.front l.back are false _ step l.front
          (l.back + c.words-words.result) (omega arith) refl)
    ]
  where
    takes-size : (nodes : List Node) → MayPack c.args.self.now nodes → (t : Bool) → c.is_match.result ≡ t → (words : ℕ)
        → ((nodes : List Node) (u : Node) → MayPack c.args.self.now nodes → slice_get nodes c.must-sid.result ≡ Some u
        → words ≡ size_of c.args.self.now nodes u)
        → TakesSize c.args.self.now nodes c.loop-state.state t words
    takes-size nodes may t is words sized =
        let q = c.args.self.now in
        let own = named-below q nodes may _ _ c.loop-state.state c.self.view_is c.states_len-state-end.ensures.value
        c.loop-state-test.true in
        let named : slice_get nodes c.must-sid.result ≡ Some own.node = rw c.must-sid.ensures.value own.named in
        takes q nodes c.loop-state.state own.node c.loop-state.auto.state own.named t words
        (sym is ∙ c.is_match.ensures nodes own.node may named) (sized nodes own.node may named)

-- all states have their places
pub returns-clause-places : goal.returns-clause-places
returns-clause-places g c nodes may =
    let states = plan-states _ c.args.self.now nodes _ may c.self.view_is c.states_len-state-end.ensures.value in
    let all : c.loop-state.state ≡ length nodes =
    omega (arith, states, c.loop-state-test.false, c.loop-state.auto.state-end, may.are_nodes.numbered.count) in
    let are = c.loop-state.invariant nodes may in
    record { count = are.count ∙ all; each = λ s below. are.each s (omega (arith, all, below)) }

-- and the next one would follow all of them
pub returns-clause-all : goal.returns-clause-all
returns-clause-all g c =
    let (nodes, may) = c.requires.may in
    let q = c.args.self.now in
    let states = plan-states _ q nodes _ may c.self.view_is c.states_len-state-end.ensures.value in
    let all : c.loop-state.state ≡ length nodes =
    omega (arith, states, c.loop-state-test.false, c.loop-state.auto.state-end, may.are_nodes.numbered.count) in
    all-placed q nodes may c.loop-state.state c.loop-state.back all (c.loop-state.invariant nodes may).back_is
