use Rattle.ac_util.proofs.Prelude.{◌≡◌, ◌+◌, ◌≤◌, ◌++◌, [], ◌∷◌, Bool, ℕ, List, length, map, sym, ◌∙◌, ap, subst, arith, Some, slice_get, rules, slice_get_read, common_steps}
use Rattle.ac_automaton.specs.Prelude.{MatchKind, plain, IsOrder, IsRefused, IsWhole, MayBranch, numbers, Sorted, Source, too_many_states}
use Rattle.ac_automaton.proofs.Places.{refused-by}
use Rattle.ac_automaton.proofs.WholeTries.{IsGoingFrom, begun-order, going-on, going-ready, start-going, start-ready, sorted-plain, whole-few, whole-trie}
use Rattle.ac_automaton.proofs.nfa.noncontiguous.growth.Growth.grow.Given.{Over}
use Rattle.ac_automaton.proofs.nfa.noncontiguous.growth.Growth.grow.Goals as goal
use Rattle.ac_automaton.proofs.nfa.noncontiguous.growth.Growth.grow.Goals.{After-start-start, After-index-queued, At-loop-at}

-- with its first two states alone a trie may branch at the start
module _ (g : Over) (c : After-start-start g) where
  start-may : (texts : List (List ℕ))
      → IsOrder c.args.self.kind (map (plain c.args.self.sorted.ignores_case) texts) c.args.self.sorted.patterns
      → MayBranch (map (plain c.args.self.sorted.ignores_case) texts) c.args.self c.start-start.result
  start-may texts order =
      let sorted = c.args.self.sorted in
      let patterns = map (plain sorted.ignores_case) texts in
      let begun = c.requires.begun.2 in
      rw (begun.two, begun.no_transitions, begun.no_queue)
      (start-ready c.args.self.kind sorted.ignores_case patterns sorted.patterns c.start-start.result order
      (sorted-plain c.args.self.kind sorted.ignores_case texts sorted.patterns order)
      (c.start-start.ensures.waits patterns order)
      c.start-start.ensures.depth)

pub branch-self-requires : goal.branch-self-requires
branch-self-requires g c =
    grind (
      arith,
      common_steps,
      start-may g (goal.at.branch-self-requires g c).After-start-start (c.requires.begun).1 (begun-order (c.requires.begun).0 (c.requires.begun).1
          c.args.self (c.requires.begun).2),
      begun-order (c.requires.begun).0 (c.requires.begun).1 c.args.self (c.requires.begun).2,
    )

pub returns-in_err-start : goal.returns-in_err-start
returns-in_err-start g c = λ ignores_case texts begun.
    refused-by c.from_residual.result c.in_err-start.field-0.0 _
    (IsRefused (too_many_states c.args.self.kind (map (plain ignores_case) texts))) c.from_residual.ensures.1
    (subst (λ (f : Bool). IsRefused (too_many_states c.args.self.kind (map (plain f) texts))
    c.in_err-start.field-0.0)
    begun.sorts.fold_is
    (c.in_err-start.ensures.branched (map (plain c.args.self.sorted.ignores_case) texts)
    (start-may g (goal.at.returns-in_err-start g c).After-start-start texts
    (begun-order ignores_case texts c.args.self begun))))

pub loop-at-init : goal.loop-at-init
loop-at-init g c =
    let s = (goal.at.loop-at-init g c).After-start-start in
    let kept = c.in_ok-start.ensures.kept in
    let new = c.branch-self.new.self in
    let begun = c.requires.begun.2 in
    let same = ap (λ (from : Source). from.states) kept in
    let two : new.states.len ≡ 2 = new.states.ok.0 ∙ ap length (same ∙ begun.two) in
    let resized : c.resize.new.self.items
    ≡ (c.args.self.states.items ++ c.in_ok-start.start ∷ []) ++ c.in_ok-start.start ∷ []
    = rw begun.two (rw (two, same, begun.two) at c.in_ok-resize.ensures.items) in
    record {
      kind = ap (λ (from : Source). from.kind) kept;
      sorted = ap (λ (from : Source). from.sorted) kept;
      going = subst (λ (from : Source). IsGoingFrom from.kind from.sorted c.resize.new.self.items
          new.transitions.items new.queue.items 0) (sym kept) (λ texts order.
          let sorted = c.args.self.sorted in
          let patterns = map (plain sorted.ignores_case) texts in
          rw resized
          (start-going c.args.self.kind sorted.ignores_case patterns sorted.patterns c.args.self.states.items
          c.args.self.queue.items c.start-start.result c.in_ok-start.start new.transitions.items new.queue.items
          begun.two begun.no_queue
          order (sorted-plain c.args.self.kind sorted.ignores_case texts sorted.patterns order)
          c.start-start.ensures.depth
          (c.in_ok-start.ensures.branched patterns (start-may g s texts order))));
    }

-- the patterns stay what they are
module _ (g : Over) (c : At-loop-at g) where
  order-now : (texts : List (List ℕ))
      → IsOrder c.args.self.kind (map (plain c.args.self.sorted.ignores_case) texts) c.args.self.sorted.patterns
      → IsOrder c.loop-at.self.kind (map (plain c.loop-at.self.sorted.ignores_case) texts)
      c.loop-at.self.sorted.patterns
  order-now texts order = grind (arith, common_steps)

-- and then it may branch at each state of the queue
module _ (g : Over) (c : After-index-queued g) where
  waits : slice_get c.loop-at.self.queue.items c.loop-at.at ≡ Some c.index-queued.result.now
  waits = search (rules, slice_get_read)

  may : (texts : List (List ℕ))
      → IsOrder c.loop-at.self.kind (map (plain c.loop-at.self.sorted.ignores_case) texts)
      c.loop-at.self.sorted.patterns
      → MayBranch (map (plain c.loop-at.self.sorted.ignores_case) texts) c.loop-at.self c.index-queued.result.now
  may texts order =
      going-ready c.loop-at.self.kind c.loop-at.self.sorted.ignores_case (map (plain c.loop-at.self.sorted.ignores_case) texts)
      c.loop-at.self.sorted.patterns (c.loop-at.invariant.going texts order) waits

pub branch-self-requires-in-loop-at : goal.branch-self-requires-in-loop-at
branch-self-requires-in-loop-at g c =
    let begun = c.requires.begun in
    let s = (goal.at.branch-self-requires-in-loop-at g c).After-index-queued in
    let at = (goal.at.branch-self-requires-in-loop-at g c).At-loop-at in
    record {
      ready = (
        map (plain c.loop-at.self.sorted.ignores_case) begun.1,
        may g s begun.1 (order-now g at begun.1 (begun-order begun.0 begun.1 c.args.self begun.2)),
      );
    }

pub returns-in_err-state : goal.returns-in_err-state
returns-in_err-state g c = λ ignores_case texts begun.
    let s = (goal.at.returns-in_err-state g c).After-index-queued in
    let at = (goal.at.returns-in_err-state g c).At-loop-at in
    let same : c.loop-at.self.sorted.ignores_case ≡ ignores_case =
    ap (λ (sorted : Sorted). sorted.ignores_case) c.loop-at.invariant.sorted ∙ begun.sorts.fold_is in
    refused-by c.from_residual-in_err-state.result c.in_err-state.field-0.0 _
    (IsRefused (too_many_states c.args.self.kind (map (plain ignores_case) texts)))
    c.from_residual-in_err-state.ensures.1
    (subst (λ (k : MatchKind). IsRefused (too_many_states k (map (plain ignores_case) texts)) c.in_err-state.field-0.0)
    c.loop-at.invariant.kind
    (subst (λ (f : Bool). IsRefused (too_many_states c.loop-at.self.kind (map (plain f) texts))
    c.in_err-state.field-0.0) same
    (c.in_err-state.ensures.branched (map (plain c.loop-at.self.sorted.ignores_case) texts)
    (may g s texts (order-now g at texts (begun-order ignores_case texts c.args.self begun))))))

pub loop-at-smaller : goal.loop-at-smaller
loop-at-smaller g c =
    let begun = c.requires.begun in
    let at = (goal.at.loop-at-smaller g c).At-loop-at in
    let order = order-now g at begun.1 (begun-order begun.0 begun.1 c.args.self begun.2) in
    let few = (c.loop-at.invariant.going begun.1 order).grown.few in
    omega (arith, few, c.len.ensures, c.loop-at.self.queue.ok.0, c.loop-at-test.true)

pub loop-at-preserved : goal.loop-at-preserved
loop-at-preserved g c =
    let s = (goal.at.loop-at-preserved g c).After-index-queued in
    let kept = c.in_ok-state.ensures.kept in
    let new = c.branch-self-in-loop-at.new.self in
    let same = ap (λ (from : Source). from.states) kept in
    record {
      kind = ap (λ (from : Source). from.kind) kept ∙ c.loop-at.invariant.kind;
      sorted = ap (λ (from : Source). from.sorted) kept ∙ c.loop-at.invariant.sorted;
      going = subst (λ (from : Source). IsGoingFrom from.kind from.sorted c.push.new.self.items
          new.transitions.items new.queue.items (c.loop-at.at + 1)) (sym kept) (λ texts order.
          let sorted = c.loop-at.self.sorted in
          let patterns = map (plain sorted.ignores_case) texts in
          rw (c.in_ok-push.ensures.items, same)
          (going-on c.loop-at.self.kind sorted.ignores_case patterns sorted.patterns
          (c.loop-at.invariant.going texts order) (waits g s)
          (c.in_ok-state.ensures.branched patterns (may g s texts order))));
    }

-- where all of them are complete the trie is whole
pub returns : goal.returns
returns g c = λ ignores_case texts begun.
    let at = (goal.at.returns g c).At-loop-at in
    let h = c.loop-at.invariant.going texts (order-now g at texts (begun-order ignores_case texts c.args.self begun)) in
    let all : length c.loop-at.self.queue.items ≤ c.loop-at.at =
    (omega (arith, c.len.ensures, c.loop-at.self.queue.ok.0, c.loop-at-test.false)) in
    let same : c.loop-at.self.sorted.ignores_case ≡ ignores_case =
    ap (λ (sorted : Sorted). sorted.ignores_case) c.loop-at.invariant.sorted ∙ begun.sorts.fold_is in
    let whole : IsWhole texts c.loop-at.self.sorted.ignores_case c.loop-at.self.kind
    (numbers c.loop-at.self.sorted.patterns)
    c.loop-at.self.transitions.items c.loop-at.self.states.items =
    record { nodes = _; is_trie = whole-trie texts h all; few = whole-few texts h all } in
    rw c.in_ok-numbers.ensures
    (subst (λ (k : MatchKind). IsWhole texts ignores_case k (numbers c.loop-at.self.sorted.patterns)
    c.loop-at.self.transitions.items c.loop-at.self.states.items) c.loop-at.invariant.kind
    (subst (λ (f : Bool). IsWhole texts f c.loop-at.self.kind (numbers c.loop-at.self.sorted.patterns)
    c.loop-at.self.transitions.items c.loop-at.self.states.items) same whole))
