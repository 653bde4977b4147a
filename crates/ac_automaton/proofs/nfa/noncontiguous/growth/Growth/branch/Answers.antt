use Rattle.ac_util.proofs.Prelude.{◌≡◌, ℕ, List, [], ◌∷◌, ◌++◌, length, length-append, refl, ap, sym, ◌∙◌, subst, arith, Some, slice_get, rules}
use Rattle.ac_automaton.specs.Prelude.{EndsPatterns, grown_view, HasBranched, HasChild, HasSorted, IsRefused, fallback, nodes_of, Source, source_of, too_many_states, word, IsQueueReady}
use Rattle.ac_automaton.proofs.Branched.{has-branched, link-due, still-meant, whole_state}
use Rattle.ac_automaton.proofs.Branching.{IsBranching, IsBranchingFrom, IsRun, Site, branching-begins, child-deep, goes-on, has-child, string}
use Rattle.ac_automaton.proofs.ChildTransitions.{branching-goes_on}
use Rattle.ac_automaton.proofs.Places.{refused-by, written-whole}
use Rattle.ac_automaton.proofs.StateCount.{refused}
use Rattle.ac_automaton.proofs.nfa.noncontiguous.growth.Growth.branch.Given.{Over}
use Rattle.ac_automaton.proofs.nfa.noncontiguous.growth.Growth.branch.Goals as goal
use Rattle.ac_automaton.proofs.nfa.noncontiguous.growth.Growth.branch.Goals.{After-child_fail-fail, At-loop-place, In-Some}

-- the state whose children come, where the trie may branch at it
module _ (g : Over) (c : At-loop-place g) where
  abbrev Ready : List (List ℕ) → Source → Type 0
  Ready patterns from =
      IsQueueReady from.kind from.sorted.ignores_case patterns from.sorted.patterns from.states
      c.args.self.now.transitions.items c.args.self.now.queue.items c.args.queued

  abbrev Ends : Source → Type 0
  Ends from = EndsPatterns from.sorted.patterns c.args.queued c.patterns_end-patterns_end.result

  abbrev now : Source
  now = source_of c.loop-place.self

  abbrev site : (patterns : List (List ℕ)) → Ready patterns now → Ends now → Site
  site patterns ready ends = record {
    kind = now.kind;
    ignores_case = now.sorted.ignores_case;
    patterns = patterns;
    sorted = now.sorted.patterns;
    states = now.states;
    transitions = c.args.self.now.transitions.items;
    queue = c.args.self.now.queue.items;
    queued = c.args.queued;
    ready = ready;
    patterns_end = c.patterns_end-patterns_end.result;
    ends = ends;
  }

  -- it still may as its children come
  ready-now : (patterns : List (List ℕ)) → Ready patterns (source_of c.args.self.now) → Ready patterns now
  ready-now patterns ready = subst (Ready patterns) (sym c.loop-place.invariant.kept) ready

  ends-now : Ends now
  ends-now = subst Ends (sym c.loop-place.invariant.kept) c.patterns_end-patterns_end.ensures

pub loop-place-init : goal.loop-place-init
loop-place-init g c = record { kept = refl; branching = λ patterns ready ends. branching-begins _ }

pub unreachable-requires : goal.unreachable-requires
unreachable-requires g c =
    let s = (goal.at.unreachable-requires g c).At-loop-place in
    let ready = ready-now g s c.requires.ready.0 c.requires.ready.1 in
    let ends = ends-now g s in
    goes-on (site g s c.requires.ready.0 ready ends)
    (c.loop-place.invariant.branching c.requires.ready.0 ready ends) c.loop-place-test.true
    (sym c.byte.ensures.value ∙ c.in_default.is)

-- the run of patterns that is found goes on with the byte
module _ (g : Over) (c : In-Some g) where
  abbrev at : At-loop-place g
  at = (goal.at.In-Some g c).At-loop-place

  run : (patterns : List (List ℕ)) (ready : Ready g at patterns (now g at)) (ends : Ends g at (now g at))
      → IsRun (site g at patterns ready ends) c.loop-place.place c.run_end-end.result c.in-Some.byte
  run patterns ready ends = search rules

  -- so it is that of a child
  child : (patterns : List (List ℕ)) → Ready g at patterns (now g at)
      → HasChild c.loop-place.self.kind c.loop-place.self.sorted.ignores_case patterns c.loop-place.self.sorted.patterns
      c.loop-place.self.states.items c.loop-place.self.transitions.items c.loop-place.self.queue.items
      c.args.queued c.loop-place.place c.in-Some.byte
  child patterns ready =
      let ends = ends-now g at in
      has-child (site g at patterns ready ends) (c.loop-place.invariant.branching patterns ready ends)
      (run patterns ready ends)

pub child_fail-fail-requires : goal.child_fail-fail-requires
child_fail-fail-requires g c =
    let s = (goal.at.child_fail-fail-requires g c).In-Some in
    let patterns = c.requires.ready.0 in
    record { child = (patterns, child g s patterns (ready-now g (at g s) patterns c.requires.ready.1)) }

pub overflow_add-child : goal.overflow_add-child
overflow_add-child g c =
    let s = (goal.at.overflow_add-child g c).In-Some in
    let patterns = c.requires.ready.0 in
    let ready = ready-now g (at g s) patterns c.requires.ready.1 in
    let ends = ends-now g (at g s) in
    let branching = c.loop-place.invariant.branching patterns ready ends in
    let deep = child-deep (site g (at g s) patterns ready ends) branching (run g s patterns ready ends) in
    omega (arith, deep, c.byte.ensures.short)

pub push-requires : goal.push-requires
push-requires g c =
    let s = (goal.at.push-requires g c).At-loop-place in
    let ready = ready-now g s c.requires.ready.0 c.requires.ready.1 in
    record { few = (c.loop-place.invariant.branching c.requires.ready.0 ready (ends-now g s)).grown.few }

-- the failure target of the child stands for that of its string
module _ (g : Over) (c : After-child_fail-fail g) where
  abbrev in-some : In-Some g
  in-some = (goal.at.After-child_fail-fail g c).In-Some

  fails : (patterns : List (List ℕ)) → Ready g (at g in-some) patterns (now g (at g in-some))
      → slice_get (nodes_of c.loop-place.self.sorted.patterns c.loop-place.self.queue.items)
      c.child_fail-fail.result
      ≡ Some (fallback c.loop-place.self.kind patterns
      (Some (word c.loop-place.self.sorted.patterns c.args.queued ++ c.in-Some.byte ∷ [])))
  fails patterns ready = c.child_fail-fail.ensures.fails patterns (child g in-some patterns ready)

pub returns-in_err-push-clause-branched : goal.returns-in_err-push-clause-branched
returns-in_err-push-clause-branched g c = λ patterns entry.
    let f = (goal.at.returns-in_err-push-clause-branched g c).After-child_fail-fail in
    let s = in-some g f in
    let ready = ready-now g (at g s) patterns entry in
    let ends = ends-now g (at g s) in
    refused-by c.from_residual.result c.in_err-push.field-0.0 _
    (IsRefused (too_many_states c.args.self.now.kind patterns)) c.from_residual.ensures.1
    (subst (λ (from : Source). IsRefused (too_many_states from.kind patterns) c.in_err-push.field-0.0)
    c.loop-place.invariant.kept
    (refused (site g (at g s) patterns ready ends)
    (c.loop-place.invariant.branching patterns ready ends) (run g s patterns ready ends)
    c.child_fail-fail.result (fails g f patterns ready) c.in_err-push.field-0.0 c.in_err-push.ensures.pushed))

pub loop-place-preserved : goal.loop-place-preserved
loop-place-preserved g c =
    let f = (goal.at.loop-place-preserved g c).After-child_fail-fail in
    let s = in-some g f in
    let pushed = c.in_ok-push.ensures.pushed in
    record {
      kept = c.in_ok-push.ensures.kept ∙ c.loop-place.invariant.kept;
      branching = subst (λ (from : Source). IsBranchingFrom from c.args.self.now.transitions.items
          c.args.self.now.queue.items c.args.queued c.patterns_end-patterns_end.result c.run_end-end.result
          c.push.new.self.transitions.items c.push.new.self.queue.items)
          (sym c.in_ok-push.ensures.kept)
          (λ patterns ready ends. rw (pushed.leads, pushed.waits)
          (branching-goes_on (site g (at g s) patterns ready ends)
          (c.loop-place.invariant.branching patterns ready ends) (run g s patterns ready ends)
          c.child_fail-fail.result (fails g f patterns ready) c.child_fail-fail.ensures.unanchored
          pushed.numbered));
    }

pub sort_from-requires : goal.sort_from-requires
sort_from-requires g c =
    let s = (goal.at.sort_from-requires g c).At-loop-place in
    let ready = ready-now g s c.requires.ready.0 c.requires.ready.1 in
    let h = c.loop-place.invariant.branching c.requires.ready.0 ready (ends-now g s) in
    let first : c.len-first.result ≡ length c.args.self.now.transitions.items =
    c.len-first.ensures ∙ c.args.self.now.transitions.ok.0 in
    let longer = length-append c.args.self.now.transitions.items h.added in
    record { within = omega (arith, ap length h.split, ap length c.deref_mut.ensures.value, longer) }

pub overflow_cast-result-2 : goal.overflow_cast-result-2
overflow_cast-result-2 g c =
    let s = (goal.at.overflow_cast-result-2 g c).At-loop-place in
    let ready = ready-now g s c.requires.ready.0 c.requires.ready.1 in
    let grown = (c.loop-place.invariant.branching c.requires.ready.0 ready (ends-now g s)).grown in
    omega (arith, grown.few, grown.counted, c.len.ensures, c.loop-place.self.transitions.ok.0)

-- all children have come, and their transitions have been sorted
pub returns-clause-branched : goal.returns-clause-branched
returns-clause-branched g c = λ patterns entry.
    let s = (goal.at.returns-clause-branched g c).At-loop-place in
    let ready = ready-now g s patterns entry in
    let ends = ends-now g s in
    let state = site g s patterns ready ends in
    let unsorted = c.loop-place.self.transitions.items in
    let transitions = c.sort_from.new.transitions in
    let queue = c.loop-place.self.queue.items in
    let h = c.loop-place.invariant.branching patterns ready ends in
    let at-end : c.loop-place.place ≡ c.args.queued.to =
    (omega (arith, h.high, c.loop-place-test.false)) in
    let all = subst (λ (n : ℕ). IsBranching state n unsorted queue) at-end h in
    let first : c.len-first.result ≡ length c.args.self.now.transitions.items =
    c.len-first.ensures ∙ c.args.self.now.transitions.ok.0 in
    let kept : length transitions ≡ c.loop-place.self.transitions.len =
    c.sort_from.auto.transitions ∙ c.deref_mut.ensures.len in
    let last : c.len.result ≡ length transitions = c.len.ensures ∙ sym kept in
    let sorted : HasSorted (length c.args.self.now.transitions.items) unsorted transitions =
    rw (first, c.deref_mut.ensures.value) at c.sort_from.ensures in
    rw (first, last, written-whole transitions unsorted c.loop-place.self.transitions.len kept)
    (subst (λ (from : Source). HasBranched from.kind from.sorted.ignores_case patterns from.sorted.patterns from.states
    c.args.self.now.queue.items c.args.queued (whole_state state all sorted c.output_link.result) transitions
    queue)
    c.loop-place.invariant.kept
    (has-branched state all sorted
    (c.output_link.ensures
    (grown_view state.kind state.ignores_case patterns state.sorted transitions queue)
    (string state) (still-meant state all sorted) (link-due state all sorted))))
