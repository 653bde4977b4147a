use Rattle.ac_util.proofs.Prelude.{◌≢◌, refl, sym, ◌∙◌, ap, Some, slice_get, rules, false≢true}
use Rattle.ac_automaton.specs.Prelude.{No, Node, step, grown_view, fallback, nodes_of, word}
use Rattle.ac_automaton.proofs.Places.{None-tested, Some-tested}
use Rattle.ac_automaton.proofs.ChildFails.{fail-pattern, fail-start, fail-step, fail-state}
use Rattle.ac_automaton.proofs.nfa.noncontiguous.growth.Growth.child_fail.Goals as goal

pub returns-then-is_none-clause-fails : goal.returns-then-is_none-clause-fails
returns-then-is_none-clause-fails g c = λ patterns h.
    ap (slice_get (nodes_of c.args.self.now.sorted.patterns c.args.self.now.queue.items)) c.must.ensures.value
    ∙ (fail-pattern h
    (sym c.is_leftmost.ensures ∙ c.if-is_leftmost.true)
    (sym c.byte.ensures.value ∙ None-tested c.byte.result c.is_none.result c.is_none.ensures c.if-is_none.true))

pub returns-then-queued-eq0-clause-fails : goal.returns-then-queued-eq0-clause-fails
returns-then-queued-eq0-clause-fails g c = λ patterns h.
    fail-start h
    (λ leftmost none. search (rules, Some-tested, false≢true))
    c.if-queued-eq0.true

pub returns-clause-unanchored : goal.returns-clause-unanchored
returns-clause-unanchored g c =
    let patterns = c.requires.child.0 in
    let h = c.requires.child.1 in
    c.follow.ensures.unanchored
    (grown_view c.args.self.now.kind c.args.self.now.sorted.ignores_case patterns
    c.args.self.now.sorted.patterns c.args.self.now.transitions.items c.args.self.now.queue.items)
    (fallback c.args.self.now.kind patterns (Some (word c.args.self.now.sorted.patterns c.args.queued.now)))
    (sym c.deref-2.ensures.value) (rw c.deref.ensures.value (fail-state h c.if-queued-eq0.false)) refl

pub returns-clause-fails : goal.returns-clause-fails
returns-clause-fails g c = λ patterns h.
    let deep : c.args.queued.now.depth ≢ 0 = c.if-queued-eq0.false in
    c.follow.ensures.steps
    (grown_view c.args.self.now.kind c.args.self.now.sorted.ignores_case patterns
    c.args.self.now.sorted.patterns c.args.self.now.transitions.items c.args.self.now.queue.items) _
    (sym c.deref-2.ensures.value) (rw c.deref.ensures.value (fail-state h deep))
    ∙ ap (λ (v : Node). Some v)
    (ap (step c.args.self.now.kind patterns No
    (fallback c.args.self.now.kind patterns (Some (word c.args.self.now.sorted.patterns c.args.queued.now))))
    h.settled
    ∙ fail-step h
    (λ leftmost none. search (rules, Some-tested, false≢true))
    deep)
