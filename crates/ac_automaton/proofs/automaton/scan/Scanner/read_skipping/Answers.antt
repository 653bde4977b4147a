use Rattle.ac_util.proofs.Prelude.{◌∙◌, ap, inl, inr, refl, sym, arith, false≢true}
use Rattle.ac_automaton.specs.Prelude.{hand_of}
use Rattle.ac_automaton.proofs.ReadingOn.{may-go-on, none-dead, piece-then, reading-first, reading-piece, some-dead, stops-piece, stops-then}
use Rattle.ac_automaton.proofs.automaton.scan.Scanner.read_skipping.Goals.{then-is_some-via-then-is_some, then-is_some-via-else-is_some+then-is_to_stop}
use Rattle.ac_automaton.proofs.automaton.scan.Scanner.read_skipping.Goals as goal

pub loop-dead-init : goal.loop-dead-init
loop-dead-init g c = reading-first c.requires.may refl

-- it has read as far as it reads
pub returns-in-Stopped : goal.returns-in-Stopped
returns-in-Stopped g c =
    let read = c.in-Stopped.ensures in
    stops-then c.requires.may c.loop-dead.invariant
    (g.met.A.Automaton.lists c.args.self.now.automaton.now c.args.self.now.anchored c.loop-dead.here.state) read.further read.enough

-- or to its start, and is to stop after a skip from there
pub returns-then-is_some : goal.returns-then-is_some
returns-then-is_some g c =
    let begun = c.in_default.ensures in
    let lists = g.met.A.Automaton.lists c.args.self.now.automaton.now c.args.self.now.anchored in
    let onward = begun.reading.on.scans.onward in
    let before = begun.before in
    stops-piece c.requires.may c.loop-dead.invariant (lists c.loop-dead.here.state)
    (piece-then (may-go-on c.requires.may c.loop-dead.invariant) begun.reading (lists c.read_to_start.new.cursor.state)
    c.skip-dead.ensures before) (omega arith) (elim c.then-is_some.branch [
      | then-is_some-via-then-is_some w ↦ inl (some-dead (sym c.is_some.ensures ∙ w.if-is_some.true))
      | then-is_some-via-else-is_some+then-is_to_stop w ↦ inr (inr (w.is_to_stop.ensures.0 w.if-is_to_stop.true))
    ])

-- or goes on
pub loop-dead-preserved : goal.loop-dead-preserved
loop-dead-preserved g c =
    let begun = c.in_default.ensures in
    let lists = g.met.A.Automaton.lists c.args.self.now.automaton.now c.args.self.now.anchored in
    reading-piece c.requires.may c.loop-dead.invariant (lists c.loop-dead.here.state)
    (piece-then (may-go-on c.requires.may c.loop-dead.invariant) begun.reading (lists c.read_to_start.new.cursor.state)
    c.skip-dead.ensures begun.before) (ap hand_of (none-dead (sym c.is_some.ensures ∙ c.if-is_some.false)))
    (λ stops. false≢true (sym c.if-is_to_stop.false ∙ c.is_to_stop.ensures.1 stops))

pub loop-dead-smaller : goal.loop-dead-smaller
loop-dead-smaller g c =
    let begun = c.in_default.ensures in
    let onward = begun.reading.on.scans.onward in
    let before = begun.before in
    let moved = c.skip-dead.ensures.moved before (ap hand_of (none-dead (sym c.is_some.ensures ∙ c.if-is_some.false))) in
    omega arith

pub is_to_stop-requires : goal.is_to_stop-requires
is_to_stop-requires g c =
    let begun = c.in_default.ensures in
    let v = c.requires.may.alive in let h = c.loop-dead.invariant.on.comes _ v.1 in let k = begun.reading.on.comes _ h.there in
    let there = c.skip-dead.ensures.on.comes _ k.there in (_, there.there)

pub skip-dead-requires-clause-may : goal.skip-dead-requires-clause-may
skip-dead-requires-clause-may g c =
    let begun = c.in_default.ensures in may-go-on (may-go-on c.requires.may c.loop-dead.invariant) begun.reading
