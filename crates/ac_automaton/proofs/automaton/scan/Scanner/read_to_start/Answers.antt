use Rattle.ac_util.proofs.Prelude.{◌∙◌, ap, inl, inr, refl, sym, arith, false≢true}
use Rattle.ac_automaton.specs.Prelude.{hand_of}
use Rattle.ac_automaton.proofs.ReadingOn.{may-go-on, none-dead, reading-first, reading-piece, some-dead, stops-end, stops-piece}
use Rattle.ac_automaton.proofs.automaton.scan.Scanner.read_to_start.Goals.{then-is_some-via-then-is_some, then-is_some-via-else-is_some+then-is_to_stop}
use Rattle.ac_automaton.proofs.automaton.scan.Scanner.read_to_start.Goals as goal

pub loop-cursor-init : goal.loop-cursor-init
loop-cursor-init g c = reading-first c.requires.may refl

pub is_to_skip-requires : goal.is_to_skip-requires
is_to_skip-requires g c = (let v = (may-go-on c.requires.may c.loop-cursor.invariant).alive in record { state = (_, v.1) })

-- it has come to its start
pub returns-then-is_to_skip : goal.returns-then-is_to_skip
returns-then-is_to_skip g c = record {
  reading = c.loop-cursor.invariant;
  before = c.loop-cursor-test.true;
  at_start = c.is_to_skip.ensures c.if-is_to_skip.true;
}

pub read_rest-dead-requires-clause-may : goal.read_rest-dead-requires-clause-may
read_rest-dead-requires-clause-may g c = may-go-on c.requires.may c.loop-cursor.invariant

pub is_to_stop-requires : goal.is_to_stop-requires
is_to_stop-requires g c =
    let v = c.requires.may.alive in let h = c.loop-cursor.invariant.on.comes _ v.1 in let there = c.read_rest-dead.ensures.on.comes _ h.there in
    (_, there.there)

-- it is to stop after a piece
pub returns-then-is_some : goal.returns-then-is_some
returns-then-is_some g c =
    stops-piece c.requires.may c.loop-cursor.invariant
    (g.met.A.Automaton.lists c.args.self.now.automaton.now c.args.self.now.anchored c.loop-cursor.cursor.state)
    c.read_rest-dead.ensures c.loop-cursor-test.true (elim c.then-is_some.branch [
      | then-is_some-via-then-is_some w ↦ inl (some-dead (sym c.is_some.ensures ∙ w.if-is_some.true))
      | then-is_some-via-else-is_some+then-is_to_stop w ↦ inr (inr (w.is_to_stop.ensures.0 w.if-is_to_stop.true))
    ])

pub loop-cursor-smaller : goal.loop-cursor-smaller
loop-cursor-smaller g c =
    let m = c.read_rest-dead.ensures.moved c.loop-cursor-test.true (ap hand_of (none-dead (sym c.is_some.ensures ∙ c.if-is_some.false))) in
    let b = c.loop-cursor-test.true in omega arith

-- or goes on
pub loop-cursor-preserved : goal.loop-cursor-preserved
loop-cursor-preserved g c =
    reading-piece c.requires.may c.loop-cursor.invariant
    (g.met.A.Automaton.lists c.args.self.now.automaton.now c.args.self.now.anchored c.loop-cursor.cursor.state)
    c.read_rest-dead.ensures (ap hand_of (none-dead (sym c.is_some.ensures ∙ c.if-is_some.false)))
    (λ stops. false≢true (sym c.if-is_to_stop.false ∙ c.is_to_stop.ensures.1 stops))

-- up to the end
pub returns : goal.returns
returns g c = stops-end c.requires.may c.loop-cursor.invariant c.loop-cursor-test.false
