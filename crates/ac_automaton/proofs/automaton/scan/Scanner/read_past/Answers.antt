use Rattle.ac_util.proofs.Prelude.{◌≡◌, ◌⊎◌, ℕ, None, inl, refl, sym, subst, ◌∙◌, false≢true}
use Rattle.ac_automaton.specs.Prelude.{Node, Lists, Scan, scanner, MayRead, point}
use Rattle.ac_automaton.proofs.ReadingOn.{may-go-on, reading-first, reading-piece, stops-end, stops-piece}
use Rattle.ac_automaton.proofs.TriedBytes.{piece-byte, piece-dead}
use Rattle.ac_automaton.proofs.automaton.scan.Scanner.read_past.Given.{Over}
use Rattle.ac_automaton.proofs.automaton.scan.Scanner.read_past.Goals.{After-read_byte-byte}
use Rattle.ac_automaton.proofs.automaton.scan.Scanner.read_past.Goals as goal

pub loop-at-init : goal.loop-at-init
loop-at-init g c = reading-first c.requires.may refl

pub read_byte-byte-requires-clause-may : goal.read_byte-byte-requires-clause-may
read_byte-byte-requires-clause-may g c = may-go-on c.requires.may c.loop-at.invariant

module _ (g : Over) (c : After-read_byte-byte g) where
  abbrev s : Scan
  s = (scanner g.A.Automaton.seen c.args.self.now).scan

  looks : (s.most ≡ 1) ⊎ (s.most ≡ 2)
  looks =
      subst (λ (n : ℕ). (n ≡ 1) ⊎ (n ≡ 2)) (sym (g.met.A.Automaton.allows c.args.self.now.automaton.now)) g.met.A.Automaton.one_or_two

  may : MayRead s c.args.self.now.span.end (point (record { state = c.loop-at.state; at = c.loop-at.at }) None c.loop-at.tape c.loop-at.looks)
  may = may-go-on c.requires.may c.loop-at.invariant

  lists : (u : Node) → s.stands c.loop-at.state u → Lists s.built s.anchored u (s.listed c.loop-at.state)
  lists = g.met.A.Automaton.lists c.args.self.now.automaton.now c.args.self.now.anchored c.loop-at.state

pub is_dead-requires : goal.is_dead-requires
is_dead-requires g c =
    let v = (may g (goal.at.is_dead-requires g c).After-read_byte-byte).alive in
    record { state = (c.args.self.now.anchored, (_, c.read_byte-byte.ensures.tries.leads _ v.1)) }

-- it has come to a byte that leads to the dead state
pub returns-then-is_dead : goal.returns-then-is_dead
returns-then-is_dead g c =
    let d = (goal.at.returns-then-is_dead g c).After-read_byte-byte in
    stops-piece c.requires.may c.loop-at.invariant (lists g d)
    (piece-dead (looks g d) (may g d) c.loop-at-test.true c.read_byte-byte.ensures.tries c.read_byte-byte.ensures.bytes
    (λ u there. (c.is_dead.ensures c.args.self.now.anchored u there).0 c.if-is_dead.true)) c.loop-at-test.true (inl (λ none. absurd (cc)))

-- or goes on
pub loop-at-preserved : goal.loop-at-preserved
loop-at-preserved g c =
    let d = (goal.at.loop-at-preserved g c).After-read_byte-byte in
    reading-piece c.requires.may c.loop-at.invariant (lists g d)
    (piece-byte (looks g d) (may g d) c.loop-at-test.true c.read_byte-byte.ensures.tries c.read_byte-byte.ensures.bytes
    (λ u there gone. false≢true (sym c.if-is_dead.false ∙ (c.is_dead.ensures c.args.self.now.anchored u there).1 gone))) refl
    (λ stops. false≢true (sym c.requires.past ∙ stops.0))

-- up to the end
pub returns : goal.returns
returns g c = stops-end c.requires.may c.loop-at.invariant c.loop-at-test.false
