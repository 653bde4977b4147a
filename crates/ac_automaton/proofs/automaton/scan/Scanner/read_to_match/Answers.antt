use Rattle.ac_util.proofs.Prelude.{◌≡◌, ◌⊎◌, ℕ, None, inl, inr, refl, sym, subst, ◌∙◌, arith, false≢true}
use Rattle.ac_automaton.specs.Prelude.{Node, Lists, Scan, scanner, MayRead, point}
use Rattle.ac_automaton.proofs.ReadingOn.{may-go-on, reading-first, reading-piece, stops-end, stops-piece}
use Rattle.ac_automaton.proofs.TriedBytes.{piece-byte, piece-dead}
use Rattle.ac_automaton.proofs.automaton.scan.Scanner.read_to_match.Given.{Over}
use Rattle.ac_automaton.proofs.automaton.scan.Scanner.read_to_match.Goals.{After-read_byte-byte, then-is_match_or_dead-via-else-is_match_or_dead+then-there-end, then-is_match_or_dead-via-then-is_match_or_dead}
use Rattle.ac_automaton.proofs.automaton.scan.Scanner.read_to_match.Goals as goal

-- there is nothing to read
pub returns-then-at-end : goal.returns-then-at-end
returns-then-at-end g c = stops-end c.requires.may (reading-first c.requires.may refl) c.if-at-end.true

pub loop-state-init : goal.loop-state-init
loop-state-init g c = record { before = omega (arith, c.if-at-end.false); reading = reading-first c.requires.may refl }

pub read_byte-byte-requires-clause-may : goal.read_byte-byte-requires-clause-may
read_byte-byte-requires-clause-may g c = may-go-on c.requires.may c.loop-state.invariant.reading

pub read_byte-byte-requires-clause-before : goal.read_byte-byte-requires-clause-before
read_byte-byte-requires-clause-before g c = c.loop-state.invariant.before

module _ (g : Over) (c : After-read_byte-byte g) where
  abbrev s : Scan
  s = (scanner g.A.Automaton.seen c.args.self.now).scan

  looks : (s.most ≡ 1) ⊎ (s.most ≡ 2)
  looks =
      subst (λ (n : ℕ). (n ≡ 1) ⊎ (n ≡ 2)) (sym (g.met.A.Automaton.allows c.args.self.now.automaton.now)) g.met.A.Automaton.one_or_two

  may : MayRead s c.args.self.now.span.end (point (record { state = c.loop-state.state; at = c.loop-state.at }) None c.loop-state.tape c.loop-state.looks)
  may = may-go-on c.requires.may c.loop-state.invariant.reading

  lists : (u : Node) → s.stands c.loop-state.state u → Lists s.built s.anchored u (s.listed c.loop-state.state)
  lists = g.met.A.Automaton.lists c.args.self.now.automaton.now c.args.self.now.anchored c.loop-state.state

pub overflow_add-at : goal.overflow_add-at
overflow_add-at g c = let b = c.loop-state.invariant.before in omega arith

pub is_match_or_dead-requires : goal.is_match_or_dead-requires
is_match_or_dead-requires g c =
    let v = (may g (goal.at.is_match_or_dead-requires g c).After-read_byte-byte).alive in
    record { state = (c.args.self.now.anchored, (_, c.read_byte-byte.ensures.tries.leads _ v.1)) }

pub is_dead-requires : goal.is_dead-requires
is_dead-requires g c =
    let v = (may g (goal.at.is_dead-requires g c).After-read_byte-byte).alive in
    record { state = (c.args.self.now.anchored, (_, c.read_byte-byte.ensures.tries.leads _ v.1)) }

-- it has come to a byte that leads to the dead state
pub returns-then-is_dead : goal.returns-then-is_dead
returns-then-is_dead g c =
    let d = (goal.at.returns-then-is_dead g c).After-read_byte-byte in
    stops-piece c.requires.may c.loop-state.invariant.reading (lists g d)
    (piece-dead (looks g d) (may g d) c.loop-state.invariant.before c.read_byte-byte.ensures.tries c.read_byte-byte.ensures.bytes
    (λ u there. (c.is_dead.ensures c.args.self.now.anchored u there).0 c.if-is_dead.true)) c.loop-state.invariant.before (inl (λ none. absurd (cc)))

-- or to the end, or to a match
pub returns-then-is_match_or_dead : goal.returns-then-is_match_or_dead
returns-then-is_match_or_dead g c =
    let d = (goal.at.returns-then-is_match_or_dead g c).After-read_byte-byte in
    stops-piece c.requires.may c.loop-state.invariant.reading (lists g d)
    (piece-byte (looks g d) (may g d) c.loop-state.invariant.before c.read_byte-byte.ensures.tries c.read_byte-byte.ensures.bytes
    (λ u there gone. false≢true (sym c.if-is_dead.false ∙ (c.is_dead.ensures c.args.self.now.anchored u there).1 gone)))
    c.loop-state.invariant.before (inr (elim c.then-is_match_or_dead.branch [
      | then-is_match_or_dead-via-else-is_match_or_dead+then-there-end w ↦ inl w.if-there-end.true
      | then-is_match_or_dead-via-then-is_match_or_dead w ↦
          inr (
            c.requires.stops,
            (let v = (may g d).alive in let there = c.read_byte-byte.ensures.tries.leads _ v.1 in
                elim ((c.is_match_or_dead.ensures c.args.self.now.anchored _ there).0 w.if-is_match_or_dead.true) [
                  | inl gone ↦ absurd (false≢true (sym c.if-is_dead.false ∙ (c.is_dead.ensures c.args.self.now.anchored _ there).1 gone))
                  | inr some ↦ some
                ]),
          )
    ]))

-- or goes on
pub loop-state-preserved : goal.loop-state-preserved
loop-state-preserved g c =
    let d = (goal.at.loop-state-preserved g c).After-read_byte-byte in
    record {
      reading = reading-piece c.requires.may c.loop-state.invariant.reading (lists g d)
          (piece-byte (looks g d) (may g d) c.loop-state.invariant.before c.read_byte-byte.ensures.tries c.read_byte-byte.ensures.bytes
          (λ u there gone. false≢true (sym c.if-is_match_or_dead.false
          ∙ (c.is_match_or_dead.ensures c.args.self.now.anchored u there).1 (inl gone)))) refl
          (λ stops.
          let v = (may g d).alive in
          false≢true (sym c.if-is_match_or_dead.false ∙ (c.is_match_or_dead.ensures c.args.self.now.anchored _
          (c.read_byte-byte.ensures.tries.leads _ v.1)).1 (inr stops.1)));
      before = omega (arith, c.if-there-end.false);
    }
