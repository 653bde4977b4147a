use Rattle.ac_util.proofs.Prelude.{◌≡◌, ◌⊎◌, ◌≤◌, ◌<◌, ℕ, None, refl, sym, subst, ◌∙◌, arith, false≢true}
use Rattle.ac_automaton.specs.Prelude.{Scan, scanner, MayRead, point}
use Rattle.ac_automaton.proofs.TriedBytes.{piece-byte, piece-dead}
use Rattle.ac_automaton.proofs.Skipping.{may-skipped, piece-skipped, skipped-end}
use Rattle.ac_automaton.proofs.automaton.scan.Scanner.skip.Given.{Over}
use Rattle.ac_automaton.proofs.automaton.scan.Scanner.skip.Goals.{After-read_byte-byte, In-Some}
use Rattle.ac_automaton.proofs.automaton.scan.Scanner.skip.Goals as goal

-- it has led to the end
pub returns-in_default : goal.returns-in_default
returns-in_default g c =
    let before = c.requires.before in
    skipped-end c.requires.skips c.requires.may refl c.requires.at_start (omega arith) (omega arith) c.in_default.ensures.first
    c.skip_to.ensures.counted before

-- or to a byte
module _ (g : Over) (c : In-Some g) where
  abbrev s : Scan
  s = (scanner g.A.Automaton.seen c.args.self.now).scan

  low : c.args.cursor.now.at ≤ c.in-Some.next
  low = c.in-Some.ensures.first.0.low

  before : c.in-Some.next < c.args.self.now.span.end
  before = c.in-Some.ensures.first.0.high

  may : MayRead s c.args.self.now.span.end (point (record { state = c.args.cursor.now.state; at = c.in-Some.next }) None c.args.tape.now
      c.skip_to.new.looks)
  may =
      let b = before in
      may-skipped c.requires.skips c.requires.may refl c.requires.at_start low (omega arith) c.in-Some.ensures.first.0.before
      c.skip_to.ensures.counted before

pub read_byte-byte-requires-clause-may : goal.read_byte-byte-requires-clause-may
read_byte-byte-requires-clause-may g c = may g (goal.at.read_byte-byte-requires-clause-may g c).In-Some

-- which is tried
module _ (g : Over) (c : After-read_byte-byte g) (d : In-Some g) where
  looks : ((g.A.Automaton.seen c.args.self.now.automaton.now).most ≡ 1) ⊎ ((g.A.Automaton.seen c.args.self.now.automaton.now).most ≡ 2)
  looks =
      subst (λ (n : ℕ). (n ≡ 1) ⊎ (n ≡ 2)) (sym (g.met.A.Automaton.allows c.args.self.now.automaton.now)) g.met.A.Automaton.one_or_two

pub returns-then-is_dead : goal.returns-then-is_dead
returns-then-is_dead g c =
    let w = goal.at.returns-then-is_dead g c in let d = w.In-Some in let l = low g d in let b = before g d in
    piece-skipped c.requires.skips c.requires.may refl c.requires.at_start l (omega arith) c.in-Some.ensures.first.0.before
    c.skip_to.ensures.counted
    (piece-dead (looks g w.After-read_byte-byte d) (may g d) b c.read_byte-byte.ensures.tries c.read_byte-byte.ensures.bytes
    (λ u there. (c.is_dead.ensures c.args.self.now.anchored u there).0 c.if-is_dead.true)) b (omega arith)
    c.read_byte-byte.ensures.tries.calls

pub returns : goal.returns
returns g c =
    let w = goal.at.returns g c in let d = w.In-Some in let l = low g d in let b = before g d in
    piece-skipped c.requires.skips c.requires.may refl c.requires.at_start l (omega arith) c.in-Some.ensures.first.0.before
    c.skip_to.ensures.counted
    (piece-byte (looks g w.After-read_byte-byte d) (may g d) b c.read_byte-byte.ensures.tries c.read_byte-byte.ensures.bytes
    (λ u there gone. false≢true (sym c.if-is_dead.false ∙ (c.is_dead.ensures c.args.self.now.anchored u there).1 gone))) b
    (omega arith) c.read_byte-byte.ensures.tries.calls
