use Rattle.ac_util.proofs.Prelude.{◌≡◌, ◌⊎◌, ℕ, true, refl, subst, sym, arith}
use Rattle.ac_automaton.specs.Prelude.{FindsIn, Finding, scan_of, ScannerView, Advances, at, tape_with}
use Rattle.ac_automaton.proofs.ReadAhead.{advances, may-read}
use Rattle.ac_automaton.proofs.FindPicks.{finds-in, finds-on, MayFind, may-find-first, may-read-on, picks-start, picks-then, stands, stands-first, stands-then}
use Rattle.ac_automaton.proofs.automaton.find.Finder.find_front.Given.{Over}
use Rattle.ac_automaton.proofs.automaton.find.Finder.find_front.Goals.{After-enter, After-match_at-last}
use Rattle.ac_automaton.proofs.automaton.find.Finder.find_front.Goals as goal

pub match_at-last-requires : goal.match_at-last-requires
match_at-last-requires g c =
    stands-first (may-find-first (g.A.Automaton.seen c.self.inside.core.automaton.now) c.self.inside.anchored c.self.inside.core.stops
    c.requires.may (omega arith) c.requires.some c.self.invariant.starts c.self.invariant.leftmost)

-- it may begin where the span does
module _ (g : Over) (c : After-match_at-last g) where
  abbrev v : ScannerView
  v = record {
    scan = scan_of (g.A.Automaton.seen c.self.inside.core.automaton.now) c.self.inside.anchored true;
    span = c.args.span;
  }

  may : MayFind v c.self.inside.core.stops c.args.tape.now (record { state = c.self.inside.core.start; at = c.args.span.start })
  may =
      may-find-first (g.A.Automaton.seen c.self.inside.core.automaton.now) c.self.inside.anchored c.self.inside.core.stops
      c.requires.may (omega arith) c.requires.some c.self.invariant.starts c.self.invariant.leftmost

pub loop-scanner-init : goal.loop-scanner-init
loop-scanner-init g c = picks-start (may g (goal.at.loop-scanner-init g c).After-match_at-last) c.match_at-last.ensures

pub is_decided-requires : goal.is_decided-requires
is_decided-requires g c =
    (_, stands (may g (goal.at.is_decided-requires g c).After-match_at-last) c.loop-scanner.invariant)

pub read-dead-requires : goal.read-dead-requires
read-dead-requires g c = record {
  may = may-read (may-read-on (may g (goal.at.read-dead-requires g c).After-match_at-last) c.loop-scanner.invariant c.is_decided.ensures
      c.loop-scanner-test.true);
}

-- it has read on, and followed a byte into the dead state
module _ (g : Over) (c : After-enter g) where
  read-on : Advances (record {
    scan = scan_of (g.A.Automaton.seen c.self.inside.core.automaton.now) c.self.inside.anchored true;
    span = c.args.span;
  }) (at c.loop-scanner.here c.loop-scanner.tape c.loop-scanner.looks) (at c.enter.new.self c.read-dead.new.tape c.read-dead.new.looks)
  read-on =
      let begins = may-find-first (g.A.Automaton.seen c.self.inside.core.automaton.now) c.self.inside.anchored c.self.inside.core.stops
      c.requires.may (omega arith) c.requires.some c.self.invariant.starts c.self.invariant.leftmost in
      advances
      (subst (λ (n : ℕ). (n ≡ 1) ⊎ (n ≡ 2)) (sym (g.met.A.Automaton.allows c.self.inside.core.automaton.now)) g.met.A.Automaton.one_or_two)
      refl (may-read-on begins c.loop-scanner.invariant c.is_decided.ensures c.loop-scanner-test.true)
      c.read-dead.ensures.further c.enter.ensures

pub match_at-requires : goal.match_at-requires
match_at-requires g c =
    stands-then (may g (goal.at.match_at-requires g c).After-match_at-last) c.loop-scanner.invariant c.is_decided.ensures
    c.loop-scanner-test.true (read-on g (goal.at.match_at-requires g c).After-enter)

pub loop-scanner-preserved : goal.loop-scanner-preserved
loop-scanner-preserved g c =
    picks-then (may g (goal.at.loop-scanner-preserved g c).After-match_at-last) c.loop-scanner.invariant c.is_decided.ensures
    c.loop-scanner-test.true (read-on g (goal.at.loop-scanner-preserved g c).After-enter) c.match_at.ensures c.or-last.ensures

pub returns : goal.returns
returns g c =
    record {
      finds =
          subst (λ (f : Finding). FindsIn f c.args.span (tape_with c.args.tape.now c.args.looks.now) c.loop-scanner.last
          (tape_with c.loop-scanner.tape c.loop-scanner.looks)) c.self.view_is
          (finds-in (g.A.Automaton.seen c.self.inside.core.automaton.now) refl c.requires.may.unread
          (finds-on (may g (goal.at.returns g c).After-match_at-last) c.loop-scanner.invariant c.is_decided.ensures c.loop-scanner-test.false));
    }
