use Rattle.ac_util.proofs.Prelude.{◌≡◌, ◌⊎◌, ℕ, Option, refl, sym, subst, ◌∙◌, false≢true}
use Rattle.ac_automaton.specs.Prelude.{No, point, ReadsOn, Tries, work_of, scan_by}
use Rattle.ac_automaton.proofs.ReadingOn.{reads-nothing}
use Rattle.ac_automaton.proofs.TriedBytes.{hand-before, reads-byte, stops-byte, tries-hand}
use Rattle.ac_automaton.proofs.automaton.onward.Core.try_byte.Given.{Over}
use Rattle.ac_automaton.proofs.automaton.onward.Core.try_byte.Goals.{After-is_dead}
use Rattle.ac_automaton.proofs.automaton.onward.Core.try_byte.Goals as goal

pub returns-in_default-clause-reads : goal.returns-in_default-clause-reads
returns-in_default-clause-reads g c = record { end = refl; on = reads-nothing c.requires.may c.in_default.is }

module _ (g : Over) (c : After-is_dead g) where
  looks : ((g.A.Automaton.seen c.args.self.now.automaton.now).most ≡ 1) ⊎ ((g.A.Automaton.seen c.args.self.now.automaton.now).most ≡ 2)
  looks =
      subst (λ (n : ℕ). (n ≡ 1) ⊎ (n ≡ 2)) (sym (g.met.A.Automaton.allows c.args.self.now.automaton.now)) g.met.A.Automaton.one_or_two

  tries : Tries (scan_by g.A.Automaton.seen c.args.self.now)
      (point c.args.here.now.cursor c.args.here.now.byte c.args.tape.now c.args.looks.now) c.in-Some.byte c.next_state-next.result
      (work_of c.args.tape.now c.next_state-next.new.looks)
  tries = tries-hand c.requires.may c.in-Some.is c.next_state-next.ensures.steps c.next_state-next.ensures.looks

-- the byte in hand leads to the dead state, and stays
pub returns-then-is_dead-clause-reads : goal.returns-then-is_dead-clause-reads
returns-then-is_dead-clause-reads g c =
    let d = (goal.at.returns-then-is_dead-clause-reads g c).After-is_dead in
    record {
      end = refl;
      on = subst (λ (h : Option ℕ). ReadsOn (scan_by g.A.Automaton.seen c.args.self.now) c.args.here.now.end
          (point c.args.here.now.cursor c.args.here.now.byte c.args.tape.now c.args.looks.now)
          (point c.args.here.now.cursor h c.args.tape.now c.next_state-next.new.looks)) (sym c.in-Some.is)
          (stops-byte (looks g d) c.requires.may (hand-before c.requires.may c.in-Some.is) (tries g d) refl
          (λ u there. (c.is_dead.ensures No u there).0 c.if-is_dead.true));
    }

-- or it leads on
pub returns-clause-reads : goal.returns-clause-reads
returns-clause-reads g c =
    let d = (goal.at.returns-clause-reads g c).After-is_dead in
    record {
      end = refl;
      on = reads-byte (looks g d) c.requires.may (hand-before c.requires.may c.in-Some.is) (tries g d) refl
          (λ u there gone. false≢true (sym c.if-is_dead.false ∙ (c.is_dead.ensures No u there).1 gone));
    }
