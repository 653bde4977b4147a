use Rattle.ac_util.proofs.Prelude.{◌≡◌, ◌≤◌, ◌⊎◌, ◌∙◌, ℕ, length, arith, List, Option, Some, ap, subst, sym}
use Rattle.ac_automaton.specs.Prelude.{Taped, last_after, walking_of, IsKept, kept_work, reached_by, Onward}
use Rattle.ac_automaton.proofs.WalkOnce.{fresh, fresh-goes, HasGonePast, may-next}
use Rattle.ac_automaton.proofs.WalkKept.{gone-goes, gone-past, kept-over, kept-past}
use Rattle.ac_automaton.proofs.automaton.walk.FindIter.advance_past.Given.{Over}
use Rattle.ac_automaton.proofs.automaton.walk.FindIter.advance_past.Goals.{After-after-self-inside}
use Rattle.ac_automaton.proofs.automaton.walk.FindIter.advance_past.Goals as goal

-- past the end of the span
pub returns-then-self : goal.returns-then-self
returns-then-self g c = kept-over c.self.invariant.kept c.self.view_is c.requires.past c.if-self.true

-- it has gone on with a new tape
module _ (g : Over) (c : After-after-self-inside g) where
  moved : HasGonePast g.A.Automaton.seen c.self.inside.search.finder c.self.inside.search.tape.bytes c.self.inside.span c.self.inside.last
      c.self.inside.from.value (record { place = reached_by c.in-Some.onward.here; counts = c.self.inside.search.looks }) c.next-found.result
      (record c.in-Some.onward { here = c.next-found.new.here }) c.next-found.new.tape c.next-found.new.looks
  moved =
      fresh-goes c.self.invariant.inside c.if-self.false (kept-past c.self.invariant.kept c.in-Some.onward c.in-Some.is)
      (c.open-tape.ensures.tape ∙ ap (λ (bs : List ℕ). fresh bs) (sym c.self.invariant.whole))
      (subst (λ (n : ℕ). (n ≡ 1) ⊎ (n ≡ 2)) (sym (g.met.A.Automaton.allows c.in-Some.onward.core.automaton.now)) g.met.A.Automaton.one_or_two)
      c.next-found.result c.next-found.new.here c.next-found.new.tape c.next-found.new.looks c.next-found.ensures.bytes c.next-found.ensures.end
      c.next-found.ensures.by

  seen-so : walking_of c.self.inside.search.finder c.self.inside.search.tape.bytes c.self.inside.span c.self.inside.last
      c.self.inside.from.value (record { place = reached_by c.in-Some.onward.here; counts = c.self.inside.search.looks }) ≡ c.args.self.now
  seen-so =
      subst (λ (o : Option (Onward g.row.A.Denot g.row.A-Memory.Denot)). walking_of c.self.inside.search.finder c.self.inside.search.tape.bytes
      c.self.inside.span c.self.inside.last c.self.inside.from.value (kept_work o c.self.inside.search.tape c.self.inside.search.looks)
      ≡ c.args.self.now) c.in-Some.is c.self.view_is

pub returns-in-Some-found : goal.returns-in-Some-found
returns-in-Some-found g c =
    let d = (goal.at.returns-in-Some-found g c).After-after-self-inside in
    gone-goes (moved g d) c.after-self-inside.result c.after-self-inside.ensures (Some c.end.result)
    (simp (c.end.ensures, c.in-Some-found.is)) (seen-so g d)

pub returns-in_default-found : goal.returns-in_default-found
returns-in_default-found g c =
    let d = (goal.at.returns-in_default-found g c).After-after-self-inside in
    gone-goes (moved g d) c.after-self-inside.result c.after-self-inside.ensures c.self.inside.last (simp c.in_default-found.is) (seen-so g d)

pub next-found-requires-clause-lawful : goal.next-found-requires-clause-lawful
next-found-requires-clause-lawful g c = (kept-past c.self.invariant.kept c.in-Some.onward c.in-Some.is).lawful

pub next-found-requires-clause-past : goal.next-found-requires-clause-past
next-found-requires-clause-past g c = (kept-past c.self.invariant.kept c.in-Some.onward c.in-Some.is).past

pub next-found-requires-clause-may : goal.next-found-requires-clause-may
next-found-requires-clause-may g c =
    may-next c.self.invariant.inside c.if-self.false (kept-past c.self.invariant.kept c.in-Some.onward c.in-Some.is)
    (c.open-tape.ensures.tape ∙ ap (λ (bs : List ℕ). fresh bs) (sym c.self.invariant.whole)) c.self.invariant.small

-- it is kept so
module _ (g : Over) (c : After-after-self-inside g) where
  abbrev kept-as : Option ℕ → Type 0
  kept-as last = IsKept g.A.Automaton.seen c.self.inside.search.finder c.next-found.new.tape
      (record { start = c.after-self-inside.result; end = c.self.inside.span.end }) last c.self.inside.from.value c.next-found.new.looks
      (Some (record c.in-Some.onward { here = c.next-found.new.here }))

  kept : (last : Option ℕ) → last ≡ last_after c.self.inside.last c.next-found.result → kept-as last
  kept last ends = record { by = gone-past (moved g c) c.after-self-inside.result c.after-self-inside.ensures last ends }

  bytes : c.next-found.new.tape.bytes ≡ c.self.inside.search.tape.bytes
  bytes = c.next-found.ensures.bytes ∙ ap (λ (t : Taped). t.bytes) c.open-tape.ensures.tape ∙ sym c.self.invariant.whole

  inside : c.self.inside.span.end ≤ length c.next-found.new.tape.bytes
  inside = let l = ap (length {A = ℕ}) bytes in let i = c.self.invariant.inside in omega arith

pub invariant_of-self-in-Some-found : goal.invariant_of-self-in-Some-found
invariant_of-self-in-Some-found g c =
    let d = (goal.at.invariant_of-self-in-Some-found g c).After-after-self-inside in record {
      whole = bytes g d ∙ c.self.invariant.whole;
      inside = inside g d;
      small = c.self.invariant.small;
      kept = kept g d (Some c.end.result) (simp (c.end.ensures, c.in-Some-found.is));
    }

pub invariant_of-self-in_default-found : goal.invariant_of-self-in_default-found
invariant_of-self-in_default-found g c =
    let d = (goal.at.invariant_of-self-in_default-found g c).After-after-self-inside in record {
      whole = bytes g d ∙ c.self.invariant.whole;
      inside = inside g d;
      small = c.self.invariant.small;
      kept = kept g d c.self.inside.last (simp c.in_default-found.is);
    }
