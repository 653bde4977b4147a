use Rattle.ac_util.proofs.Prelude.{◌≡◌, ℕ, refl, ◌≤◌, length, Option, Some, None, subst, sym, ◌∙◌, rules, arith, common_steps}
use Rattle.ac_automaton.specs.Prelude.{kept_work, Onward, GoesOn, IsByFinds, last_after, walking_of, work_of}
use Rattle.ac_automaton.proofs.WalkLoop.{HasGone, has-gone}
use Rattle.ac_automaton.proofs.WalkKept.{keeps-finds, kept-finds, kept-reads, none-from}
use Rattle.ac_automaton.proofs.automaton.walk.FindIter.advance.Given.{Over}
use Rattle.ac_automaton.proofs.automaton.walk.FindIter.advance.Goals.{After-after-self-inside}
use Rattle.ac_automaton.proofs.automaton.walk.FindIter.advance.Goals as goal

-- a walk that has a place where it reads on reads on past its matches
pub advance_past-requires : goal.advance_past-requires
advance_past-requires g c = record { past = kept-reads c.self.invariant.kept c.self.view_is (sym c.is_some.ensures ∙ c.if-is_some.true) }

-- else it has none, and goes on by finds
none : (g : Over) (c : After-after-self-inside g) → c.self.inside.onward ≡ None
none g c = none-from c.self.inside.onward (sym c.is_some.ensures ∙ c.if-is_some.false)

by-finds : (g : Over) (c : After-after-self-inside g)
    → IsByFinds (walking_of c.self.inside.search.finder c.self.inside.search.tape.bytes c.self.inside.span c.self.inside.last
    c.self.inside.from.value (work_of c.self.inside.search.tape c.self.inside.search.looks))
by-finds g c = kept-finds c.self.invariant.kept (none g c)

seen-so : (g : Over) (c : After-after-self-inside g)
    → walking_of c.self.inside.search.finder c.self.inside.search.tape.bytes c.self.inside.span c.self.inside.last
    c.self.inside.from.value (work_of c.self.inside.search.tape c.self.inside.search.looks) ≡ c.args.self.now
seen-so g c =
    subst (λ (o : Option (Onward g.row.A.Denot g.row.A-Memory.Denot)). walking_of c.self.inside.search.finder c.self.inside.search.tape.bytes
    c.self.inside.span c.self.inside.last c.self.inside.from.value (kept_work o c.self.inside.search.tape c.self.inside.search.looks)
    ≡ c.args.self.now) (none g c) c.self.view_is

-- the walk has gone on, whatever was found: it is where the last match was noted
moved : (g : Over) (c : After-after-self-inside g) (last : Option ℕ)
    → last ≡ last_after c.self.inside.last c.next_left-found.result
    → HasGone c.args.self.now c.next_left-found.result
    (walking_of c.next_left-found.new.self.finder c.next_left-found.new.self.tape.bytes
    (record { start = c.after-self-inside.result; end = c.self.inside.span.end }) last c.self.inside.from.value
    (work_of c.next_left-found.new.self.tape c.next_left-found.new.self.looks))
moved g c last ends =
    grind (
      arith,
      common_steps,
      seen-so g c,
      has-gone (by-finds g c).under_way refl (c.next_left-found.ensures).next ((c.next_left-found.ensures).finds (c.self).inside.from.value) (by-finds g c).by_finds,
    )

-- and so its iterator is seen
as-kept : (g : Over) (c : After-after-self-inside g) (last : Option ℕ)
    → GoesOn c.args.self.now c.next_left-found.result
    (walking_of c.next_left-found.new.self.finder c.next_left-found.new.self.tape.bytes
    (record { start = c.after-self-inside.result; end = c.self.inside.span.end }) last c.self.inside.from.value
    (work_of c.next_left-found.new.self.tape c.next_left-found.new.self.looks))
    → GoesOn c.args.self.now c.next_left-found.result
    (walking_of c.next_left-found.new.self.finder c.next_left-found.new.self.tape.bytes
    (record { start = c.after-self-inside.result; end = c.self.inside.span.end }) last c.self.inside.from.value
    (kept_work c.self.inside.onward c.next_left-found.new.self.tape c.next_left-found.new.self.looks))
as-kept g c last goes =
    subst (λ (o : Option (Onward g.row.A.Denot g.row.A-Memory.Denot)). GoesOn c.args.self.now c.next_left-found.result
    (walking_of c.next_left-found.new.self.finder c.next_left-found.new.self.tape.bytes
    (record { start = c.after-self-inside.result; end = c.self.inside.span.end }) last c.self.inside.from.value
    (kept_work o c.next_left-found.new.self.tape c.next_left-found.new.self.looks))) (sym (none g c)) goes

-- it is over the same bytes
inside : (g : Over) (c : After-after-self-inside g) → c.self.inside.span.end ≤ length c.next_left-found.new.self.tape.bytes
inside g c = grind (arith, common_steps)

whole : (g : Over) (c : After-after-self-inside g)
    → c.next_left-found.new.self.tape.bytes ≡ c.next_left-found.new.self.input.haystack.now
whole g c = search rules

-- after a match
pub invariant_of-self : goal.invariant_of-self
invariant_of-self g c =
    let d = (goal.at.invariant_of-self g c).After-after-self-inside in
    record {
      whole = whole g d;
      inside = inside g d;
      small = c.self.invariant.small;
      kept = keeps-finds (none g d) (moved g d (Some c.end.result) (simp (c.end.ensures, c.in-Some.is))).way;
    }

pub returns-in-Some : goal.returns-in-Some
returns-in-Some g c =
    let d = (goal.at.returns-in-Some g c).After-after-self-inside in
    as-kept g d (Some c.end.result) (moved g d (Some c.end.result) (simp (c.end.ensures, c.in-Some.is))).goes_on

-- and where there was none
pub invariant_of-self-in_default : goal.invariant_of-self-in_default
invariant_of-self-in_default g c =
    let d = (goal.at.invariant_of-self-in_default g c).After-after-self-inside in
    record {
      whole = whole g d;
      inside = inside g d;
      small = c.self.invariant.small;
      kept = keeps-finds (none g d) (moved g d c.self.inside.last (simp c.in_default.is)).way;
    }

pub returns-in_default : goal.returns-in_default
returns-in_default g c =
    let d = (goal.at.returns-in_default g c).After-after-self-inside in
    as-kept g d c.self.inside.last (moved g d c.self.inside.last (simp c.in_default.is)).goes_on
