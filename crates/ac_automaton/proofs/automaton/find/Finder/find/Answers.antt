use Rattle.ac_util.proofs.Prelude.{◌≡◌, ◌⊎◌, ℕ, refl, subst, sym, ◌∙◌, arith}
use Rattle.ac_automaton.specs.Prelude.{Anchored, No, FindsIn, Finding, finding_of, tape_with}
use Rattle.ac_automaton.proofs.FindGives.{finds-pick, free-some, free-unanchored, none-empty}
use Rattle.ac_automaton.proofs.FindLoop.{searched-nothing}
use Rattle.ac_automaton.proofs.automaton.find.Finder.find.Goals as goal

pub returns-then-span-clause-finds : goal.returns-then-span-clause-finds
returns-then-span-clause-finds g c =
    record { searched = searched-nothing _ _ _ c.if-span.true c.requires.unread; bytes = refl }

-- what it gives that may pick a match anywhere is the pick
pub returns-clause-finds : goal.returns-clause-finds
returns-clause-finds g c =
    let free = sym c.self.invariant.free ∙ c.if-not-self.false in
    let core = c.self.inside.core in
    subst (λ (f : Finding). FindsIn f c.args.span (tape_with c.args.tape.now c.args.looks.now) c.find_first.result
    (tape_with c.find_first.new.tape c.find_first.new.looks))
    c.self.view_is
    (subst (λ (x : Anchored). FindsIn (finding_of (g.A.Automaton.seen core.automaton.now) x core.stops) c.args.span (tape_with c.args.tape.now
    c.args.looks.now) c.find_first.result (tape_with c.find_first.new.tape c.find_first.new.looks))
    (sym (free-unanchored c.self.inside.anchored (g.A.Automaton.seen core.automaton.now).built.patterns free)) (record {
      searched = finds-pick g.A.Automaton.seen core (c.self.invariant.lawful c.if-not-self.false)
          (subst (λ (n : ℕ). (n ≡ 1) ⊎ (n ≡ 2)) (sym (g.met.A.Automaton.allows core.automaton.now)) g.met.A.Automaton.one_or_two)
          c.self.invariant.leftmost
          (none-empty (g.A.Automaton.seen core.automaton.now).built.patterns
          (free-some c.self.inside.anchored (g.A.Automaton.seen core.automaton.now).built.patterns free))
          (λ state u there. g.met.A.Automaton.lists core.automaton.now No state u there) c.args.tape.now.bytes c.args.span
          (omega (arith, c.if-span.false)) c.requires.end_within _ c.requires.unread c.begin-self-inside.ensures c.find_first.ensures.by;
      bytes = c.find_first.ensures.bytes;
    }))
