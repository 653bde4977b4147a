use Rattle.ac_util.proofs.Prelude.{◌≡◌, ◌∙◌, ℕ, true, inl, inr, refl, sym, List, [], subst, None, Option, Some, false≢true}
use Rattle.ac_automaton.specs.Prelude.{No, pending, TakesKnown, ChainMatch}
use Rattle.std.specs.Option.{is_none}
use Rattle.ac_automaton.proofs.OnwardGoes.{fits-on, reads-next}
use Rattle.ac_automaton.proofs.automaton.onward.Core.next.Goals as goal

-- by the next match of its chain
pub returns-in-Some : goal.returns-in-Some
returns-in-Some g c = record {
  bytes = refl;
  end = refl;
  by = inl (record {
    m = c.in-Some.found;
    is = refl;
    takes = subst (λ (cs : List (List ChainMatch)). TakesKnown (g.A.Automaton.seen c.args.self.now.automaton.now).built cs c.args.here.now.rest
        (Some c.in-Some.found) c.take_next.new.rest) c.chains-chains.ensures c.in-Some.ensures;
    same = refl;
    still = refl;
  });
}

empty-hand : (hand : Option ℕ) → is_none hand ≡ true → hand ≡ None
empty-hand None is = refl
empty-hand (Some b) is = absurd (false≢true is)

-- or by what comes next
pub give-requires-clause-fits : goal.give-requires-clause-fits
give-requires-clause-fits g c = fits-on c.requires.may.fits c.try_byte.ensures.reads.on

pub find_on-requires-clause-fits : goal.find_on-requires-clause-fits
find_on-requires-clause-fits g c = fits-on c.requires.may.fits c.try_byte.ensures.reads.on

pub returns : goal.returns
returns g c = record {
  bytes = c.find_on.ensures.bytes;
  end = c.find_on.ensures.end ∙ c.try_byte.ensures.reads.end;
  by = inr (
    subst (λ (cs : List (List ChainMatch)). pending (g.A.Automaton.seen c.args.self.now.automaton.now).built cs c.args.here.now.rest ≡ [])
        c.chains-chains.ensures c.in_default.ensures.1,
    reads-next g.A.Automaton.seen c.args.self.now c.requires.past c.try_byte.ensures.reads.on
        (empty-hand _ (sym c.try_byte.ensures.empty ∙ c.if-not-try_byte.false)) c.try_byte.ensures.reads.end
        (g.met.A.Automaton.lists c.args.self.now.automaton.now No c.try_byte.new.here.cursor.state) c.find_on.ensures.by,
  );
}
