use Rattle.ac_util.proofs.Prelude.{◌≡◌, ℕ, Some, slice_get, rules, false≢true}
use Rattle.ac_automaton.proofs.Heads.{HeadFits, found-due, found-none, found-not_due, head-fits, nil-from_not}
use Rattle.ac_automaton.proofs.automaton.scan.Scanner.match_at.Given.{Over}
use Rattle.ac_automaton.proofs.automaton.scan.Scanner.match_at.Goals.{After-is_match}
use Rattle.ac_automaton.proofs.automaton.scan.Scanner.match_at.Goals as goal

-- a state without matches finds nothing
pub returns-then-not-is_match : goal.returns-then-not-is_match
returns-then-not-is_match g c = search (rules, false≢true, found-none, nil-from_not)

-- its first match is one of a pattern, and no longer than what was read
fits : (g : Over) (c : After-is_match g) (p : ℕ)
    → slice_get ((g.A.Automaton.seen c.args.self.now.automaton.now).listed c.args.cursor.now.state) 0 ≡ Some p
    → HeadFits (g.A.Automaton.seen c.args.self.now.automaton.now).built
    ((g.A.Automaton.seen c.args.self.now.automaton.now).listed c.args.cursor.now.state) c.args.self.now.span.start
    c.args.cursor.now.at p
fits g c p first =
    let self = c.args.self.now in
    let r = c.requires in
    head-fits (g.A.Automaton.seen self.automaton.now).built _ self.span.start c.args.cursor.now.at self.anchored r.node p
    (g.met.A.Automaton.lists self.automaton.now self.anchored c.args.cursor.now.state r.node r.stands) r.fits first

pub pattern_len-len-requires : goal.pattern_len-len-requires
pattern_len-len-requires g c = record {
  numbered = (fits g (goal.at.pattern_len-len-requires g c).After-is_match _ c.match_pattern-pattern.ensures).numbered;
}

-- where it isn't due nothing is found
pub returns-then-not-is_due : goal.returns-then-not-is_due
returns-then-not-is_due g c = search (rules, found-not_due)

pub match_ending-requires-clause-numbered : goal.match_ending-requires-clause-numbered
match_ending-requires-clause-numbered g c =
    (fits g (goal.at.match_ending-requires-clause-numbered g c).After-is_match _ c.match_pattern-pattern.ensures).numbered

pub match_ending-requires-clause-within : goal.match_ending-requires-clause-within
match_ending-requires-clause-within g c = search (rules, fits)

-- else the first match ends here
pub returns : goal.returns
returns g c = search (rules, found-due)
