use Rattle.ac_automaton.specs.Prelude.{No}
use Rattle.ac_automaton.proofs.OnwardGoes.{given-fits}
use Rattle.ac_automaton.proofs.automaton.onward.Core.give.Goals as goal

pub match_ending-requires-clause-numbered : goal.match_ending-requires-clause-numbered
match_ending-requires-clause-numbered g c =
    let fits = c.requires.fits in
    (given-fits (g.A.Automaton.seen c.args.self.now.automaton.now) c.args.self.now.commits.now.chains c.args.self.now.start
    c.args.here.now.cursor.state c.args.here.now.cursor.at c.args.self.now.stops fits.node c.in-Some.given fits.there
    (g.met.A.Automaton.lists c.args.self.now.automaton.now No c.args.here.now.cursor.state _ fits.there) fits.short c.in-Some.ensures).0

pub match_ending-requires-clause-within : goal.match_ending-requires-clause-within
match_ending-requires-clause-within g c =
    let fits = c.requires.fits in
    (given-fits (g.A.Automaton.seen c.args.self.now.automaton.now) c.args.self.now.commits.now.chains c.args.self.now.start
    c.args.here.now.cursor.state c.args.here.now.cursor.at c.args.self.now.stops fits.node c.in-Some.given fits.there
    (g.met.A.Automaton.lists c.args.self.now.automaton.now No c.args.here.now.cursor.state _ fits.there) fits.short c.in-Some.ensures).1
