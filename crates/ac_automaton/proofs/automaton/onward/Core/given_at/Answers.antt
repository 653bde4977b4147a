use Rattle.ac_util.proofs.Prelude.{ℕ, Some, sym, subst, ◌∙◌, false≢true}
use Rattle.ac_automaton.specs.Prelude.{No}
use Rattle.ac_automaton.proofs.Heads.{nil-from_not}
use Rattle.ac_automaton.proofs.OnwardGives.{first-of, given-commit, given-match, gives-at, none-of}
use Rattle.ac_automaton.proofs.automaton.onward.Core.given_at.Goals as goal

pub returns-then-is_match : goal.returns-then-is_match
returns-then-is_match g c =
    gives-at (g.A.Automaton.seen c.args.self.now.automaton.now) c.args.self.now.commits.now.chains c.args.self.now.start c.args.state
    c.args.self.now.stops (λ first. first-of c.args.self.now.start _ c.match_pattern.ensures) (λ past u there.
    given-match (g.A.Automaton.seen c.args.self.now.automaton.now) (c.requires.core.on past) c.args.self.now.commits.now.chains u
    c.requires.core.starts (g.met.A.Automaton.lists c.args.self.now.automaton.now No c.args.state (Some u) there) c.match_pattern.ensures)

pub returns-then-self : goal.returns-then-self
returns-then-self g c =
    gives-at (g.A.Automaton.seen c.args.self.now.automaton.now) c.args.self.now.commits.now.chains c.args.self.now.start c.args.state
    c.args.self.now.stops
    (λ first. none-of c.args.self.now.start _
    (nil-from_not _ (λ some. false≢true (sym c.if-is_match.false ∙ c.is_match.ensures.1 some))))
    (λ past. absurd (false≢true (sym past ∙ c.if-self.true)))

pub returns-in_default : goal.returns-in_default
returns-in_default g c =
    gives-at (g.A.Automaton.seen c.args.self.now.automaton.now) c.args.self.now.commits.now.chains c.args.self.now.start c.args.state
    c.args.self.now.stops (λ first. absurd (false≢true (sym c.if-self.false ∙ first)))
    (λ past u there. (c.requires.core.commits past).all c.args.state u there
    (nil-from_not _ (λ some. false≢true (sym c.if-is_match.false ∙ c.is_match.ensures.1 some))) c.in_default.ensures)

pub returns : goal.returns
returns g c =
    gives-at (g.A.Automaton.seen c.args.self.now.automaton.now) c.args.self.now.commits.now.chains c.args.self.now.start c.args.state
    c.args.self.now.stops (λ first. absurd (false≢true (sym c.if-self.false ∙ first)))
    (λ past u there.
    given-commit (g.A.Automaton.seen c.args.self.now.automaton.now) (c.requires.core.on past) c.args.self.now.commits.now.chains u
    c.in-Some.commit
    ((c.requires.core.commits past).each c.in-Some.commit c.in-Some.ensures.0 u
    (subst (λ (s : ℕ). (g.A.Automaton.seen c.args.self.now.automaton.now).stands No s (Some u)) (sym c.in-Some.ensures.1) there)))
