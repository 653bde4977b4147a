use Rattle.ac_util.proofs.Prelude.{ap, arith, length, List, ℕ, sym, ◌∙◌, false≢true}
use Rattle.ac_engines.specs.Prelude.{No}
use Rattle.ac_automaton.proofs.Heads.{nil-from_not}
use Rattle.ac_engines.proofs.MatchCounts.{matches-few}
use Rattle.ac_engines.proofs.PlanStates.{listed-len, words-stand}
use Rattle.ac_engines.proofs.nfa.contiguous.plan.Plan.match_len.Goals as goal

-- the state stands for a node
pub is_match-requires : goal.is_match-requires
is_match-requires g c = record { state = (No, words-stand _ _ _ c.self.view_is c.requires.state) }

pub match_len-requires-clause-state : goal.match_len-requires-clause-state
match_len-requires-clause-state g c = (No, words-stand _ _ _ c.self.view_is c.requires.state)

pub match_len-requires-clause-matches : goal.match_len-requires-clause-matches
match_len-requires-clause-matches g c = c.is_match.ensures.0 c.if-is_match.true

-- it lists the matches of its node, of which there are no more than patterns
pub returns-then-is_match-clause-value : goal.returns-then-is_match-clause-value
returns-then-is_match-clause-value g c = λ nodes u may named.
    c.match_len.ensures ∙ listed-len _ _ _ c.self.view_is nodes u may named

pub returns-then-is_match-clause-few : goal.returns-then-is_match-clause-few
returns-then-is_match-clause-few g c =
    let at = c.requires.state in
    omega (
      arith,
      returns-then-is_match-clause-value g c at.nodes at.node at.may at.named,
      matches-few c.args.self.now.trie.built at.node,
      at.may.few,
    )

-- else it lists none
pub returns-else-is_match-clause-value : goal.returns-else-is_match-clause-value
returns-else-is_match-clause-value g c = λ nodes u may named.
    let none = nil-from_not _ (λ some. false≢true (sym c.if-is_match.false ∙ c.is_match.ensures.1 some)) in
    sym (ap (λ (xs : List ℕ). length xs) none) ∙ listed-len _ _ _ c.self.view_is nodes u may named
