use Rattle.ac_util.proofs.Prelude.{◌≡◌, ◌≢◌, ◌+◌, ◌∷◌, [], sym, ap, ◌∙◌, List, ℕ, drop, arith, false≢true, drop_more, get_or_from_slice_get, slice_get_within}
use Rattle.ac_engines.specs.Prelude.{match_list_at}
use Rattle.std.proofs.Math.ListN.{drop_of_length-le}
use Rattle.ac_engines.proofs.nfa.contiguous.NFAAutomaton.take_match.Goals as goal
use Rattle.ac_engines.proofs.nfa.contiguous.NFAAutomaton.take_match.Goals.{then-not-is_match-via-then-not-is_match, then-not-is_match-via-else-not-is_match+then-rest-match_len}

-- what isn't some is none, and nothing stands after a place in it
none-after : (xs : List ℕ) (place : ℕ) → (xs ≢ [] → ⊥) → drop place xs ≡ []
none-after [] place none = drop_of_length-le [] (omega arith)
none-after (x ∷ xs) place none = absurd (none (λ e. absurd cc))

pub returns-then-not-is_match-clause-taken : goal.returns-then-not-is_match-clause-taken
returns-then-not-is_match-clause-taken g c = elim c.then-not-is_match.branch [
  | then-not-is_match-via-then-not-is_match w ↦
      none-after (match_list_at c.args.self.now c.args.rest.state) c.args.rest.index
      (λ some. false≢true (sym w.if-not-is_match.true ∙ c.is_match.ensures.1 some))
  | then-not-is_match-via-else-not-is_match+then-rest-match_len w ↦
      let past = w.if-rest-match_len.true in
      let long = w.match_len.ensures in
      drop_of_length-le (match_list_at c.args.self.now c.args.rest.state) (omega arith)
]

pub returns-clause-taken : goal.returns-clause-taken
returns-clause-taken g c =
    let listed = match_list_at c.args.self.now c.args.rest.state in
    let at = c.match_pattern-pattern.ensures in
    let pattern = c.match_pattern-pattern.result in
    drop_more listed c.args.rest.index pattern (slice_get_within listed c.args.rest.index pattern at)
    ∙ ap (λ (y : ℕ). y ∷ drop (c.args.rest.index + 1) listed)
    (get_or_from_slice_get listed c.args.rest.index pattern pattern at)
