use Rattle.ac_util.proofs.Prelude.{List, ℕ, subst, sym, arith}
use Rattle.ac_engines.specs.Prelude.{BeginsWith}
use Rattle.ac_engines.proofs.nfa.contiguous.state.tests.lists.Goals as goal

-- the state has as many matches as are wanted
pub match_pattern-requires : goal.match_pattern-requires
match_pattern-requires c =
    let (format, s, spelled, some) = c.requires in
    let begins = subst (λ (ns : List ℕ). BeginsWith ns format c.args.classes s) (sym c.at-state.ensures) spelled in
    let many = c.match_len.ensures format s begins some in
    let wanted = c.if-match_len-matches.false in
    let below = c.loop-index-test.true in
    (format, s, begins, omega (arith, many, wanted, below))
