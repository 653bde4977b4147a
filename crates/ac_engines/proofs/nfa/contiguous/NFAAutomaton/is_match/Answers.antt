use Rattle.ac_util.proofs.Prelude.{ap, arith, lt-ltb, ltb-true}
use Rattle.ac_engines.specs.Prelude.{ContiguousView}
use Rattle.ac_engines.proofs.PackedNumbers.{match-number}
use Rattle.ac_engines.proofs.nfa.contiguous.NFAAutomaton.is_match.Goals as goal

-- a number after 0 and before the end of the matches' is that of a match state
pub returns-then-as_usize-gt-DEAD : goal.returns-then-as_usize-gt-DEAD
returns-then-as_usize-gt-DEAD g c =
    let (anchored, (u, stands)) = c.requires.state in
    let number = match-number c.args.self.now anchored c.args.sid u stands in
    let end = ap (λ (p : ContiguousView). p.match_end) c.self.view_is in
    let value = c.as_usize.ensures.value in
    let other = c.as_usize-then-as_usize-gt-DEAD.ensures.value in
    let positive = c.if-as_usize-gt-DEAD.true in (
      λ is-true.
          let below = ltb-true c.as_usize-then-as_usize-gt-DEAD.result c.self.inside.match_end is-true in
          number.1 (omega arith, λ zero. absurd (omega arith)),
      λ some.
          let within = number.0 some in
          let below = within.0 in
          lt-ltb c.as_usize-then-as_usize-gt-DEAD.result c.self.inside.match_end (omega arith),
    )
