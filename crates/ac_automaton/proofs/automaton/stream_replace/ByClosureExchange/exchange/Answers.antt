use Rattle.ac_util.proofs.Prelude.{refl, Ok, Err}
use Rattle.ac_automaton.proofs.automaton.stream_replace.ByClosureExchange.exchange.Goals as goal

pub returns-in-Ok-clause-calls : goal.returns-in-Ok-clause-calls
returns-in-Ok-clause-calls g c = (
  Ok c.in-Ok.field-0,
  record { found = _; text = _; before = _; after = _; shows = (refl, refl, refl); called = c.in-Ok.ensures; leaves = refl },
  refl,
)

pub returns-in-Err-clause-calls : goal.returns-in-Err-clause-calls
returns-in-Err-clause-calls g c = (
  Err c.in-Err.e,
  record { found = _; text = _; before = _; after = _; shows = (refl, refl, refl); called = c.in-Err.ensures; leaves = refl },
  refl,
)
