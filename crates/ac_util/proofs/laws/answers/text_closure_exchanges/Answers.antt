use Rattle.ac_util.specs.Prelude.{Calls, ReplaceError}
use Rattle.ac_util.proofs.ReplacementLemmas.{closure-leaves}
use Rattle.ac_util.proofs.laws.answers.text_closure_exchanges.Goals as goal

pub returns : goal.returns
returns g c = closure-leaves ReplaceError (Calls g.F.FnMut)
