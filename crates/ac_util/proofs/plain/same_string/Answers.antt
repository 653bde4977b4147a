use Rattle.ac_util.proofs.Prelude.{rules, false≢true}
use Rattle.ac_util.proofs.SamenessLemmas.{IsSame-at, IsSame-from_places}
use Rattle.ac_util.proofs.plain.same_string.Goals as goal

-- two places differ
pub returns-then-plain_byte : goal.returns-then-plain_byte
returns-then-plain_byte c = search (rules, IsSame-at, false≢true)

-- no places differ
pub returns : goal.returns
returns c = search (rules, IsSame-from_places)
