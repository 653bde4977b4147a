use Rattle.ac_util.proofs.Prelude.{false, ap, rules}
use Rattle.ac_util.specs.Prelude.{plain}
use Rattle.ac_util.proofs.SamenessLemmas.{IsSame-length, IsSame-tested, IsSame-from_tests, IsSame-equal}
use Rattle.ac_util.proofs.laws.answers.sameness_is_by_letter.Goals as goal

pub returns-clause-strings : goal.returns-clause-strings
returns-clause-strings c = search (rules, IsSame-from_tests, IsSame-length, IsSame-tested)

pub returns-clause-counted : goal.returns-clause-counted
returns-clause-counted c = λ s t. (IsSame-equal s t, λ h. ap (plain false) h)
