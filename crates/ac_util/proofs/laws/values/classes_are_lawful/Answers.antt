use Rattle.ac_util.proofs.ClassLemmas.{class_of-lawful}
use Rattle.ac_util.proofs.ClassLists.{classes_of-lawful, singletons-lawful}
use Rattle.ac_util.proofs.laws.values.classes_are_lawful.Goals as goal

pub returns-clause-of_patterns : goal.returns-clause-of_patterns
returns-clause-of_patterns c = λ ignores_case kind patterns. class_of-lawful ignores_case patterns kind

pub returns-clause-of_patterns_read : goal.returns-clause-of_patterns_read
returns-clause-of_patterns_read c = λ ignores_case kind patterns. classes_of-lawful ignores_case patterns kind

pub returns-clause-singletons_read : goal.returns-clause-singletons_read
returns-clause-singletons_read c = λ ignores_case kind patterns. singletons-lawful ignores_case patterns kind
