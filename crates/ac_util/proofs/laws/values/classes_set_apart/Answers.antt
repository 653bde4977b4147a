use Rattle.ac_util.proofs.ClassLemmas.{stands-from_node}
use Rattle.ac_util.proofs.ClassLists.{classes_of-set_apart, singletons-set_apart}
use Rattle.ac_util.proofs.laws.values.classes_set_apart.Goals as goal

pub returns-clause-of_patterns : goal.returns-clause-of_patterns
returns-clause-of_patterns c = classes_of-set_apart

pub returns-clause-singletons : goal.returns-clause-singletons
returns-clause-singletons c = singletons-set_apart

pub returns-clause-nodes : goal.returns-clause-nodes
returns-clause-nodes c = λ ignores_case kind patterns u b node. stands-from_node ignores_case patterns kind u b node
