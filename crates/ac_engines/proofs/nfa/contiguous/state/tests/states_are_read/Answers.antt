use Rattle.ac_util.proofs.Prelude.{[], ◌∷◌, arith}
use Rattle.ac_engines.specs.Prelude.{Dense, One, Sparse}
use Rattle.ac_engines.proofs.MatchWords.{has-some}
use Rattle.ac_engines.proofs.Vectors.{bare-begins, dense-begins, five_edges, no_edges, one-begins, one_edge, sparse-begins, three_classes}
use Rattle.ac_engines.proofs.nfa.contiguous.state.tests.states_are_read.Goals as goal

-- five transitions and one match
pub leads-requires : goal.leads-requires
leads-requires g c = (Sparse, five_edges, sparse-begins)

pub lists-requires : goal.lists-requires
lists-requires g c = (Sparse, five_edges, sparse-begins, has-some (6 ∷ []) 0 (omega arith))

-- one transition
pub leads-requires-2 : goal.leads-requires-2
leads-requires-2 g c = (One, one_edge, one-begins)

-- three classes and three matches
pub leads-requires-3 : goal.leads-requires-3
leads-requires-3 g c = (Dense, three_classes, dense-begins)

pub lists-requires-2 : goal.lists-requires-2
lists-requires-2 g c = (Dense, three_classes, dense-begins, has-some (6 ∷ 2 ∷ 9 ∷ []) 0 (omega arith))

-- no transition and one match
pub leads-requires-4 : goal.leads-requires-4
leads-requires-4 g c = (Sparse, no_edges, bare-begins)

pub lists-requires-3 : goal.lists-requires-3
lists-requires-3 g c = (Sparse, no_edges, bare-begins, has-some (0 ∷ []) 0 (omega arith))
