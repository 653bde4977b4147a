use Rattle.ac_util.proofs.Prelude.{◌≡◌, List, ℕ, subst, sym, arith}
use Rattle.ac_engines.specs.Prelude.{BeginsWith, Sparse}
use Rattle.ac_engines.proofs.Vectors.{five-named, five_edges, sparse-begins, sparse_words}
use Rattle.ac_engines.proofs.nfa.contiguous.state.tests.a_class_leads_to_its_target_or_to_none.Goals as goal

begins : (words : List ℕ) → words ≡ sparse_words → BeginsWith words Sparse 131 five_edges
begins words are = subst (λ (ns : List ℕ). BeginsWith ns Sparse 131 five_edges) (sym are) sparse-begins

pub look-requires : goal.look-requires
look-requires g c = (Sparse, 131, five_edges, begins _ c.at-state.ensures, (five-named, omega arith))

pub look-requires-2 : goal.look-requires-2
look-requires-2 g c = (Sparse, 131, five_edges, begins _ c.at-state.ensures, (five-named, omega arith))

pub fail-requires : goal.fail-requires
fail-requires g c = (Sparse, 131, five_edges, begins _ c.at-state.ensures, tt)
