use Rattle.ac_util.proofs.Prelude.{rules, append_assoc}
use Rattle.ac_engines.specs.Prelude.{format_words}
use Rattle.ac_engines.proofs.nfa.contiguous.state_fields.push_state.Goals as goal

-- the matches stand after the targets
pub returns-in_ok-push_dense-in-Dense : goal.returns-in_ok-push_dense-in-Dense
unfolding format_words
returns-in_ok-push_dense-in-Dense g c = rw c.in-Dense.is (search (rules, append_assoc))

-- a state with one transition has no matches
pub returns-in-One : goal.returns-in-One
unfolding format_words
returns-in-One g c = rw c.in-One.is c.push_one.ensures

-- the matches stand after the targets
pub returns-in_ok-push_sparse-in-Sparse : goal.returns-in_ok-push_sparse-in-Sparse
unfolding format_words
returns-in_ok-push_sparse-in-Sparse g c = rw c.in-Sparse.is (search (rules, append_assoc))
