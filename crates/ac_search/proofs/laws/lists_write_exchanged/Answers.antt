use Rattle.ac_util.proofs.StreamExchanges.{unchanged-begins}
use Rattle.ac_search.proofs.StreamsWritten.{lists-by_length, lists-write}
use Rattle.ac_search.proofs.laws.lists_write_exchanged.Goals as goal

pub returns-clause-texts : goal.returns-clause-texts
returns-clause-texts g c = lists-write g.R.Source.empty_means_end g.R.Source.told g.W.Sink.told

pub returns-clause-by_length : goal.returns-clause-by_length
returns-clause-by_length g c = lists-by_length g.R.Source.empty_means_end g.R.Source.told g.W.Sink.told

pub returns-clause-unchanged : goal.returns-clause-unchanged
returns-clause-unchanged g c built write reader writer =
    unchanged-begins built write g.R.Source.empty_means_end (g.R.Source.told reader) (g.W.Sink.told writer)
