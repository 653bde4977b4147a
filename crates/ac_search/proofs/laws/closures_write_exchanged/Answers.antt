use Rattle.ac_util.proofs.StreamExchanges.{unchanged-begins}
use Rattle.ac_search.proofs.StreamsWritten.{closures-write}
use Rattle.ac_search.proofs.laws.closures_write_exchanged.Goals as goal

pub returns-clause-closure : goal.returns-clause-closure
returns-clause-closure g c =
    closures-write g.R.Source.empty_means_end g.R.Source.told g.W.Sink.told g.F.FnMut

pub returns-clause-unchanged : goal.returns-clause-unchanged
returns-clause-unchanged g c built write reader writer =
    unchanged-begins built write g.R.Source.empty_means_end (g.R.Source.told reader) (g.W.Sink.told writer)
