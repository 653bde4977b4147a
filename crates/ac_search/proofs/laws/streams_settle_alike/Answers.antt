use Rattle.ac_search.proofs.StreamsServed.{all-settled, settled-by}
use Rattle.ac_search.proofs.laws.streams_settle_alike.Goals as goal

pub returns-clause-some : goal.returns-clause-some
returns-clause-some c = λ kind built start. settled-by (record built { start_kind = start }) built.start_kind kind

pub returns-clause-all : goal.returns-clause-all
returns-clause-all c = λ built start. all-settled (record built { start_kind = start }) built.start_kind
