use Rattle.ac_c.proofs.StreamSteps.{ended-gives-all}
use Rattle.ac_c.proofs.laws.streams_end_with_all.Goals as goal

pub returns : goal.returns
returns c = ended-gives-all
