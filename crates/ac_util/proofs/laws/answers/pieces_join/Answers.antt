use Rattle.ac_util.proofs.Devices.{writes-join}
use Rattle.ac_util.proofs.StreamExchanges.{begins-failed, begins-join, begins-longer}
use Rattle.ac_util.proofs.laws.answers.pieces_join.Goals as goal

pub returns-clause-whole : goal.returns-clause-whole
returns-clause-whole c = writes-join

pub returns-clause-begun : goal.returns-clause-begun
returns-clause-begun c = begins-join

pub returns-clause-longer : goal.returns-clause-longer
returns-clause-longer c = begins-longer

pub returns-clause-failed : goal.returns-clause-failed
returns-clause-failed c = begins-failed
