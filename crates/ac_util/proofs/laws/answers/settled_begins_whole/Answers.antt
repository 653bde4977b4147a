use Rattle.ac_util.proofs.ReplacedCuts.{settled-begins}
use Rattle.ac_util.proofs.laws.answers.settled_begins_whole.Goals as goal

pub returns : goal.returns
returns c built write bytes more given place some settled = settled-begins built write bytes more given place some settled
