use Rattle.ac_util.proofs.ReplacedCuts.{holds-back}
use Rattle.ac_util.proofs.laws.answers.standard_holds_back.Goals as goal

pub returns : goal.returns
returns c built bytes texts given place standard settled = holds-back built texts bytes given place standard settled
