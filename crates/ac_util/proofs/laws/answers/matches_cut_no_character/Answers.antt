use Rattle.ac_util.proofs.TextCuts.{lies-between}
use Rattle.ac_util.proofs.laws.answers.matches_cut_no_character.Goals as goal

pub returns : goal.returns
returns c = lies-between
