use Rattle.ac_util.proofs.Lying.{find_result-lies}
use Rattle.ac_util.proofs.laws.answers.matches_lie_inside.Goals as goal

pub returns-clause-find : goal.returns-clause-find
returns-clause-find c = find_result-lies
