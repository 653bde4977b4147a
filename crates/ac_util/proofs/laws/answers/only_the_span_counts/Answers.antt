use Rattle.ac_util.proofs.Spans.{Occurs-from_cut, Occurs-to_cut}
use Rattle.ac_util.proofs.laws.answers.only_the_span_counts.Goals as goal

pub returns-clause-cut : goal.returns-clause-cut
returns-clause-cut c = λ q m order. (Occurs-from_cut q m order, Occurs-to_cut q m order)
