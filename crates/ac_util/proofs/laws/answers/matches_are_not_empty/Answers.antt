use Rattle.ac_util.proofs.Prelude.{arith}
use Rattle.ac_util.proofs.Shortest.{none-empty}
use Rattle.ac_util.proofs.laws.answers.matches_are_not_empty.Goals as goal

pub returns : goal.returns
returns c built input m some lie =
    let has = none-empty built.patterns m.pattern some lie.numbered in let long = lie.as_long in omega arith
