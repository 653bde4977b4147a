use Rattle.ac_util.proofs.Prelude.{arith, take-append_seam, common_steps}
use Rattle.ac_util.specs.Prelude.{stream_result}
use Rattle.ac_util.proofs.GoesOn.{stream_result-begins}
use Rattle.ac_util.proofs.laws.answers.stream_goes_on.Goals as goal

pub returns : goal.returns
returns c built bytes more standard = grind (arith, common_steps, stream_result-begins built standard bytes more, take-append_seam (stream_result built bytes) (stream_result-begins built standard bytes more).0)
