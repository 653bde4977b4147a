use Rattle.ac_util.proofs.Prelude.{length-drop, arith, rules, common_steps}
use Rattle.ac_util.proofs.Devices.{append-more, beginning, not-idle, rest-range, take-short}
use Rattle.ac_util.proofs.device.write_all.Goals as goal

pub loop-at-preserved : goal.loop-at-preserved
loop-at-preserved g c = search (rules, append-more, length-drop, not-idle, rest-range)

pub returns-in-Err : goal.returns-in-Err
returns-in-Err g c = grind (arith, common_steps, beginning c.loop-at.at c.args.bytes.now, take-short c.loop-at.at c.args.bytes.now (omega (arith, c.loop-at-test.true)))
