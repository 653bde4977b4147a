use Rattle.ac_util.proofs.Prelude.{◌≡◌, ◌≤◌, ◌-◌, length, take}
use Rattle.std.specs.Io.KnownBytes.{Appends}
use Rattle.ac_util.proofs.device.write_all.Given as goal

abbrev pub invariant-loop-at : goal.invariant-loop-at
invariant-loop-at g l =
    let told = g.W.Sink.told in
    record {
      within : l.at ≤ length l.bytes;
      moved : Appends (told l.fn.writer).written (told l.writer).written (take l.at l.bytes);
      failed : (told l.writer).failed ≡ (told l.fn.writer).failed;
      idles : (told l.writer).idles ≡ (told l.fn.writer).idles;
      blanks : (told l.writer).blanks ≡ (told l.fn.writer).blanks;
    }

abbrev pub decreases-loop-at : goal.decreases-loop-at
decreases-loop-at g l = length l.bytes - l.at
