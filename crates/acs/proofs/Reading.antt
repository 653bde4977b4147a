-- Reads that follow one another.
use Rattle.std.proofs.Common.{◌≢◌, ◌∙◌, ℕ, Bool, List, ◌++◌, length, take, arith}
use Rattle.std.proofs.KnownBytes.{Consumes-trans}
use Rattle.std.proofs.lemmas.Bool.Decides.{nat_tests}
use Rattle.std.proofs.lemmas.Grind.{common_steps}
use Rattle.ac_search.specs.declared.StreamError.{StreamError}
use Rattle.ac_search.specs.declared.StreamError.TheVariants.{Io, Match, Memory, TooLong, WriteZero}
use Rattle.ac_search.specs.Device.{Reading, ReadsSome, Took}
use Rattle.ac_search.specs.Stream.{FailsToRead}

-- some bytes came, and then a read has taken some more
pub reads-more : {ends : Bool} {first before after : Reading} {bytes into : List ℕ} {n : ℕ} → n ≢ 0
    → ReadsSome first before bytes → Took ends before after into n → ReadsSome first after (bytes ++ take n into)
reads-more {ends} {first} {before} {after} {bytes} {into} {n} some reads took =
    record {
      moved = Consumes-trans first.left before.left after.left bytes (take n into) reads.moved took.moved;
      failed = took.failed ∙ reads.failed;
      empties = (let count = took.empties in let so_far = reads.empties in grind (arith, nat_tests));
      blanks = (let count = took.blanks in let so_far = reads.blanks in let room = took.within in grind (arith, nat_tests));
    }

-- some bytes came, and after them a read has failed, or brought more than usize counts
pub fails-after : {first before : Reading} {bytes : List ℕ} (after : Reading) (more : List ℕ) → ReadsSome first before bytes
    → (e : StreamError) → FailsToRead (length bytes) before after more e → FailsToRead 0 first after (bytes ++ more) e
fails-after after more reads (Match m) fails = fails
fails-after after more reads Memory fails = fails
fails-after {first} {before} {bytes} after more reads (Io e) fails = grind (arith, common_steps)
fails-after after more reads WriteZero fails = fails
fails-after {first} {before} {bytes} after more reads TooLong fails = grind (arith, common_steps)
