-- Where the matches of a stream that were given and the others are apart.
use Rattle.std.specs.Prelude.{◌≡◌, ℕ, ◌≤◌, List, ◌++◌, drop, length, take}
use Rattle.ac_util.specs.Built.{Built}
use Rattle.ac_util.specs.Replacement.{StartFrom}
use Rattle.ac_util.specs.Stream.{last_end, stream_result}

-- the first so many matches of a stream end by an offset, and the others start no earlier
pub record AreApart (built : Built) (bytes : List ℕ) (given place : ℕ) : Type 0 where
  pub within : place ≤ length bytes
  pub last : last_end (take given (stream_result built bytes)) ≤ place
  pub starts : StartFrom place (drop given (stream_result built bytes))

-- so many of the matches stay the first ones where more of the stream comes, and the others start no earlier than the offset
abbrev pub StaysApart : Built → List ℕ → List ℕ → ℕ → ℕ → Type 0
StaysApart built bytes more given place =
    (take given (stream_result built (bytes ++ more)) ≡ take given (stream_result built bytes))
    × AreApart built (bytes ++ more) given place
