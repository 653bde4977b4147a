-- What a read and a write do, and what many of them do: which bytes move, and which counts rise.
use Rattle.std.specs.Prelude.{◌≡◌, ℕ, ◌+◌, ◌<◌, ◌≤◌, Bool, true, ◌&&◌, ◌==◌, nat_lt, List, ◌++◌, length, take, Option, Some, Result, MatchResult, if◌then◌else◌}
use Rattle.std.specs.Io.{StartsWith}
use Rattle.std.specs.IoError.{error_kind}
use Rattle.std.specs.declared.io.Error.{Error}
use Rattle.std.specs.declared.io.ErrorKind.TheVariants.{WriteZero as OfKindWriteZero}
use Rattle.std.specs.Io.KnownBytes.{Consumes, IsAtEnd, Appends}
use Rattle.ac_util.specs.declared.device.WriteError.{WriteError}
use Rattle.ac_util.specs.declared.device.WriteError.TheVariants.{Io, WriteZero}
use Rattle.ac_util.specs.Patterns.{usize_max}

-- what is noted of the calls of a reader or a writer: how many failed, and the error of the last one; how many moved no byte
-- though there was room; and how many had no room
pub record Missed : Type 0 where
  pub failed : ℕ
  pub error : Option Error
  pub idles : ℕ
  pub blanks : ℕ

-- the bytes that a reader has left, if it reports them; how many of its calls failed, and the error of the last one; how
-- many reads into a slice that isn't empty gave no byte; and how many were into an empty slice
pub record Reading : Type 0 where
  pub left : Option (List ℕ)
  pub failed : ℕ
  pub error : Option Error
  pub empties : ℕ
  pub blanks : ℕ

-- the bytes that were written, if the writer reports them; how many of its calls failed, and the error of the last one;
-- how many writes of a piece that isn't empty took no byte; and how many were of an empty piece
pub record Writing : Type 0 where
  pub written : Option (List ℕ)
  pub failed : ℕ
  pub error : Option Error
  pub idles : ℕ
  pub blanks : ℕ

-- 1 where nothing moved though there was room, else 0
abbrev pub idle : ℕ → ℕ → ℕ
idle moved room = if moved == 0 && nat_lt 0 room then 1 else 0

-- 1 where there was no room, else 0
abbrev pub blank : ℕ → ℕ
blank room = if room == 0 then 1 else 0

-- n bytes came and are the first ones of `into`. Where `ends` is true, a slice that isn't empty gets none
-- only at the end of the bytes
pub record Took (ends : Bool) (old new : Reading) (into : List ℕ) (n : ℕ) : Type 0 where
  pub within : n ≤ length into
  pub moved : Consumes old.left new.left (take n into)
  pub ended : ends ≡ true → n ≡ 0 → 0 < length into → IsAtEnd new.left
  pub failed : new.failed ≡ old.failed
  pub empties : new.empties ≡ old.empties + idle n (length into)
  pub blanks : new.blanks ≡ old.blanks + blank (length into)

-- a read answered r: it took what r says, or it failed, and nothing changed but the counts of failures and of calls without
-- room, and the last error
abbrev pub Reads : Bool → Reading → Reading → Result ℕ Error → List ℕ → Type 0
Reads ends old new r into =
    MatchResult r (Took ends old new into)
    (λ e. new ≡ record old { failed = old.failed + 1; error = Some e; blanks = old.blanks + blank (length into) })

-- the first n bytes of the piece went over
pub record Gave (old new : Writing) (piece : List ℕ) (n : ℕ) : Type 0 where
  pub within : n ≤ length piece
  pub moved : Appends old.written new.written (take n piece)
  pub failed : new.failed ≡ old.failed
  pub idles : new.idles ≡ old.idles + idle n (length piece)
  pub blanks : new.blanks ≡ old.blanks + blank (length piece)

-- a write answered r: it gave what r says, or it failed, and nothing changed but the counts of failures and of calls without
-- room, and the last error
abbrev pub Writes : Writing → Writing → Result ℕ Error → List ℕ → Type 0
Writes old new r piece =
    MatchResult r (Gave old new piece)
    (λ e. new ≡ record old { failed = old.failed + 1; error = Some e; blanks = old.blanks + blank (length piece) })

-- the bytes came, by reads of which each had room and gave some
pub record ReadsSome (old new : Reading) (bytes : List ℕ) : Type 0 where
  pub moved : Consumes old.left new.left bytes
  pub failed : new.failed ≡ old.failed
  pub empties : new.empties ≡ old.empties
  pub blanks : new.blanks ≡ old.blanks

-- the bytes are all that the reader gave up to the first read that gave none, where it was asked no more; no read failed,
-- and each had room. Where `ends` is true they are all that it had left
pub record ReadsAll (ends : Bool) (old new : Reading) (bytes : List ℕ) : Type 0 where
  pub moved : Consumes old.left new.left bytes
  pub ended : ends ≡ true → IsAtEnd new.left
  pub failed : new.failed ≡ old.failed
  pub empties : new.empties ≡ old.empties + 1
  pub blanks : new.blanks ≡ old.blanks

-- the bytes came, by reads of which each gave some, and then a read has failed with this error; each had room
pub record ReadsUntilFailure (old new : Reading) (bytes : List ℕ) (e : Error) : Type 0 where
  pub moved : Consumes old.left new.left bytes
  pub failed : new.failed ≡ old.failed + 1
  pub error : new.error ≡ Some e
  pub empties : new.empties ≡ old.empties
  pub blanks : new.blanks ≡ old.blanks

-- the bytes came, and then a read gave so many that usize doesn't count all of them and those `seen` before; each had room
pub record ReadsTooMany (seen : ℕ) (old new : Reading) (bytes : List ℕ) : Type 0 where
  pub lost : List ℕ
  pub too_many : usize_max < seen + length bytes + length lost
  pub moved : Consumes old.left new.left (bytes ++ lost)
  pub failed : new.failed ≡ old.failed
  pub empties : new.empties ≡ old.empties
  pub blanks : new.blanks ≡ old.blanks

-- the bytes were all written: no write failed, none took nothing, and none was of an empty piece
pub record WritesAll (old new : Writing) (bytes : List ℕ) : Type 0 where
  pub moved : Appends old.written new.written bytes
  pub failed : new.failed ≡ old.failed
  pub idles : new.idles ≡ old.idles
  pub blanks : new.blanks ≡ old.blanks

-- a beginning of the bytes was written, and not all of them; no write was of an empty piece
pub record WritesSome (old new : Writing) (bytes : List ℕ) : Type 0 where
  pub part : List ℕ
  pub begins : StartsWith bytes part
  pub left_out : length part < length bytes
  pub moved : Appends old.written new.written part
  pub blanks : new.blanks ≡ old.blanks

-- one write has failed with the error in it, or one took nothing
abbrev pub HasCause : Writing → Writing → WriteError → Type 0
HasCause old new (Io e) = (new.failed ≡ old.failed + 1) × (new.error ≡ Some e) × (new.idles ≡ old.idles)
HasCause old new WriteZero = (new.failed ≡ old.failed) × (new.idles ≡ old.idles + 1)

-- the error is that of the write that failed, or its kind says that a write took nothing
abbrev pub IsIoErrorOf : WriteError → Error → Type 0
IsIoErrorOf (Io e) error = error ≡ e
IsIoErrorOf WriteZero error = error_kind error ≡ OfKindWriteZero

-- a beginning of the bytes was written, and then a write has failed or took nothing
pub record WritesUntilFailure (old new : Writing) (bytes : List ℕ) (e : WriteError) : Type 0 where
  pub some : WritesSome old new bytes
  pub cause : HasCause old new e

-- a beginning of the bytes was written, or all of them
pub record WritesBeginning (old new : Writing) (bytes : List ℕ) : Type 0 where
  pub part : List ℕ
  pub rest : List ℕ
  pub whole : bytes ≡ part ++ rest
  pub moved : Appends old.written new.written part
