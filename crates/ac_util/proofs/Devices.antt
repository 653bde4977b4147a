-- Reading on, and writing on.
use Rattle.ac_util.proofs.Prelude.{◌≡◌, ◌≢◌, ◌+◌, ◌<◌, ℕ, zero, suc, List, [], ◌∷◌, ◌++◌, length, take, drop, ap, refl, arith, Bool, Option, slice_range, rules, nat_tests, length-take-le, take-add, common_steps}
use Rattle.ac_util.specs.Prelude.{Writing, WritesAll, FailsToRead, blank, idle, Reading, ReadsAll, ReadsSome, StreamError}
use Rattle.std.specs.Io.{StartsWith}
use Rattle.std.specs.Io.KnownBytes.{Appends}
use Rattle.std.proofs.KnownBytes.{Appends-trans}

-- what was written so far with what a write has taken
pub append-more : (a b c : Option (List ℕ)) (bytes : List ℕ) (at n : ℕ)
    → Appends a b (take at bytes) → Appends b c (take n (drop at bytes)) → Appends a c (take (at + n) bytes)
append-more a b c bytes at n p q = search (rules, Appends-trans, take-add)

-- the first bytes are a beginning
pub beginning : (at : ℕ) (bytes : List ℕ) → StartsWith bytes (take at bytes)
beginning zero bytes = refl
beginning (suc at) [] = refl
beginning (suc at) (x ∷ bytes) = ap (λ (w : List ℕ). x ∷ w) (beginning at bytes)

-- they are fewer than there are
pub take-short : (at : ℕ) (bytes : List ℕ) → at < length bytes → length (take at bytes) < length bytes
take-short at bytes less = let l = length-take-le at bytes (omega arith) in omega arith

-- a write that took something wasn't idle
pub not-idle : (n room : ℕ) → n ≢ 0 → idle n room ≡ 0
not-idle n room some = grind (arith, nat_tests)

-- a call that has room isn't blank
pub not-blank : (room : ℕ) → room ≢ 0 → blank room ≡ 0
not-blank room some = grind (arith, nat_tests)

-- what is left of the bytes from a place on
pub rest-range : (at : ℕ) (bytes : List ℕ) → slice_range bytes at (length bytes) ≡ drop at bytes
rest-range at bytes = grind (arith, common_steps)

module _ {old between new : Reading} {bytes more : List ℕ} (reads : ReadsSome old between bytes) where
  -- some bytes came, and then some more
  pub reads-on : ReadsSome between new more → ReadsSome old new (bytes ++ more)
  reads-on later = grind (arith, common_steps)

  -- or all that there were
  pub reads-out : {ends : Bool} → ReadsAll ends between new more → ReadsAll ends old new (bytes ++ more)
  reads-out later = grind (arith, common_steps)

-- bytes came, and then a read has failed, or brought more than usize counts
pub fails-on : {old between : Reading} (new : Reading) (seen total : ℕ) (bytes : List ℕ) → total ≡ seen + length bytes
    → ReadsSome old between bytes → (e : StreamError) → FailsToRead total between new [] e
    → FailsToRead seen old new bytes e
fails-on {old} {between} new seen total bytes sum reads e fails = grind (arith, common_steps)

-- some bytes were written, and then some more
pub writes-join : (a b c : Writing) (xs ys : List ℕ) → WritesAll a b xs → WritesAll b c ys → WritesAll a c (xs ++ ys)
writes-join a b c xs ys first second = grind (arith, common_steps)
