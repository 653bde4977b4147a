-- Line feeds that are counted from one match to the next.
use Rattle.std.proofs.Common.{◌≡◌, ◌∙◌, ℕ, ◌+◌, ◌-◌, ◌≤◌, ◌==◌, List, [], ◌∷◌, ◌++◌, ap, append_assoc, arith, cond, count_by, length, map, slice_range, take}
use Rattle.std.proofs.Math.Seq.{take-add}
use Rattle.std.proofs.lemmas.Grind.{common_steps}
use Rattle.std.proofs.lemmas.List.Sums.{count_by-le-length, sum_by-append}
use Rattle.ac_search.specs.Alike.{StandInOrder}
use Rattle.ac_search.specs.Occurrence.{Occurrence}
use Rattle.examples.specs.Callers.{line_at}

-- as many as there are up to an offset, and from there to a later one
pub line-more : (bytes : List ℕ) (from to : ℕ) → from ≤ to
    → line_at bytes to ≡ line_at bytes from + count_by (λ b. b == 10) (slice_range bytes from to)
line-more bytes from to less =
    ap (line_at bytes) (omega arith) ∙ ap (count_by (λ b. b == 10)) (take-add from (to - from) bytes)
    ∙ sum_by-append (λ b. cond (b == 10) 1 0) (take from bytes) (slice_range bytes from to)

-- no more than there are bytes
pub line-few : (bytes : List ℕ) (offset : ℕ) → line_at bytes offset ≤ length bytes
line-few bytes offset =
    let few = count_by-le-length (λ (b : ℕ). b == 10) (take offset bytes) in grind (arith, common_steps)

-- matches that stand in order from an offset on do so from an earlier one
pub earlier : (low later high : ℕ) (ms : List Occurrence) → low ≤ later → StandInOrder later high ms → StandInOrder low high ms
earlier low later high [] less order = tt
earlier low later high (m ∷ ms) less order = (omega arith, order.1, order.2, order.3)

-- what is counted from one offset to the next is added
pub counted-on : (bytes : List ℕ) (line from to feeds : ℕ) → line ≡ line_at bytes from → from ≤ to
    → feeds ≡ count_by (λ b. b == 10) (slice_range bytes from to) → line + feeds ≡ line_at bytes to
counted-on bytes line from to feeds is less counts = let more = line-more bytes from to less in grind (arith, common_steps)

-- the number of a match was added
pub numbered-on : (number : Occurrence → ℕ) (numbers : List ℕ) (m : Occurrence) (left : List Occurrence) (n : ℕ) → n ≡ number m
    → (numbers ++ n ∷ []) ++ map number left ≡ numbers ++ map number (m ∷ left)
numbered-on number numbers m left n is = append_assoc numbers (n ∷ []) (map number left) ∙ ap (λ (k : ℕ). numbers ++ k ∷ map number left) is
