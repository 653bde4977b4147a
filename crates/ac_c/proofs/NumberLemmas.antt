-- A number that stands for something.
use Rattle.ac_util.proofs.Prelude.{◌≡◌, ℕ, true, List, length, nat_lt, Some, slice_get, slice_index_or, lt-ltb, get_or_from_slice_get, slice_get_within}

-- what a list has at a number is what the number stands for
pub named : {X : Type 0} (xs : List X) (n : ℕ) (x other : X) → slice_get xs n ≡ Some x
    → (nat_lt n (length xs) ≡ true) × (slice_index_or xs n other ≡ x)
named xs n x other at = (lt-ltb n (length xs) (slice_get_within xs n x at), get_or_from_slice_get xs n x other at)
