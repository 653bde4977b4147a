-- The number of a string's first row is that of its state.
use Rattle.ac_util.proofs.Prelude.{◌≡◌, ◌≢◌, ℕ, zero, suc, ◌<◌, Bool, true, false, List, [], ◌∷◌, length, slice_index_or, refl, ap, ◌∙◌, arith, Some, None, bytes_eq, slice_get, if◌then◌else◌}
use Rattle.ac_engines.specs.Prelude.{Node, first_row_in}
use Rattle.std.proofs.lemmas.Slice.Eq.{bytes_eq-Decides}

-- what a test answers that decides the equality of two strings
taken : (v w : List ℕ) (n m : ℕ) → v ≡ w → (if bytes_eq v w then n else m) ≡ n
taken v w n m same = rw ((bytes_eq-Decides v w).1 same) refl

passed : (v w : List ℕ) (n m : ℕ) (t : Bool) → bytes_eq v w ≡ t → v ≢ w → (if bytes_eq v w then n else m) ≡ m
passed v w n m true e other = absurd (other ((bytes_eq-Decides v w).0 e))
passed v w n m false e other = rw e refl

-- the first state that stands for a string has its number
pub place-at : (nodes : List Node) (numbers : List ℕ) (w : List ℕ) (s : ℕ) → length numbers ≡ length nodes
    → slice_get nodes s ≡ Some (Some w) → ((t : ℕ) → t < s → slice_get nodes t ≢ Some (Some w))
    → first_row_in nodes numbers w ≡ slice_index_or numbers s 0
place-at [] numbers w s long there first = absurd cc
place-at (v ∷ vs) [] w s long there first = absurd (omega arith)
place-at (None ∷ vs) (n ∷ ns) w zero long there first = absurd cc
place-at (None ∷ vs) (n ∷ ns) w (suc s) long there first =
    place-at vs ns w s (omega arith) there (λ t before. first (suc t) (omega arith))
place-at (Some v ∷ vs) (n ∷ ns) w zero long there first = taken v w n (first_row_in vs ns w) cc
place-at (Some v ∷ vs) (n ∷ ns) w (suc s) long there first =
    passed v w n (first_row_in vs ns w) (bytes_eq v w) refl (λ same. first 0 (omega arith) (ap (λ u. Some (Some u)) same))
    ∙ place-at vs ns w s (omega arith) there (λ t before. first (suc t) (omega arith))
