-- A root table has an entry more for each byte that is followed from the start.
use Rattle.ac_util.proofs.Prelude.{◌≡◌, ℕ, ◌+◌, ◌<◌, List, [], ◌∷◌, ◌++◌, length, arith, slice_index, common_steps}
use Rattle.ac_automaton.specs.Prelude.{IsRootEntry, State, Transition}

-- the entries below n and one for n are those below n + 1
pub entries-push : (transitions : List Transition) (states : List State) (root : List ℕ) (n next : ℕ)
    → length root ≡ n
    → ((b : ℕ) → b < n → IsRootEntry transitions states b (slice_index root b))
    → IsRootEntry transitions states n next
    → (b : ℕ) → b < n + 1 → IsRootEntry transitions states b (slice_index (root ++ next ∷ []) b)
entries-push transitions states root n next whole below here b small = grind (arith, common_steps)
