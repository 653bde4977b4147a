-- What calls of `next` give, one after another, of a walk and of a listing.
use Rattle.ac_util.proofs.Prelude.{ap, length}
use Rattle.ac_automaton.specs.Prelude.{GoesOn, ListsNext}
use Rattle.std.specs.Iterator.Runs.{YieldsInOrder}
use Rattle.std.proofs.iter.runs.Sources.{as_is, from_front}

-- the matches that were left, in order
pub goes_on-runs : YieldsInOrder GoesOn (λ w. w.rest)
goes_on-runs p seen =
    as_is p p.from.rest
    (from_front GoesOn (λ x. x) (λ w. w.rest) (λ s t h. ap length h.gives.0) (λ s x t h. h.gives) p seen)

-- the items of the listing that were left, in order
pub lists-runs : YieldsInOrder ListsNext (λ l. l.rest)
lists-runs p seen =
    as_is p p.from.rest
    (from_front ListsNext (λ x. x) (λ l. l.rest) (λ s t h. ap length h.gives.0) (λ s x t h. h.gives) p seen)
