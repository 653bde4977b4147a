-- Pieces of a list: how many there are, where each stands, and how one more is added.
use Rattle.ac_util.proofs.Prelude.{◌≡◌, ℕ, zero, suc, ◌+◌, ◌<◌, ◌≤◌, List, [], ◌∷◌, ◌++◌, length, get_or, refl, arith, Some, length-append, slice_get, slice_range, rules, common_steps}
use Rattle.ac_util.specs.Prelude.{AreBounds, pieces}

-- a list that bounds has one more than there are pieces
pub length-pieces : {X : Type 0} (items : List X) (bounds : List ℕ) (last : ℕ) → AreBounds bounds last
    → length (pieces items bounds) + 1 ≡ length bounds
length-pieces items [] last h = absurd h
length-pieces items (b ∷ []) last h = omega arith
length-pieces items (b ∷ e ∷ es) last h = let l = length-pieces items (e ∷ es) last h.1 in omega arith

-- a piece ends no earlier than it starts, and within the last place
pub record IsPiece (bounds : List ℕ) (last i j : ℕ) : Type 0 where
  pub ordered : get_or bounds i 0 ≤ get_or bounds j 0
  pub within : get_or bounds j 0 ≤ last

-- each bound is no greater than the next one
pub bounds-rise : (bounds : List ℕ) (last i j : ℕ) → AreBounds bounds last → j ≡ suc i → j < length bounds
    → IsPiece bounds last i j
bounds-rise [] last i j h next within = absurd h
bounds-rise (b ∷ []) last i j h next within = absurd (omega arith)
bounds-rise (b ∷ e ∷ []) last zero (suc zero) h next within = grind (arith, common_steps)
bounds-rise (b ∷ e ∷ f ∷ es) last zero (suc zero) h next within =
    grind (arith, common_steps, bounds-rise (e ∷ f ∷ es) last 0 1 h.1 refl (omega arith))
bounds-rise (b ∷ e ∷ es) last zero zero h next within = absurd (omega arith)
bounds-rise (b ∷ e ∷ es) last zero (suc (suc j)) h next within = absurd (omega arith)
bounds-rise (b ∷ e ∷ es) last (suc i) zero h next within = absurd (omega arith)
bounds-rise (b ∷ e ∷ es) last (suc i) (suc j) h next within =
    grind (arith, common_steps, bounds-rise (e ∷ es) last i j h.1 (omega arith) (omega arith))

-- the piece of a number stands from its bound up to the next
pub piece-at : {X : Type 0} (items : List X) (bounds : List ℕ) (last i j : ℕ) → AreBounds bounds last → j ≡ suc i
    → j < length bounds → slice_get (pieces items bounds) i ≡ Some (slice_range items (get_or bounds i 0) (get_or bounds j 0))
piece-at items [] last i j h next within = absurd h
piece-at items (b ∷ []) last i j h next within = absurd (omega arith)
piece-at items (b ∷ e ∷ es) last zero (suc zero) h next within = refl
piece-at items (b ∷ e ∷ es) last zero zero h next within = absurd (omega arith)
piece-at items (b ∷ e ∷ es) last zero (suc (suc j)) h next within = absurd (omega arith)
piece-at items (b ∷ e ∷ es) last (suc i) zero h next within = absurd (omega arith)
piece-at items (b ∷ e ∷ es) last (suc i) (suc j) h next within =
    piece-at items (e ∷ es) last i j h.1 (omega arith) (omega arith)

-- a part of the front isn't changed by what is added after
pub slice_range-append : {X : Type 0} (items more : List X) (s e : ℕ) → s ≤ e → e ≤ length items
    → slice_range (items ++ more) s e ≡ slice_range items s e
slice_range-append items more s e ordered within = grind (arith, common_steps)

-- one more bound after the last adds one more piece
pub AreBounds-push : (bounds : List ℕ) (last more : ℕ) → AreBounds bounds last
    → AreBounds (bounds ++ (last + more) ∷ []) (last + more)
AreBounds-push [] last more h = absurd h
AreBounds-push (b ∷ []) last more h = (omega arith, refl)
AreBounds-push (b ∷ e ∷ es) last more h = (h.0, AreBounds-push (e ∷ es) last more h.1)

-- the pieces are then those before and the one that is added
pub pieces-push : {X : Type 0} (items more : List X) (bounds : List ℕ) → AreBounds bounds (length items)
    → pieces (items ++ more) (bounds ++ (length items + length more) ∷ []) ≡ pieces items bounds ++ more ∷ []
pieces-push items more [] h = absurd h
pieces-push items more (b ∷ []) h = grind (arith, common_steps)
pieces-push items more (b ∷ e ∷ es) h =
    grind (arith, common_steps, bounds-rise (b ∷ e ∷ es) (length items) 0 1 h refl (omega arith), pieces-push items more (e ∷ es) h.1)

-- items and a bound are added: there is one piece more
pub one_more_piece : {X : Type 0} (items more items' : List X) (bounds bounds' : List ℕ) (last : ℕ)
    → AreBounds bounds (length items) → items' ≡ items ++ more → last ≡ length items' → bounds' ≡ bounds ++ last ∷ []
    → AreBounds bounds' (length items') × (pieces items' bounds' ≡ pieces items bounds ++ more ∷ [])
one_more_piece items bounds more items' bounds' last h added last_is bounded = search (rules, AreBounds-push, length-append, pieces-push)
