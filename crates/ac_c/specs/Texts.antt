-- Texts that stand one after another in some bytes, each up to its end.
use Rattle.std.specs.Prelude.{ℕ, Bool, true, ◌&&◌, List, [], ◌∷◌, nat_le, slice_range}

-- from a start on, the ends rise and stay within so many bytes
abbrev pub are_ends : ℕ → ℕ → List ℕ → Bool
are_ends len start [] = true
are_ends len start (end ∷ ends) = nat_le start end && nat_le end len && are_ends len end ends

-- the texts up to these ends, the first of which begins at the start
abbrev pub texts_in : List ℕ → ℕ → List ℕ → List (List ℕ)
texts_in bytes start [] = []
texts_in bytes start (end ∷ ends) = slice_range bytes start end ∷ texts_in bytes end ends
