-- The states after the starts, and the strings that they stand for.
use Rattle.ac_util.proofs.Prelude.{◌≡◌, ◌≢◌, ℕ, ◌≤◌, List, [], ◌∷◌, Some, refl, ◌∙◌, slice_get, slice_get_within}
use Rattle.ac_engines.specs.Prelude.{Node, AreNodes, Trie}
use Rattle.ac_engines.proofs.Numbered.{inner-string}

-- the node is a string that isn't empty
pub record IsLong (u : Node) : Type 0 where
  pub first : ℕ
  pub rest : List ℕ
  pub node : u ≡ Some (first ∷ rest)

-- a string that isn't empty has a first byte
long-string : (w : List ℕ) → w ≢ [] → IsLong (Some w)
long-string [] some = absurd (some refl)
long-string (x ∷ w) some = record { first = x; rest = w; node = refl }

-- a state after the starts stands for a string that isn't empty
pub inner-long : (trie : Trie) (nodes : List Node) (s : ℕ) (u : Node) → AreNodes trie nodes → 4 ≤ s
    → slice_get nodes s ≡ Some u → IsLong u
inner-long trie nodes s u h inner named =
    let (w, at) = h.numbered.node s inner (slice_get_within nodes s u named) in
    let long = long-string w (inner-string trie nodes h s w inner at.named) in
    let there = at.named in
    let same : u ≡ Some w = cc in
    record { first = long.first; rest = long.rest; node = same ∙ long.node }
