-- How many texts there are.
use Rattle.ac_util.proofs.Prelude.{◌≡◌, ℕ, suc, List, [], ◌∷◌, length, refl, sym, ap, ◌∙◌, Bor, length-map}
use Rattle.ac_search.specs.Patterns.{bytes_of}
use Rattle.ac_c.specs.Texts.{texts_in}

-- a text for each end
pub length-texts_in : (bytes : List ℕ) (start : ℕ) (ends : List ℕ) → length (texts_in bytes start ends) ≡ length ends
length-texts_in bytes start [] = refl
length-texts_in bytes start (end ∷ ends) = ap suc (length-texts_in bytes end ends)

-- so as many texts stand in the bytes as ends were given
pub count-texts : (bytes ends : List ℕ) (texts : List (Bor (List ℕ))) → bytes_of texts ≡ texts_in bytes 0 ends
    → length texts ≡ length ends
count-texts bytes ends texts e =
    sym (length-map texts (λ (text : Bor (List ℕ)). text.now)) ∙ ap (λ (ts : List (List ℕ)). length ts) e
    ∙ length-texts_in bytes 0 ends
