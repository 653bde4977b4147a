-- Words in pairs: how the first of them, and the second, are gathered pair by pair.
use mir.Val.{bool_byte}
use Rattle.std.proofs.Common.{◌≡◌, ℕ, Bool, false, true, suc, List, [], ◌∷◌, ◌++◌, length, get_or, ap, refl, arith, rules}
use Rattle.std.proofs.lemmas.List.{length-map}
use Rattle.std.specs.Borrow.{Bor}
use Rattle.std.proofs.lemmas.Grind.{common_steps}
use Rattle.ac_search.specs.Patterns.{bytes_of}
use Rattle.acs.specs.Requests.{firsts, seconds, side}

-- there are as many second words as first ones
pub length-seconds : (words : List (List ℕ)) → length (seconds words) ≡ length (firsts words)
length-seconds [] = refl
length-seconds (first ∷ []) = refl
length-seconds (first ∷ second ∷ words) = ap (λ (n : ℕ). suc n) (length-seconds words)

-- a word of a pair stands before those of the later pairs
pub side-pair : (second : Bool) (place : ℕ) (words pair later : List (Bor (List ℕ))) (none : Bor (List ℕ)) (text : List ℕ)
    → place ≡ bool_byte second → words ≡ pair ++ later → length pair ≡ 2 → text ≡ (get_or pair place none).now
    → side second (bytes_of words) ≡ text ∷ side second (bytes_of later)
side-pair second place words [] later none text at parted two is = absurd (omega arith)
side-pair second place words (a ∷ []) later none text at parted two is = absurd (omega arith)
side-pair false place words (a ∷ b ∷ []) later none text at parted two is = grind (arith, common_steps)
side-pair true place words (a ∷ b ∷ []) later none text at parted two is = grind (arith, common_steps)
side-pair second place words (a ∷ b ∷ c ∷ pair) later none text at parted two is = absurd (omega arith)

-- one more word is gathered of all that there are
pub gathered-more : (old new : List (Bor (List ℕ))) (word : Bor (List ℕ)) (rest later all : List (List ℕ))
    → new ≡ old ++ word ∷ [] → rest ≡ word.now ∷ later → bytes_of old ++ rest ≡ all → bytes_of new ++ later ≡ all
gathered-more old new word rest later all is first so_far = grind (arith, common_steps)

-- there is a text for each pattern
pub texts-fit : (words over : List (List ℕ)) (texts : List (Bor (List ℕ))) → bytes_of texts ≡ seconds words
    → over ≡ firsts words → length texts ≡ length over
texts-fit words over texts are is = search (rules, length-map, length-seconds)
