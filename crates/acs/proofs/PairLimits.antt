-- The limits of the first words of pairs, tested pair by pair.
use Rattle.std.proofs.Common.{◌≡◌, ℕ, ◌+◌, ◌-◌, ◌/◌, ◌<◌, ◌≤◌, Bool, true, false, cond, List, [], ◌∷◌, ◌++◌, length, take, ap, refl, sym, arith, Some, None, rules}
use Rattle.std.proofs.lemmas.Bool.{cond-false, cond-true, lt-ltb, le-ltb}
use Rattle.std.specs.Prelude.{nat_lt}
use Rattle.std.specs.Borrow.{Bor}
use Rattle.std.proofs.lemmas.Grind.{common_steps}
use Rattle.ac_search.specs.declared.BuildError.{BuildError}
use Rattle.ac_search.specs.declared.BuildError.TheVariants.{PatternIdOverflow, PatternTooLong}
use Rattle.ac_search.specs.Patterns.{bytes_of, limit_refusal, too_long_from}
use Rattle.ac_search.specs.Numbers.{GREATEST}
use Rattle.acs.specs.Faults.{fault_of}
use Rattle.acs.specs.Requests.{firsts}

-- there is one first word for every two words
length-firsts : (words : List (Bor (List ℕ))) → length (firsts (bytes_of words)) ≡ length words / 2
length-firsts [] = refl
length-firsts (first ∷ []) = refl
length-firsts (first ∷ second ∷ words) = let later = length-firsts words in omega arith

module _ (words : List (Bor (List ℕ))) where
  -- too many pairs are reported as such
  pub limit_refusal-many : GREATEST + 1 < length words / 2 → limit_refusal (firsts (bytes_of words))
      ≡ Some (PatternIdOverflow GREATEST (length (firsts (bytes_of words)) - 1))
  limit_refusal-many many = search (rules, cond-true, length-firsts, lt-ltb)

  -- of fewer it is reported whether one is too long
  pub limit_refusal-few : length words / 2 ≤ GREATEST + 1
      → limit_refusal (firsts (bytes_of words)) ≡ too_long_from 0 (firsts (bytes_of words))
  limit_refusal-few few = search (rules, cond-false, le-ltb, length-firsts)

-- whether a word is too long is the same in a list and alone, but for its number
module _ (number : ℕ) (word : List ℕ) (words : List (List ℕ)) where
  pub too_long-next : limit_refusal (word ∷ []) ≡ None → too_long_from number (word ∷ words) ≡ too_long_from (number + 1) words
  too_long-next none = grind (arith, common_steps)

  pub too_long-here : (e : BuildError) → limit_refusal (word ∷ []) ≡ Some e
      → (told : BuildError) × (too_long_from number (word ∷ words) ≡ Some told) × (fault_of e ≡ fault_of told)
  too_long-here e some = by (nat_lt GREATEST (length word)) some
    where
      by : (t : Bool) → cond t (Some (PatternTooLong 0 (length word))) None ≡ Some e
          → (told : BuildError) × (cond t (Some (PatternTooLong number (length word))) (too_long_from (number + 1) words) ≡ Some told)
          × (fault_of e ≡ fault_of told)
      by true h =
          let same : PatternTooLong 0 (length word) ≡ e = cc in
          (PatternTooLong number (length word), refl, sym (ap fault_of same))
      by false h = absurd (cc)

-- the first word of the next pair isn't too long
pub first-short : (number : ℕ) (words pair later : List (Bor (List ℕ))) → words ≡ pair ++ later → length pair ≡ 2
    → limit_refusal (bytes_of (take 1 pair)) ≡ None
    → too_long_from number (firsts (bytes_of words)) ≡ too_long_from (number + 1) (firsts (bytes_of later))
first-short number words [] later parted two none = absurd (omega arith)
first-short number words (first ∷ []) later parted two none = absurd (omega arith)
first-short number words (first ∷ second ∷ []) later parted two none = grind (arith, common_steps)
first-short number words (first ∷ second ∷ third ∷ pair) later parted two none = absurd (omega arith)

-- a word alone is no pair
pub none-left : (words : List (Bor (List ℕ))) (number : ℕ) → length words < 2
    → too_long_from number (firsts (bytes_of words)) ≡ None
none-left [] number short = refl
none-left (first ∷ []) number short = refl
none-left (first ∷ second ∷ words) number short = absurd (omega arith)
