-- Lists of classes: those of the patterns' bytes, and each byte as a class of its own.
use Rattle.ac_util.proofs.Prelude.{◌≡◌, ℕ, zero, suc, ◌+◌, ◌-◌, ◌<◌, ◌≤◌, Bool, false, List, length, get_or, replicate, inl, inr, refl, ap, sym, ◌∙◌, arith, rules, false≢true, length-range_with_len, get_or-range_with_len, length-map-range_with_len, get_or-map-range_with_len, same_number_lists, common_steps}
use Rattle.ac_util.specs.Prelude.{alphabet_len, AreClasses, class_at, class_of, classes_of, IsLawful, MatchKind, SetsApart, singletons}
use Rattle.ac_util.proofs.ClassLemmas.{class-zero, class-rises, class-rises_by_one, strangers, class_of-lawful}

-- no byte is marked at first
pub none_marked : (n k : ℕ) → get_or (replicate n false) k false ≡ false
none_marked zero k = refl
none_marked (suc n) zero = refl
none_marked (suc n) (suc k) = none_marked n k

-- an automaton may step by classes that are, of all bytes, those of others that it may step by
lawful-alike : (kind : MatchKind) (ignores_case : Bool) (patterns : List (List ℕ)) (f g : ℕ → ℕ)
    → ((b : ℕ) → b < 256 → g b ≡ f b) → IsLawful f kind ignores_case patterns → IsLawful g kind ignores_case patterns
lawful-alike kind ignores_case patterns f g same lawful = record {
  begins = same 0 (omega arith) ∙ lawful.begins;
  rises = λ b h. omega (arith, same b (omega arith), same (b + 1) (omega arith), lawful.rises b h);
  rises_by_one = λ b h. omega (arith, same b (omega arith), same (b + 1) (omega arith), lawful.rises_by_one b h);
  steps_alike = λ a b low high e. lawful.steps_alike a b low high (sym (same a low) ∙ e ∙ same b high);
}

-- the classes of the patterns' bytes
module _ (ignores_case : Bool) (patterns : List (List ℕ)) where
  -- the class that is read for a byte
  class_at-of : (b : ℕ) → b < 256 → class_at (classes_of ignores_case patterns) b ≡ class_of ignores_case patterns b
  unfolding classes_of
  class_at-of b h = get_or-map-range_with_len (class_of ignores_case patterns) 0 256 b b 0 h (omega arith)

  -- as many are read as there are bytes
  length-classes_of : length (classes_of ignores_case patterns) ≡ 256
  unfolding classes_of
  length-classes_of = length-map-range_with_len (class_of ignores_case patterns) 0 256

  -- they are the classes of all bytes
  pub classes_of-AreClasses : AreClasses (classes_of ignores_case patterns)
  classes_of-AreClasses = search (rules, class-rises, class-rises_by_one, class-zero, class_at-of, length-classes_of)

  -- an automaton may step by the classes that are read
  pub classes_of-lawful : (kind : MatchKind) → IsLawful (class_at (classes_of ignores_case patterns)) kind ignores_case patterns
  classes_of-lawful kind =
      lawful-alike kind ignores_case patterns (class_of ignores_case patterns) (class_at (classes_of ignores_case patterns)) class_at-of
      (class_of-lawful ignores_case patterns kind)

  -- a list in which each byte has this class is the list of them
  pub classes_of-from_each : (classes : List ℕ) → length classes ≡ 256
      → ((b : ℕ) → b < 256 → class_at classes b ≡ class_of ignores_case patterns b) → classes ≡ classes_of ignores_case patterns
  classes_of-from_each classes whole each = search (rules, class_at-of, length-classes_of, same_number_lists)

  -- a byte of a pattern has a class of its own
  pub classes_of-set_apart : SetsApart ignores_case patterns (classes_of ignores_case patterns)
  classes_of-set_apart = record {
    own = λ a b low high here e. elim (strangers ignores_case patterns a b (sym (class_at-of a low) ∙ e ∙ class_at-of b high)) [
      | inl same ↦ same
      | inr s ↦ absurd (false≢true (sym s.right ∙ here))
    ];
  }

-- what is read of each byte as a class of its own
class_at-singletons : (b : ℕ) → b < 256 → class_at singletons b ≡ b
unfolding singletons
class_at-singletons b h = get_or-range_with_len 0 256 b 0 h ∙ omega arith

-- as many are read as there are bytes
length-singletons : length singletons ≡ 256
unfolding singletons
length-singletons = length-range_with_len 0 256

-- a list in which each byte is its own class is the list of them
pub singletons-from_each : (classes : List ℕ) → length classes ≡ 256
    → ((b : ℕ) → b < 256 → class_at classes b ≡ b) → classes ≡ singletons
singletons-from_each classes whole each = search (rules, class_at-singletons, length-singletons, same_number_lists)

-- they are the classes of all bytes too
pub singletons-AreClasses : AreClasses singletons
singletons-AreClasses = search (rules, class_at-singletons, length-singletons)

-- an automaton may step by them as they are read
pub singletons-lawful : (ignores_case : Bool) (patterns : List (List ℕ)) (kind : MatchKind)
    → IsLawful (class_at singletons) kind ignores_case patterns
singletons-lawful ignores_case patterns kind = search (rules, class_at-singletons, lawful-alike)

-- and each byte, of a pattern or not, has a class of its own
pub singletons-set_apart : (ignores_case : Bool) (patterns : List (List ℕ)) → SetsApart ignores_case patterns singletons
singletons-set_apart ignores_case patterns = search (rules, class_at-singletons)

-- of the classes of all bytes
module _ (classes : List ℕ) (are : AreClasses classes) where
  -- a byte n places after another has no lesser class
  class_at-monotone : (n a : ℕ) → a + n < 256 → class_at classes a ≤ class_at classes (a + n)
  class_at-monotone zero a h = omega (arith, ap (class_at classes) (let e : a + 0 ≡ a = omega arith in e))
  class_at-monotone (suc n) a h =
      omega (
        arith,
        ap (class_at classes) (let e : a + suc n ≡ a + n + 1 = omega arith in e),
        are.rises (a + n) (omega arith),
        class_at-monotone n a (omega arith),
      )

  -- each is below their number
  pub class_at-below : (b : ℕ) → b < 256 → class_at classes b < alphabet_len classes
  class_at-below b h = grind (arith, common_steps, class_at-monotone (255 - b) b (omega arith))

  -- none is above its byte
  class_at-le : (b : ℕ) → b < 256 → class_at classes b ≤ b
  class_at-le zero h = omega (arith, are.begins)
  class_at-le (suc b) h = grind (arith, common_steps, class_at-le b (omega arith))

  -- so there are no more than bytes
  pub alphabet_len-few : alphabet_len classes ≤ 256
  alphabet_len-few = omega (arith, class_at-le 255 (omega arith))
