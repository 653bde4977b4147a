-- Classes of bytes that an automaton need not distinguish.
use Rattle.std.specs.Prelude.{◌≡◌, ℕ, zero, suc, ◌+◌, ◌^◌, ◌<◌, ◌≤◌, Bool, true, ◌||◌, nat_le, List, length, map, find, slice_index, None, Some, unwrap_or, if◌then◌else◌, ⊤}
use Rattle.std.specs.List.{range_with_len, list_any}
use Rattle.ac_util.specs.declared.search.MatchKind.{MatchKind}
use Rattle.ac_util.specs.declared.search.Anchored.{Anchored}
use Rattle.ac_util.specs.Occurrence.{plain_byte, plain, same_byte}
use Rattle.ac_util.specs.Node.{Node, is_node, step}

-- u is a node of the automaton
abbrev pub IsNode : MatchKind → List (List ℕ) → Node → Type 0
IsNode kind patterns None = ⊤
IsNode kind patterns (Some u) = is_node kind patterns u ≡ true

-- an automaton may step by the class of a byte in place of the byte: byte 0 has class 0, classes rise by at
-- most one along the bytes, and two bytes of one class lead alike from every node
pub record IsLawful (class : ℕ → ℕ) (kind : MatchKind) (ignores_case : Bool) (patterns : List (List ℕ)) : Type 0 where
  pub begins : class 0 ≡ 0
  pub rises : (b : ℕ) → b < 255 → class b ≤ class (b + 1)
  pub rises_by_one : (b : ℕ) → b < 255 → class (b + 1) ≤ class b + 1
  pub steps_alike : (a b : ℕ) → a < 256 → b < 256 → class a ≡ class b
      → (anchored : Anchored) (u : Node) → IsNode kind (map (plain ignores_case) patterns) u
      → step kind (map (plain ignores_case) patterns) anchored u (plain_byte ignores_case a)
      ≡ step kind (map (plain ignores_case) patterns) anchored u (plain_byte ignores_case b)

-- whether it stands in some pattern
abbrev pub is_in_patterns : Bool → List (List ℕ) → ℕ → Bool
is_in_patterns ignores_case patterns b = list_any (λ p. list_any (same_byte ignores_case b) p) patterns

-- the class of a byte: it rises at each byte that stands in a pattern, and at the byte after it
unfoldable pub class_of : Bool → List (List ℕ) → ℕ → ℕ
class_of ignores_case patterns zero = 0
class_of ignores_case patterns (suc b) =
    class_of ignores_case patterns b
    + (if is_in_patterns ignores_case patterns (suc b) || is_in_patterns ignores_case patterns b then 1 else 0)

-- the classes of all bytes
unfoldable pub classes_of : Bool → List (List ℕ) → List ℕ
classes_of ignores_case patterns = map (class_of ignores_case patterns) (range_with_len 0 256)

-- each byte as a class of its own
unfoldable pub singletons : List ℕ
singletons = range_with_len 0 256

-- the class of a byte, where these are the classes of all bytes
abbrev pub class_at : List ℕ → ℕ → ℕ
class_at classes b = slice_index classes b

-- how many classes there are
abbrev pub alphabet_len : List ℕ → ℕ
alphabet_len classes = class_at classes 255 + 1

-- the exponent of the least power of two that is not below the number of classes
unfoldable pub stride2 : List ℕ → ℕ
stride2 classes = unwrap_or (find (λ k. nat_le (alphabet_len classes) (2 ^ k)) (range_with_len 0 8)) 8

-- the least power of two that is not below the number of classes
abbrev pub stride : List ℕ → ℕ
stride classes = 2 ^ stride2 classes

-- each byte has a class: byte 0 has class 0, and classes rise by at most one along the bytes
pub record AreClasses (classes : List ℕ) : Type 0 where
  pub whole : length classes ≡ 256
  pub begins : class_at classes 0 ≡ 0
  pub rises : (b : ℕ) → b < 255 → class_at classes b ≤ class_at classes (b + 1)
  pub rises_by_one : (b : ℕ) → b < 255 → class_at classes (b + 1) ≤ class_at classes b + 1

-- each byte of a pattern has a class of its own
pub record SetsApart (ignores_case : Bool) (patterns : List (List ℕ)) (classes : List ℕ) : Type 0 where
  pub own : (a b : ℕ) → a < 256 → b < 256 → is_in_patterns ignores_case patterns b ≡ true
      → class_at classes a ≡ class_at classes b → a ≡ b
