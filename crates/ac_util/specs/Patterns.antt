-- Lists of patterns: their bytes, their sizes, and the limits of these.
use Rattle.std.specs.Prelude.{ℕ, List, map, ◌≡◌, ◌≤◌, [], ◌∷◌, slice_range, ◌+◌, ◌-◌, nat_lt, Option, None, Some, Result, Err, MatchOption, length, All, if◌then◌else◌, not, take, filter, flat_map, bytes_eq, min, max}
use Rattle.std.specs.Borrow.{Bor}
use Rattle.ac_util.specs.declared.primitives.TheConstants.{GREATEST}
use Rattle.ac_util.specs.declared.error.BuildError.{BuildError}
use Rattle.ac_util.specs.declared.error.BuildError.TheVariants.{PatternIdOverflow, PatternTooLong}
use Rattle.std.specs.List.{range_with_len}
use Rattle.ac_util.specs.declared.search.MatchKind.{MatchKind}
use Rattle.ac_util.specs.Occurrence.{pattern_of}
use Rattle.ac_util.specs.Node.{participants}

-- the strings that are borrowed
abbrev pub bytes_of : List (Bor (List ℕ)) → List (List ℕ)
bytes_of strings = map (λ s. s.now) strings

-- the bounds rise up to the last offset, which is one of them
abbrev pub AreBounds : List ℕ → ℕ → Type 0
AreBounds [] last = ⊥
AreBounds (b ∷ []) last = b ≡ last
AreBounds (b ∷ e ∷ es) last = (b ≤ e) × AreBounds (e ∷ es) last

-- the pieces, from each bound up to the next
abbrev pub pieces : {X : Type 0} → List X → List ℕ → List (List X)
pieces items [] = []
pieces items (b ∷ []) = []
pieces items (b ∷ e ∷ es) = slice_range items b e ∷ pieces items (e ∷ es)

-- every pattern has a number, and no pattern is too long
pub record IsWithinLimits (patterns : List (List ℕ)) : Type 0 where
  pub numbered : length patterns ≤ GREATEST + 1
  pub short : All (λ p. length p ≤ GREATEST) patterns

-- the first of the patterns, numbered from `number` on, that is too long
abbrev pub too_long_from : ℕ → List (List ℕ) → Option BuildError
too_long_from number [] = None
too_long_from number (p ∷ ps) =
    if nat_lt GREATEST (length p) then Some (PatternTooLong number (length p))
    else too_long_from (number + 1) ps

-- why a list of patterns is refused, if it is: too many are reported before one that is too long
abbrev pub limit_refusal : List (List ℕ) → Option BuildError
limit_refusal patterns =
    if nat_lt (GREATEST + 1) (length patterns) then Some (PatternIdOverflow GREATEST (length patterns - 1))
    else too_long_from 0 patterns

-- the answer is why the patterns are refused, if they are; else it is as this says
abbrev pub IsCheckedFirst : {X : Type 0} → List (List ℕ) → Result X BuildError → Type 0 → Type 0
IsCheckedFirst patterns result otherwise =
    MatchOption (limit_refusal patterns) otherwise (λ refusal. result ≡ Err refusal)

-- the greatest number that a usize has
abbrev pub usize_max : ℕ
usize_max = 18446744073709551615

-- the length of the longest pattern, 0 without patterns
abbrev pub longest_len : List (List ℕ) → ℕ
longest_len [] = 0
longest_len (p ∷ ps) = max (length p) (longest_len ps)

-- the length of the shortest pattern, the greatest usize without patterns
abbrev pub shortest_len : List (List ℕ) → ℕ
shortest_len [] = usize_max
shortest_len (p ∷ ps) = min (length p) (shortest_len ps)

-- the prefixes of a pattern that aren't empty, shortest first
abbrev pub prefixes : List ℕ → List (List ℕ)
prefixes p = map (λ n. take n p) (range_with_len 1 (length p))

-- each of the strings once
abbrev pub distinct : List (List ℕ) → List (List ℕ)
distinct [] = []
distinct (u ∷ us) = u ∷ filter (λ w. not (bytes_eq u w)) (distinct us)

-- the nodes other than the empty and the dead one
abbrev pub inner_nodes : MatchKind → List (List ℕ) → List (List ℕ)
inner_nodes kind patterns =
    distinct (flat_map (λ number. prefixes (pattern_of patterns number)) (participants kind patterns))

-- these, the dead and the fail state, and one start for each anchoring. The patterns are plain ones
abbrev pub state_count : MatchKind → List (List ℕ) → ℕ
state_count kind patterns = 4 + length (inner_nodes kind patterns)
