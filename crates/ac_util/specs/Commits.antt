-- What a leftmost walk has found once it has read some bytes, whatever bytes follow them.
use Rattle.std.specs.Prelude.{◌≡◌, ℕ, ◌+◌, ◌<◌, ◌≤◌, true, List, [], ◌∷◌, ◌++◌, length, map, drop, nat_eq, Option, Some, MatchOption}
use Rattle.std.specs.List.{starts_with}
use Rattle.std.specs.Bool.{⊤}
use Rattle.ac_util.specs.declared.search.Anchored.{Anchored}
use Rattle.ac_util.specs.declared.search.Anchored.TheVariants.{No, Yes}
use Rattle.ac_util.specs.declared.search.MatchKind.{MatchKind}
use Rattle.ac_util.specs.Node.{outward, plain_patterns, reached, text}
use Rattle.ac_util.specs.Occurrence.{from, Occurrence, occurrence, pattern_of, Search}
use Rattle.ac_util.specs.Pick.{IsFirst}
use Rattle.ac_util.specs.Stream.{last_end}
use Rattle.ac_util.specs.Walk.{walk}

-- pattern n is a prefix of w
pub record Prefixes (patterns : List (List ℕ)) (w : List ℕ) (n : ℕ) : Type 0 where
  pub numbered : n < length patterns
  pub front : starts_with nat_eq w (pattern_of patterns n) ≡ true

-- pattern n stands in the text w from place s on, and if anchored at its front
pub record Stands (patterns : List (List ℕ)) (anchored : Anchored) (w : List ℕ) (n s : ℕ) : Type 0 where
  pub within : s ≤ length w
  pub prefixes : Prefixes patterns (drop s w) n
  pub at_front : anchored ≡ Yes → s ≡ 0

-- its place there
abbrev pub standing_at : List (List ℕ) → ℕ → ℕ → Occurrence
standing_at patterns n s = occurrence n s (s + length (pattern_of patterns n))

-- m stands in w, and nothing that stands there is preferred to it
pub record IsBestIn (kind : MatchKind) (patterns : List (List ℕ)) (anchored : Anchored) (w : List ℕ)
    (m : Occurrence) : Type 0 where
  pub stands : Stands patterns anchored w m.pattern m.start
  pub as_long : m.start + length (pattern_of patterns m.pattern) ≡ m.end
  pub first : (n s : ℕ) → Stands patterns anchored w n s → IsFirst kind m (standing_at patterns n s)

-- r is that, or it is None and nothing stands in w
abbrev pub IsPickIn : MatchKind → List (List ℕ) → Anchored → List ℕ → Option Occurrence → Type 0
IsPickIn kind patterns anchored w r =
    MatchOption r ((n s : ℕ) → ¬ Stands patterns anchored w n s) (IsBestIn kind patterns anchored w)

-- an unanchored search for these plain patterns, in a span of its haystack
pub record IsSearchFor (patterns : List (List ℕ)) (q : Search) : Type 0 where
  pub free : q.anchored ≡ No
  pub ordered : q.low ≤ q.high
  pub inside : q.high ≤ length q.haystack
  pub same : plain_patterns q ≡ patterns

-- a text begins with w. Whatever follows that is such, its walk gives these matches first, all within w, and goes on from the
-- end of the last; and what w has from there on leads to the node v
pub record Commits (kind : MatchKind) (patterns : List (List ℕ)) (w : List ℕ) (Follows : List ℕ → Type 0)
    (ms : List Occurrence) (v : List ℕ) : Type 0 where
  pub gives : (q : Search) (y : List ℕ) → IsSearchFor patterns q → text q ≡ w ++ y → Follows y
      → walk kind q ≡ map (outward q.low) ms ++ walk kind (from q (q.low + last_end ms))
  pub within : last_end ms ≤ length w
  pub stands : reached kind patterns No (drop (last_end ms) w) ≡ Some v

-- what may follow: anything, or nothing
abbrev pub Anything : List ℕ → Type 0
Anything y = ⊤

abbrev pub Nothing : List ℕ → Type 0
Nothing y = y ≡ []

-- m is picked in the string u. Whatever follows u that is such, a walk of what u has after m gives these matches first, and then
-- stands at the node v
pub record NodeCommits (kind : MatchKind) (patterns : List (List ℕ)) (u : List ℕ) (Follows : List ℕ → Type 0)
    (m : Occurrence) (ms : List Occurrence) (v : List ℕ) : Type 0 where
  pub picked : IsPickIn kind patterns No u (Some m)
  pub rest : Commits kind patterns (drop m.end u) Follows ms v

-- where the last of some matches ends that follow a place
abbrev pub end_after : ℕ → List Occurrence → ℕ
end_after low [] = low
end_after low (m ∷ ms) = end_after m.end ms

-- a walk gives these matches first; of what follows the last of them it has read as far as an offset, which leads to the node v
pub record StandsAfter (kind : MatchKind) (patterns : List (List ℕ)) (q : Search) (ms : List Occurrence) (v : List ℕ)
    (at : ℕ) : Type 0 where
  pub gives : walk kind q ≡ ms ++ walk kind (from q (end_after q.low ms))
  pub within : end_after q.low ms ≤ at
  pub inside : at ≤ q.high
  pub stands : reached kind patterns No (text (record q { low = end_after q.low ms; high = at })) ≡ Some v
