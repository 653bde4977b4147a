-- The words of the plain search.
use Rattle.std.specs.Prelude.{◌≡◌, ℕ, ◌<◌, ◌≤◌, ◌++◌, Bool, IfOk, List, Result}
use Rattle.std.specs.declared.alloc.AllocError.{AllocError}
use Rattle.std.specs.declared.vec.Vec.{Vec}
use Rattle.ac_util.specs.declared.search.Anchored.{Anchored}
use Rattle.ac_util.specs.declared.search.Span.{Span}
use Rattle.ac_util.specs.Occurrence.{Occurrence, Search}

-- the search for these patterns in a span of a haystack
abbrev pub search_within : List (List ℕ) → Bool → List ℕ → Anchored → Span → Search
search_within patterns ignores_case haystack anchored span = record {
  patterns = patterns;
  ignores_case = ignores_case;
  haystack = haystack;
  anchored = anchored;
  low = span.start;
  high = span.end;
}

-- the answer has these items, unless memory was refused
abbrev pub AnswersItems : {X Z : Type 0} → List X → Result (Vec X Z) AllocError → Type 0
AnswersItems items result = IfOk result (λ answer. answer.items ≡ items)

-- these matches were added, unless memory was refused
abbrev pub Adds : {Z : Type 0} → Vec Occurrence Z → Vec Occurrence Z → List Occurrence → Result (Unit {0}) AllocError
    → Type 0
Adds old new added result = IfOk result (λ _. new.items ≡ old.items ++ added)

-- m can be exchanged for a text: it lies within a haystack of so many bytes, and its pattern has one of so many
-- texts
pub record IsReplaceable (bytes texts : ℕ) (m : Occurrence) : Type 0 where
  pub numbered : m.pattern < texts
  pub ordered : m.start ≤ m.end
  pub within : m.end ≤ bytes

-- a ends before b starts, or there
abbrev pub EndsBy : Occurrence → Occurrence → Type 0
EndsBy a b = a.end ≤ b.start
