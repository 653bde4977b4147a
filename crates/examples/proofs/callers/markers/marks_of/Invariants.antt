use Rattle.std.proofs.Common.{◌≡◌, ◌<◌, ℕ, ◌||◌, ◌==◌, Bool, get_or, length}
use Rattle.std.specs.List.{AllByRecursion, list_any}
use Rattle.ac_search.specs.Prelude.{whole_input, LiesIn}
use Rattle.examples.specs.Callers.{occurs_in}
use Rattle.examples.proofs.callers.markers.marks_of.Given as goal

-- a pattern that occurs is marked, or is that of an item still to come
abbrev pub invariant-loop-m : goal.invariant-loop-m
invariant-loop-m l =
    record {
      numbered : AllByRecursion (LiesIn l.searcher.built (whole_input l.line)) l.m-iterator.rest;
      whole : length l.marks.items ≡ length l.searcher.built.patterns;
      each : (i : ℕ) (d : Bool) → i < length l.searcher.built.patterns
          → (get_or l.marks.items i d || list_any (λ m. m.pattern == i) l.m-iterator.rest) ≡ occurs_in l.searcher.built l.line i;
    }
