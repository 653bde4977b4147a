use Rattle.std.proofs.Common.{◌≡◌, ◌≤◌, ◌++◌, length, map}
use Rattle.ac_search.specs.Alike.{StandInOrder}
use Rattle.ac_search.specs.Built.{walk_result}
use Rattle.ac_search.specs.Input.{whole_input}
use Rattle.examples.specs.Callers.{line_at}
use Rattle.examples.proofs.callers.line_numbers.line_numbers.Given as goal

-- line feeds were counted up to an offset, and the matches still to come start there or later
abbrev pub invariant-loop-m : goal.invariant-loop-m
invariant-loop-m l =
    record {
      line : l.line ≡ line_at l.haystack l.counted;
      inside : l.counted ≤ length l.haystack;
      later : StandInOrder l.counted (length l.haystack) l.m-iterator.rest;
      numbers : l.numbers.items ++ map (λ m. line_at l.haystack m.start) l.m-iterator.rest
          ≡ map (λ m. line_at l.haystack m.start) (walk_result l.searcher.built (whole_input l.haystack));
    }
