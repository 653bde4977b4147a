-- The starts so far, and those of the matches still to come, are those of the walk.
use Rattle.std.proofs.Common.{◌≡◌, ◌++◌, map}
use Rattle.ac_search.specs.Built.{walk_result}
use Rattle.ac_search.specs.Input.{whole_input}
use Rattle.examples.proofs.callers.starts.starts_of.Given as goal

abbrev pub invariant-loop-m : goal.invariant-loop-m
invariant-loop-m l =
    l.starts.items ++ map (λ m. m.start) l.m-iterator.rest
    ≡ map (λ m. m.start) (walk_result l.searcher.built (whole_input l.haystack))
