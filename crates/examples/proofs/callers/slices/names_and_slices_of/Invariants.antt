use Rattle.std.specs.List.{AllByRecursion}
use Rattle.ac_search.specs.Prelude.{whole_input, LiesIn}
use Rattle.examples.proofs.callers.slices.names_and_slices_of.Given as goal

abbrev pub invariant-loop-m : goal.invariant-loop-m
invariant-loop-m l = AllByRecursion (LiesIn l.searcher.built (whole_input l.haystack)) l.m-iterator.rest
