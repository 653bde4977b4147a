use Rattle.std.specs.List.{AllByRecursion}
use Rattle.ac_search.specs.Built.{IsBetweenCharacters}
use Rattle.examples.proofs.callers.words.parts_of.Given as goal

abbrev pub invariant-loop-m : goal.invariant-loop-m
invariant-loop-m l = AllByRecursion (IsBetweenCharacters l.text) l.m-iterator.rest
