use Rattle.std.proofs.Common.{◌+◌, ◌<◌, ◌≤◌, length}
use Rattle.std.specs.List.{AllByRecursion}
use Rattle.examples.proofs.callers.labels.labels_in.Given as goal

abbrev pub invariant-loop-m : goal.invariant-loop-m
invariant-loop-m l =
    record {
      labelled : AllByRecursion (λ m. m.pattern < length l.labels) l.m-iterator.rest;
      few : length l.found.items + length l.m-iterator.rest ≤ length l.text + 1;
    }
