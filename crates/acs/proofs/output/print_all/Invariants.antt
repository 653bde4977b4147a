use Rattle.std.specs.Prelude.{List}
use Rattle.ac_search.specs.Occurrence.{Occurrence}
use Rattle.acs.specs.Printed.{GivesRest, IsPrinting}
use Rattle.acs.proofs.output.print_all.Given as goal

-- of the matches that the iterator had left some are printed
abbrev pub invariant-loop-m : goal.invariant-loop-m
invariant-loop-m g l =
    let told = g.W.Sink.told in
    record {
      can_next : (goal.iterator-loop-m g).can_next l.m-iterator;
      is_finite : (goal.iterator-loop-m g).is_finite l.m-iterator;
      printing : (rest : _ → List Occurrence) → GivesRest (goal.iterator-loop-m g).next_gives rest
          → IsPrinting (rest l.fn.matches) (rest l.m-iterator) (told l.fn.writer) (told l.writer) l.text.items l.outcome;
    }
