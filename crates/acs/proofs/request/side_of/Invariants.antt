use Rattle.std.proofs.Common.{◌≡◌, ◌++◌}
use Rattle.std.specs.Slice.Iter.{chunks_exact_rest, chunks_exact_size}
use Rattle.ac_search.specs.Patterns.{bytes_of}
use Rattle.acs.specs.Requests.{side}
use Rattle.acs.proofs.request.side_of.Given as goal

-- the words of that side so far, and those to come, are all
abbrev pub invariant-loop-pair : goal.invariant-loop-pair
invariant-loop-pair g l =
    record {
      can_next : (goal.iterator-loop-pair g).can_next l.pair-iterator;
      is_finite : (goal.iterator-loop-pair g).is_finite l.pair-iterator;
      size : chunks_exact_size l.pair-iterator ≡ 2;
      gathered : bytes_of l.side.items ++ side l.second (bytes_of (chunks_exact_rest l.pair-iterator))
          ≡ side l.second (bytes_of l.words);
    }
