use Rattle.std.proofs.Common.{◌≡◌, ℕ}
use Rattle.std.specs.Slice.Iter.{chunks_exact_rest, chunks_exact_size}
use Rattle.ac_search.specs.Patterns.{bytes_of, limit_refusal, too_long_from}
use Rattle.acs.specs.Requests.{firsts}
use Rattle.acs.proofs.request.check_firsts.Given as goal

-- what is refused is refused for a first word that is still to come
abbrev pub invariant-loop-pair : goal.invariant-loop-pair
invariant-loop-pair l =
    record {
      can_next : goal.iterator-loop-pair.can_next l.pair-iterator;
      is_finite : goal.iterator-loop-pair.is_finite l.pair-iterator;
      size : chunks_exact_size l.pair-iterator ≡ 2;
      left : (number : ℕ) × (limit_refusal (firsts (bytes_of l.words))
          ≡ too_long_from number (firsts (bytes_of (chunks_exact_rest l.pair-iterator))));
    }
